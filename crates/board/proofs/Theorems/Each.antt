-- What `history` says of the tests over all points and over all records, for the theorems of a board, and the largest of what
-- the records give. Assumes nothing.
use mathlib.Core.List.{List, [], ◌∷◌}
use Prim.Native.Nat.{ℕ, suc, ◌≤◌, ◌<◌}
use native.Mathlib.Omega.{arith}
use lib.ListN.{length, get_or}
use Rattle.plan.specs.APlan.{blank}
use Rattle.records.specs.declared.Record.{Record}
pub use Rattle.history.proofs.Tests.{clash, differ, both, and_both, either, unless, as_unless}
pub use Rattle.history.proofs.Lists.{has, has_append, every_has, has_every, every_point, point_every, has_members, members_has, every_member, member_every, subset_below, below_subset, each_at, at_each, largest_le, largest_ge, largest_at}
use Rattle.board.specs.Windows.{greatest}

-- The largest of what the records give is no more than n where each gives no more.
pub greatest_le : (f : Record → ℕ) (n : ℕ) (rs : List Record) → ((i : ℕ) → i < length rs → f (get_or rs i blank) ≤ n) → greatest f rs ≤ n
unfolding greatest
greatest_le f n [] h = omega arith
greatest_le f n (r ∷ rs) h = omega (arith, h 0 (omega arith), greatest_le f n rs (λ i l. h (suc i) (omega arith)))
