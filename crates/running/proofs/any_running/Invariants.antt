-- `running::any_running` meets its contract. Assumes nothing.
use mathlib.Core.Path.{◌≡◌}
use mathlib.Core.Bool.{Bool, not}
use Prim.Native.Nat.{ℕ}
use Rattle.points.specs.Sets.{members_of, every}
use Rattle.links.specs.declared.Links.{Links}
use Rattle.running.specs.ByTable.{end_at, runs_to}
use Rattle.running.proofs.any_running.Given as goal

-- the link to a point is not running
abbrev pub idle : Links → ℕ → ℕ → Bool
idle l done c = not (runs_to done (end_at l c) c)

abbrev pub invariant-loop-p : goal.invariant-loop-p
invariant-loop-p l = every (idle l.links l.done) l.p-iterator ≡ every (idle l.links l.done) (members_of l.links.watched)
