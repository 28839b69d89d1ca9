-- `verdict::first_broken` meets its contract. Assumes nothing.
use mathlib.Core.Path.{◌≡◌}
use Prim.Native.Nat.{ℕ, ◌≤◌, ◌<◌, min}
use lib.ListN.{length, drop, get_or}
use Rattle.plan.specs.Limits.{most_points, most_records}
use Rattle.plan.specs.APlan.{records_of}
use Rattle.plan.specs.ReplyNumbers.{check_of}
use Rattle.links.specs.Inside.{no_end, end_of}
use Rattle.verdict.specs.Verdicts.{first_broken}
use Rattle.verdict.proofs.Broken.{day_of}
use Rattle.verdict.proofs.first_broken.Given as goal

abbrev pub invariant-loop-i : goal.invariant-loop-i
invariant-loop-i l =
    (l.i ≤ l.n) × (l.n ≡ min l.plan.count most_records) × (length l.plan.records ≡ most_records) × (length l.minutes ≡ most_points) × (length l.ends ≡ most_points) × ((check_of l.plan).number ≡ 0)
    × ((p : ℕ) → p < most_points → get_or l.ends p no_end ≡ end_of (records_of l.plan) p)
    × (first_broken (records_of l.plan) (day_of l.minutes) l.i (drop l.i (records_of l.plan)) ≡ first_broken (records_of l.plan) (day_of l.minutes) 0 (records_of l.plan))
