-- `taking::mark_set` meets its contract: what is left, marked too, gives the marks of all. Assumes nothing.
use Rattle.std.proofs.Common.{◌≡◌, length}
use Rattle.points.specs.Sets.{members_of}
use Rattle.taking.specs.Steps.{marked_by}
use Rattle.plan.specs.Limits.{most_points}
use Rattle.taking.proofs.mark_set.Given as goal

abbrev pub invariant-loop-p : goal.invariant-loop-p
invariant-loop-p l =
    (length l.minutes ≡ most_points) × (length l.calls ≡ most_points)
    × (marked_by l.t l.n l.p-iterator (record { done = l.done; minutes = l.minutes; calls = l.calls })
    ≡ marked_by l.t l.n (members_of l.set) (record { done = l.initial.done; minutes = l.initial.minutes; calls = l.initial.calls }))
