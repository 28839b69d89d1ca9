-- `calls::done_numbered` meets its contract: the slots hold the points that are passed, and the others are the members of some set. Assumes
-- nothing.
use Rattle.std.proofs.Common.{◌≡◌, ℕ}
use Rattle.points.specs.Sets.{member, members_of}
use Rattle.calls.proofs.Slots.{SlotsOf}
use Rattle.calls.proofs.done_numbered.Given as goal

abbrev pub invariant-loop-p : goal.invariant-loop-p
invariant-loop-p l =
    (rest : ℕ) × (l.p-iterator ≡ members_of rest) × SlotsOf (member l.watched) l.done l.minutes l.calls rest l.seen l.foremans l.noted
