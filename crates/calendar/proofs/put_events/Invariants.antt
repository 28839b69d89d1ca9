-- `calendar::put_events` meets its contract. Assumes nothing.
use Rattle.calendar.proofs.Going.{Put}
use Rattle.calendar.proofs.put_events.Given as goal

abbrev pub invariant-loop-p : goal.invariant-loop-p
invariant-loop-p l = Put l.ponds l.board l.origin l.initial.out l.at l.n l.out l.next l.p
