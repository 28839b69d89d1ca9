-- `calendar::text_length` meets its contract. Assumes nothing.
use Rattle.calendar.proofs.Going.{Counted}
use Rattle.calendar.proofs.text_length.Given as goal

abbrev pub invariant-loop-p : goal.invariant-loop-p
invariant-loop-p l = Counted l.ponds l.n l.k l.p
