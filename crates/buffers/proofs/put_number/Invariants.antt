-- `buffers::put_number` meets its contract. Assumes nothing.
use Rattle.buffers.proofs.Digits.{Stored}
use Rattle.buffers.proofs.put_number.Given as goal

abbrev pub invariant-loop-m : goal.invariant-loop-m
invariant-loop-m l = Stored l.initial.out l.at l.n l.next l.out l.i l.m

abbrev pub decreases-loop-m : goal.decreases-loop-m
decreases-loop-m l = l.m
