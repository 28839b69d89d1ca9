-- `rounds::lower_by` meets its contract. Assumes nothing.
use Rattle.rounds.proofs.Lowering.{Lowering}
use Rattle.rounds.proofs.lower_by.Given as goal

abbrev pub invariant-loop-j : goal.invariant-loop-j
invariant-loop-j l = Lowering l.x l.l l.initial.t l.j l.t
