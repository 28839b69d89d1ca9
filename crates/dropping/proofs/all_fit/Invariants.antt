-- `dropping::all_fit` meets its contract. Assumes nothing.
use Rattle.dropping.proofs.Fitting.{Sofar}
use Rattle.dropping.proofs.all_fit.Given as goal

abbrev pub invariant-loop-i : goal.invariant-loop-i
invariant-loop-i l = Sofar l.sheet l.m l.n l.links l.many l.x l.y l.most l.past l.i
