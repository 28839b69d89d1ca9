-- `lighter::without` meets its contract. Assumes nothing.
use Rattle.lighter.proofs.Copying.{Copied}
use Rattle.lighter.proofs.without.Given as goal

abbrev pub invariant-loop-i : goal.invariant-loop-i
invariant-loop-i l = Copied l.plan l.at l.n l.records l.i
