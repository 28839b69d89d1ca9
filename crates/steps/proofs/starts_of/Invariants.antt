-- `steps::starts_of` meets its contract. Assumes nothing.
use Prim.Native.Nat.{◌-◌}
use Rattle.steps.proofs.Starting.{Filled}
use Rattle.steps.proofs.starts_of.Given as goal

abbrev pub invariant-loop-q : goal.invariant-loop-q
invariant-loop-q l = Filled l.sheet l.m l.starts l.q
