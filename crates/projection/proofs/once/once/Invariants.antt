-- `projection::once::once` meets its contract. Assumes nothing.
use Prim.Native.Nat.{◌≤◌}
use Rattle.projection.specs.Once.{OnceDone}
use Rattle.projection.proofs.once.once.Given as goal

abbrev pub invariant-loop-q : goal.invariant-loop-q
invariant-loop-q l = (l.q ≤ l.m) × OnceDone l.sheet l.durations l.m l.n l.all l.initial.t l.t
