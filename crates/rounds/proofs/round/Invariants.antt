-- `rounds::round` meets its contract. Assumes nothing.
use Prim.Native.Nat.{◌≤◌}
use Rattle.rounds.specs.Ways.{Rounded}
use Rattle.rounds.proofs.round.Given as goal

abbrev pub invariant-loop-q : goal.invariant-loop-q
invariant-loop-q l = (l.q ≤ l.m) × Rounded l.sheet l.durations l.m l.n l.q l.initial.t l.t
