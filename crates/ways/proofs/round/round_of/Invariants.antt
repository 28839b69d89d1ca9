-- `ways::round::round_of` meets its contract. Assumes nothing.
use Rattle.ways.proofs.Rounding.{Rounding}
use Rattle.ways.proofs.round.round_of.Given as goal

abbrev pub invariant-loop-k : goal.invariant-loop-k
invariant-loop-k l = Rounding l.sheet l.durations l.m l.n l.end l.k
