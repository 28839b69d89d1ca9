-- `asks::seen` meets its contract. Assumes nothing.
use Rattle.asks.proofs.Passing.{Known}
use Rattle.asks.proofs.seen.Given as goal

abbrev pub invariant-loop-c : goal.invariant-loop-c
invariant-loop-c l = Known l.word l.c-index l.s
