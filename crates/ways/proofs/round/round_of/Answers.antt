-- `ways::round::round_of` meets its contract. Assumes nothing.
use Rattle.ways.proofs.Rounding.{rounding_here, rounding_more}
use native.Mathlib.Omega.{arith}
use Rattle.ways.proofs.round.round_of.Goals as goal

pub returns-then-closing : goal.returns-then-closing
returns-then-closing c = rounding_here c.loop-k.invariant (omega (arith, c.loop-k-test.true)) c.finished.ensures

pub loop-k-preserved : goal.loop-k-preserved
loop-k-preserved c = rounding_more c.loop-k.invariant (omega (arith, c.loop-k-test.true)) c.closing.ensures c.if-closing.false
