-- `asks::seen` meets its contract. Assumes nothing.
use native.Mathlib.Omega.{arith}
use Rattle.asks.proofs.Passing.{known_none, known_more, known_all}
use Rattle.asks.proofs.seen.Goals as goal

pub loop-c-init : goal.loop-c-init
loop-c-init c = rw c.none-s.ensures (known_none _)

pub loop-c-preserved : goal.loop-c-preserved
loop-c-preserved c = rw c.with-s.ensures (known_more _ _ _ (omega arith) c.loop-c.invariant (omega arith))

pub returns : goal.returns
returns c = known_all _ _ _ c.loop-c.invariant (omega arith)
