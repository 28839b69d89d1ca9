-- `lengths::meet` meets its contract. Assumes nothing.
use Rattle.lengths.proofs.Meeting.{meeting_none, meeting_more, meeting_all}
use native.Mathlib.Omega.{arith}
use Rattle.lengths.proofs.meet.Goals as goal

pub loop-k-init : goal.loop-k-init
loop-k-init c = meeting_none _ _ c.requires

pub loop-k-preserved : goal.loop-k-preserved
loop-k-preserved c = meeting_more c.loop-k.invariant (omega (arith, c.loop-k-test.true)) c.both.ensures c.min-best.ensures

pub returns : goal.returns
returns c = meeting_all c.loop-k.invariant (omega (arith, c.loop-k-test.false))
