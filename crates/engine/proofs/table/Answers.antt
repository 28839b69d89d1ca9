-- `engine::table` meets its contract. Assumes nothing.
use Prim.Native.Nat.{◌-◌}
use Rattle.engine.proofs.Reading.{reads_start, reads_turn, reads_end}
use Rattle.engine.proofs.table.Goals as goal

pub loop-q-init : goal.loop-q-init
loop-q-init c = (c.requires, reads_start _ _)

pub loop-q-preserved : goal.loop-q-preserved
loop-q-preserved c = (c.loop-q.invariant.0, reads_turn _ _ _ _ c.loop-q-test.true c.loop-q.invariant.1)

pub returns : goal.returns
returns c = reads_end _ _ _ _ c.loop-q-test.false c.loop-q.invariant.1
