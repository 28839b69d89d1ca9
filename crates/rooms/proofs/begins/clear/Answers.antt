-- `rooms::begins::clear` meets its contract. Assumes nothing.
use Prim.Native.Nat.{◌-◌}
use Rattle.rooms.proofs.Counting.{clearing_start, clearing_turn, clearing_end}
use Rattle.rooms.proofs.begins.clear.Goals as goal

pub loop-q-init : goal.loop-q-init
loop-q-init c = clearing_start _ c.zeros.ensures

pub loop-q-preserved : goal.loop-q-preserved
loop-q-preserved c = clearing_turn _ _ c.loop-q-test.true c.loop-q.invariant

pub returns : goal.returns
returns c = clearing_end _ _ _ c.loop-q-test.false c.loop-q.invariant
