-- `printing::print` meets its contract. Assumes nothing.
use lib.Dec.{eqb, ltb}
use lib.Seq.{length-take-le}
use borrow.Author.Tests.{ltb-true}
use Rattle.history.proofs.Tests.{both}
use Rattle.machine.proofs.Stages.{turned_within}
use native.Mathlib.Omega.{arith}
use Rattle.printing.proofs.print.Goals as goal

pub turn-stage-requires : goal.turn-stage-requires
turn-stage-requires c =
    let r = c.read_on-n in
    (omega (arith, c.loop.invariant.3), λ e. omega (arith, length-take-le r.result r.new.chunk r.ensures.room, ltb-true r.result 16 (both (eqb r.result c.loop.at) (ltb r.result 16) e).1))

pub carry-at-requires : goal.carry-at-requires
carry-at-requires c =
    let r = c.read_on-n in
    (omega (arith, turned_within _ c.turn-stage.ensures, length-take-le r.result r.new.chunk r.ensures.room), r.ensures.room)
