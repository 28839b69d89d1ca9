-- `board::event::take_next` meets its contract. Assumes nothing.
use native.Mathlib.Omega.{arith}
use Rattle.board.proofs.Opening.{given}
use Rattle.board.proofs.ByPlan.{taken_known, taken_sound}
use Rattle.board.proofs.Theorems.Soundness.{HeldBoard}
use Rattle.board.proofs.event.take_next.Goals as goal

pub windows_of-w-requires : goal.windows_of-w-requires
windows_of-w-requires c = given c.args.plan c.args.board c.args.links (omega (arith, c.well_formed.1.0.1.1.1.0.1)) c.requires

pub returns : goal.returns
returns c =
    let a = c.args in
    let g = c.well_formed.1.0.1.1.1 in
    let held : HeldBoard a.board = record { room = g.1.0.1.0.1; done = omega (arith, g.0.1); calls = g.1.1.0.1.0.1 } in
    let t = c.take_from.ensures in
    (taken_known a.plan a.board a.links c.requires held _ c.windows_of-w.ensures a.event.now _ t.taken, taken_sound a.plan a.board a.links c.requires held _ c.windows_of-w.ensures a.event.now _ t.taken t.set)
