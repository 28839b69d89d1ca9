-- `link_numbers::links_room` meets its contract. Assumes nothing.
use Prim.Native.Nat.{◌-◌}
use mathlib.Core.Path.{refl}
use lib.ListN.{length-set}
use Rattle.link_numbers.proofs.Putting.{put_start, put_end, links_turn}
use native.Mathlib.Omega.{arith}
use Rattle.link_numbers.proofs.links_room.Goals as goal

pub loop-q-init : goal.loop-q-init
loop-q-init c = (omega arith, c.well_formed.0.1.1.1.1.0.1.0.1, refl, put_start _ _ _ _ _ refl)

pub loop-q-preserved : goal.loop-q-preserved
loop-q-preserved c =
    let i = c.loop-q.invariant in
    let h = c.loop-q-test.true in
    (omega arith, i.1, simp length-set i.2, links_turn _ _ _ _ h i.1 i.2 i.3 _ refl)

pub returns : goal.returns
returns c =
    let i = c.loop-q.invariant in
    put_end _ _ _ _ _ _ (omega (arith, i.1, c.loop-q-test.false)) (omega (arith, i.2, c.loop-q-test.false)) i.3
