-- `link_numbers::links_in` meets its contract. Assumes nothing.
use mathlib.Core.Path.{ap}
use mathlib.Core.List.{List}
use Prim.Native.Nat.{◌-◌}
use lib.ListN.{get_or}
use Rattle.links.specs.declared.End.{End}
use Rattle.link_numbers.specs.Rooms.{end_in}
use Rattle.link_numbers.proofs.Taking.{listed_start, listed_turn, listed_end}
use native.Mathlib.Omega.{arith}
use Rattle.link_numbers.proofs.links_in.Goals as goal

pub loop-q-init : goal.loop-q-init
loop-q-init c = (omega arith, listed_start _ _ _)

pub loop-q-preserved : goal.loop-q-preserved
loop-q-preserved c =
    let i = c.loop-q.invariant in
    (omega arith, listed_turn _ _ _ _ _ i.1 c.loop-q-test.true _ c.end_in.ensures)

pub returns : goal.returns
returns c =
    let room = c.args.room.now in
    ap
    (λ (ends : List End). record { points = get_or room 0 0; watched = get_or room 1 0; ends = ends })
    (listed_end _ _ _ _ _ c.loop-q.invariant.1 c.loop-q-test.false)
