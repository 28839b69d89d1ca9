-- `rooms::begins::begin_kept` meets its contract. Assumes nothing.
use native.Mathlib.Omega.{arith}
use mathlib.Core.Path.{◌≡◌}
use Prim.Native.Nat.{◌-◌}
use Rattle.rooms.proofs.Counting.{begun_turn}
use Rattle.rooms.proofs.begins.begin_kept.Goals as goal

pub loop-i-init : goal.loop-i-init
loop-i-init c = (omega arith, c.requires, c.clear.ensures)

pub loop-i-preserved : goal.loop-i-preserved
loop-i-preserved c =
    let l = c.loop-i in
    let r = c.row_at-row.ensures in
    (omega arith, l.invariant.1, begun_turn _ _ _ l.invariant.2 _ _ (rw r at c.place-v.ensures) (rw (c.hold.ensures, r) at c.sum.ensures))

pub returns : goal.returns
returns c =
    let l = c.loop-i in
    let e : l.i ≡ c.args.count = omega (arith, l.invariant.0, c.loop-i-test.false) in
    rw e at l.invariant.2
