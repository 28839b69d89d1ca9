-- `steps::starts_of` meets its contract. Assumes nothing.
use mathlib.Core.Path.{◌∙◌}
use Prim.Native.Nat.{◌-◌}
use Rattle.steps.proofs.Starting.{filled_start, filled_turn, filled_end}
use native.Mathlib.Omega.{arith}
use Rattle.steps.proofs.starts_of.Goals as goal

pub loop-q-init : goal.loop-q-init
loop-q-init c = filled_start _ _

pub row_at-row-requires : goal.row_at-row-requires
row_at-row-requires c = omega (arith, c.requires, c.loop-q.invariant.near)

pub loop-q-preserved : goal.loop-q-preserved
loop-q-preserved c =
    filled_turn
    c.loop-q.invariant
    (omega (arith, c.loop-q-test.true))
    c.row_at-row.ensures
    c.place-c.ensures
    (c.pick.ensures ∙ rw c.place.ensures)

pub returns : goal.returns
returns c = filled_end c.loop-q.invariant (omega arith)
