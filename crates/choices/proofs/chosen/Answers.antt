-- `choices::chosen` meets its contract. Assumes nothing.
use mathlib.Core.Path.{◌≡◌, refl}
use mathlib.Core.List.{List}
use Prim.Native.Nat.{ℕ, ◌+◌, ◌-◌, ◌<◌}
use Rattle.rows.specs.declared.sheet.Row.{Row}
use Rattle.rows.specs.Sheet.{row_at}
use Rattle.choices.proofs.Choosing.{choosing_start, row_there, link_there, next_some, next_fits, choosing_turn, choosing_end}
use native.Mathlib.Omega.{arith}
use Rattle.choices.proofs.chosen.Goals as goal

-- the row that is read is that of the link at the front of those ahead
the_row : (s : List ℕ) (past k : ℕ) {r : Row} → 0 < k → r ≡ row_at s (past - (k - 1 + 1)) → r ≡ row_at s (past - k)
the_row s past k h e = let z : k - 1 + 1 ≡ k = omega arith in rw z at e

pub loop-k-init : goal.loop-k-init
loop-k-init c = rw (c.from-rest.ensures, c.from-left.ensures) (choosing_start c.requires)

pub overflow_sub-past : goal.overflow_sub-past
overflow_sub-past c = omega (arith, row_there c.loop-k.invariant)

pub row_at-row-requires : goal.row_at-row-requires
row_at-row-requires c = omega (arith, row_there c.loop-k.invariant)

pub overflow_add-rest : goal.overflow_add-rest
overflow_add-rest c = omega (arith, link_there c.loop-k.invariant c.loop-k-test.true (the_row _ _ _ c.loop-k-test.true c.row_at-row.ensures))

pub overflow_sub-rest : goal.overflow_sub-rest
overflow_sub-rest c = omega (arith, link_there c.loop-k.invariant c.loop-k-test.true (the_row _ _ _ c.loop-k-test.true c.row_at-row.ensures))

pub nonzero_div-rest : goal.nonzero_div-rest
nonzero_div-rest c = omega (arith, link_there c.loop-k.invariant c.loop-k-test.true (the_row _ _ _ c.loop-k-test.true c.row_at-row.ensures))

pub nonzero_div-left : goal.nonzero_div-left
nonzero_div-left c = omega (arith, next_some c.loop-k.invariant c.loop-k-test.true (the_row _ _ _ c.loop-k-test.true c.row_at-row.ensures) refl)

pub lasting-requires : goal.lasting-requires
lasting-requires c = next_fits c.loop-k.invariant c.loop-k-test.true (the_row _ _ _ c.loop-k-test.true c.row_at-row.ensures) refl

pub offset_bounds-w-row : goal.offset_bounds-w-row
offset_bounds-w-row c = omega (arith, link_there c.loop-k.invariant c.loop-k-test.true (the_row _ _ _ c.loop-k-test.true c.row_at-row.ensures))

pub bounds-w-row : goal.bounds-w-row
bounds-w-row c = omega (arith, c.loop-k.invariant.wide, link_there c.loop-k.invariant c.loop-k-test.true (the_row _ _ _ c.loop-k-test.true c.row_at-row.ensures))

pub nonzero_rem-left : goal.nonzero_rem-left
nonzero_rem-left c = omega (arith, next_some c.loop-k.invariant c.loop-k-test.true (the_row _ _ _ c.loop-k-test.true c.row_at-row.ensures) refl)

pub loop-k-preserved : goal.loop-k-preserved
loop-k-preserved c = choosing_turn c.loop-k.invariant c.loop-k-test.true (the_row _ _ _ c.loop-k-test.true c.row_at-row.ensures) refl (rw c.lasting.ensures refl) refl

pub returns : goal.returns
returns c = choosing_end c.loop-k.invariant (omega arith)
