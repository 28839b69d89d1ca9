-- `explained::drives::drives_of` meets its contract. Assumes nothing.
use Rattle.explained.proofs.Driving.{driving_none, driving_room, driving_more, driving_all}
use mathlib.Core.Path.{refl, ap}
use Rattle.rows.specs.declared.sheet.Row.{Row}
use native.Mathlib.Omega.{arith}
use Rattle.explained.proofs.drives.drives_of.Goals as goal

pub loop-q-init : goal.loop-q-init
loop-q-init c = driving_none c.requires c.no_drives-drives.ensures

pub row_at-row-requires : goal.row_at-row-requires
row_at-row-requires c = omega (arith, c.loop-q.invariant.asks.rows, c.loop-q-test.true)

pub offset_bounds-durations-row : goal.offset_bounds-durations-row
offset_bounds-durations-row c = omega (arith, ap (λ (r : Row). r.over) c.row_at-row.ensures, c.loop-q.invariant.asks.over c.loop-q.q (omega (arith, c.loop-q-test.true)))

pub bounds-durations-row : goal.bounds-durations-row
bounds-durations-row c = omega (arith, ap (λ (r : Row). r.over) c.row_at-row.ensures, c.loop-q.invariant.asks.over c.loop-q.q (omega (arith, c.loop-q-test.true)))

pub with_drive-drives-requires : goal.with_drive-drives-requires
with_drive-drives-requires c = driving_room c.loop-q.invariant (omega (arith, c.loop-q-test.true)) c.row_at-row.ensures

pub loop-q-preserved : goal.loop-q-preserved
loop-q-preserved c = driving_more c.loop-q.invariant (omega (arith, c.loop-q-test.true)) c.row_at-row.ensures refl c.with_drive-drives.ensures

pub returns : goal.returns
returns c = driving_all c.loop-q.invariant (omega (arith, c.loop-q-test.false))
