-- `explained::drives::with_drive` meets its contract. Assumes nothing.
use Rattle.explained.proofs.Driving.{with_other, with_link}
use native.Mathlib.Omega.{arith}
use Rattle.explained.proofs.drives.with_drive.Goals as goal

pub returns-then-row-ne-LINK_ROW : goal.returns-then-row-ne-LINK_ROW
returns-then-row-ne-LINK_ROW c = with_other c.args.drives c.args.row c.args.p c.if-row-ne-LINK_ROW.true

pub offset_bounds-list-count : goal.offset_bounds-list-count
offset_bounds-list-count c = omega (arith, c.requires (omega (arith, c.if-row-ne-LINK_ROW.false)))

pub bounds-list-count : goal.bounds-list-count
bounds-list-count c = omega (arith, c.requires (omega (arith, c.if-row-ne-LINK_ROW.false)))

pub overflow_add-result : goal.overflow_add-result
overflow_add-result c = omega (arith, c.requires (omega (arith, c.if-row-ne-LINK_ROW.false)))

pub returns : goal.returns
returns c = with_link c.args.drives c.args.row c.args.p (omega (arith, c.if-row-ne-LINK_ROW.false))
