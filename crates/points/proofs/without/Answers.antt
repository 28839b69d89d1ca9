-- `points::without` meets its contract. Assumes nothing.
use mathlib.Core.Path.{sym, ◌∙◌}
use native.Mathlib.Omega.{arith}
use Rattle.points.proofs.Laws.{member_small, member_le, without_old, without_new}
use Rattle.points.proofs.Shift.{one_shl}
use Rattle.points.proofs.without.Goals as goal

pub overflow_shl-result : goal.overflow_shl-result
overflow_shl-result c = member_small _ _ c.ranges.s.fits (sym c.has.ensures ∙ c.if-has.true)

pub overflow_sub-result : goal.overflow_sub-result
overflow_sub-result c =
    let m = sym c.has.ensures ∙ c.if-has.true in
    omega (arith, one_shl _ (member_small _ _ c.ranges.s.fits m), member_le _ _ m)

pub returns-then-has : goal.returns-then-has
returns-then-has c =
    let m = sym c.has.ensures ∙ c.if-has.true in
    omega (arith, one_shl _ (member_small _ _ c.ranges.s.fits m), without_old _ _ m)

pub returns-else-has : goal.returns-else-has
returns-else-has c = sym (without_new _ _ (sym c.has.ensures ∙ c.if-has.false))
