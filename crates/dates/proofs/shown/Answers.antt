-- `dates::shown` meets its contract. Assumes nothing.
use mathlib.Core.Path.{sym, ◌∙◌}
use native.Mathlib.Omega.{arith}
use Rattle.dates.proofs.Days.{length_of_lem}
use Rattle.dates.proofs.Minutes.{origin_of, made, kept}
use Rattle.dates.proofs.shown.Goals as goal

pub overflow_mul-minute : goal.overflow_mul-minute
overflow_mul-minute c =
    let k = origin_of c.args.origin (sym c.is_origin.ensures ∙ c.if-is_origin.true) in
    omega (arith, k.clocked.hours)

pub overflow_add-minute : goal.overflow_add-minute
overflow_add-minute c =
    let k = origin_of c.args.origin (sym c.is_origin.ensures ∙ c.if-is_origin.true) in
    omega (arith, k.clocked.hours, k.clocked.minutes)

pub overflow_add-minute-then-is_origin : goal.overflow_add-minute-then-is_origin
overflow_add-minute-then-is_origin c =
    let k = origin_of c.args.origin (sym c.is_origin.ensures ∙ c.if-is_origin.true) in
    omega (arith, k.clocked.hours, k.clocked.minutes)

pub days_before-requires : goal.days_before-requires
days_before-requires c =
    let k = origin_of c.args.origin (sym c.is_origin.ensures ∙ c.if-is_origin.true) in
    k.month

pub overflow_sub-days : goal.overflow_sub-days
overflow_sub-days c =
    let k = origin_of c.args.origin (sym c.is_origin.ensures ∙ c.if-is_origin.true) in
    k.low

pub overflow_add-days : goal.overflow_add-days
overflow_add-days c =
    let k = origin_of c.args.origin (sym c.is_origin.ensures ∙ c.if-is_origin.true) in
    omega (arith, k.days, c.days_before.ensures)

pub overflow_add-days-then-is_origin-2 : goal.overflow_add-days-then-is_origin-2
overflow_add-days-then-is_origin-2 c =
    let k = origin_of c.args.origin (sym c.is_origin.ensures ∙ c.if-is_origin.true) in
    omega (arith, k.days, k.clocked.hours, k.clocked.minutes, c.days_before.ensures)

pub year_of-in_year-requires : goal.year_of-in_year-requires
year_of-in_year-requires c =
    let k = origin_of c.args.origin (sym c.is_origin.ensures ∙ c.if-is_origin.true) in
    omega (arith, k.days, k.last, k.clocked.hours, k.clocked.minutes, c.days_before.ensures)

pub overflow_add-result : goal.overflow_add-result
overflow_add-result c =
    let l = (length_of_lem c.year_of-in_year.result.part c.month_of-in_month.result.part).most in
    omega (arith, c.month_of-in_month.ensures.inside)

pub returns-then-is_origin : goal.returns-then-is_origin
returns-then-is_origin c =
    made c.args.origin c.args.m _ _ _ _ _
    (sym c.is_origin.ensures ∙ c.if-is_origin.true) c.days_before.ensures
    c.year_of-in_year.ensures c.month_of-in_month.ensures

pub returns-else-is_origin : goal.returns-else-is_origin
returns-else-is_origin c = kept _ _ (sym c.is_origin.ensures ∙ c.if-is_origin.false)
