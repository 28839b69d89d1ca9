-- `plan_file::read` meets its contract. Assumes nothing.
use native.Mathlib.Omega.{arith}
use mathlib.Core.Path.{refl, ap, ◌∙◌}
use Rattle.plan.specs.ReplyNumbers.{check_of}
use Rattle.plan_file.proofs.Answers.{read_none, read_part, read_long, read_bad, read_plan}
use Rattle.plan_file.proofs.read.Goals as goal

pub returns-then-n-eq0 : goal.returns-then-n-eq0
returns-then-n-eq0 c = read_none _ c.if-n-eq0.true _ c.refuse.ensures

pub returns-then-n-ne0 : goal.returns-then-n-ne0
returns-then-n-ne0 c = read_part _ (omega (arith, c.if-n-eq0.false)) (omega (arith, c.if-n-ne0.true)) _ c.refuse-then-n-ne0.ensures

pub returns-then-n-gt-MOST_RECORDS : goal.returns-then-n-gt-MOST_RECORDS
returns-then-n-gt-MOST_RECORDS c =
    read_long
    _
    (omega (arith, c.if-n-eq0.false))
    c.if-n-ne0.false
    (omega (arith, c.if-n-gt-MOST_RECORDS.true))
    _
    c.refuse-then-n-gt-MOST_RECORDS.ensures

pub first_bad-found-requires : goal.first_bad-found-requires
first_bad-found-requires c = (omega arith, omega arith, omega arith, c.check.ensures ∙ ap check_of c.decode-plan.ensures)

pub returns-then-found-ne-ACCEPTED : goal.returns-then-found-ne-ACCEPTED
returns-then-found-ne-ACCEPTED c =
    read_bad
    _
    (omega (arith, c.if-n-eq0.false))
    c.if-n-ne0.false
    (omega (arith, c.if-n-gt-MOST_RECORDS.false))
    _
    c.first_bad-found.ensures
    (omega (arith, c.if-found-ne-ACCEPTED.true))
    _
    refl

pub returns : goal.returns
returns c =
    read_plan
    _
    (omega (arith, c.if-n-eq0.false))
    c.if-n-ne0.false
    (omega (arith, c.if-n-gt-MOST_RECORDS.false))
    _
    c.first_bad-found.ensures
    c.if-found-ne-ACCEPTED.false
    _
    c.decode-plan.ensures
