-- `windows::asks::point_number` meets its contract. Assumes nothing.
use Rattle.windows.proofs.Pointing.{not_open, too_early, too_late, none_given}
use mathlib.Core.Path.{ap}
use mathlib.Core.Bool.{not}
use Rattle.windows.proofs.asks.point_number.Goals as goal

pub returns-then-not-no_point-has : goal.returns-then-not-no_point-has
returns-then-not-no_point-has c = let a = c.args in not_open a.w a.latest a.e.minute a.e.point (rw c.has.ensures at (ap not c.if-not-no_point-has.true))

pub returns-then-not-no_point-minute_at : goal.returns-then-not-no_point-minute_at
returns-then-not-no_point-minute_at c =
    let a = c.args in
    too_early a.w a.latest a.e.minute a.e.point
    (rw c.has.ensures at (ap not c.if-not-no_point-has.false))
    (rw c.minute_at.ensures at (ap not c.if-not-no_point-minute_at.true))

pub returns-then-w-latest : goal.returns-then-w-latest
returns-then-w-latest c =
    let a = c.args in
    too_late a.w a.latest a.e.minute a.e.point
    (rw c.has.ensures at (ap not c.if-not-no_point-has.false))
    (rw c.minute_at.ensures at (ap not c.if-not-no_point-minute_at.false))
    c.if-w-latest.true

pub returns : goal.returns
returns c =
    let a = c.args in
    none_given a.w a.latest a.e.minute a.e.point
    (rw c.has.ensures at (ap not c.if-not-no_point-has.false))
    (rw c.minute_at.ensures at (ap not c.if-not-no_point-minute_at.false))
    c.if-w-latest.false
