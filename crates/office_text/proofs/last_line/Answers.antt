-- `office_text::last_line` meets its contract. Assumes nothing.
use Rattle.office_text.proofs.Last.{last_done, last_broken, last_bad, last_good}
use mathlib.Core.Path.{ap}
use mathlib.Core.Bool.{not}
use Rattle.office_text.proofs.last_line.Goals as goal

pub returns-then-state-is_at_begin : goal.returns-then-state-is_at_begin
returns-then-state-is_at_begin c =
    let a = c.args in
    last_done a.state _ c.is_at_begin.ensures c.if-state-is_at_begin.true

pub returns-then-not-may_end : goal.returns-then-not-may_end
returns-then-not-may_end c =
    let a = c.args in
    last_broken a.state _ c.is_at_begin.ensures c.if-state-is_at_begin.false _ c.may_end.ensures (ap not c.if-not-may_end.true) _ c.stop.ensures

pub returns-in-Err : goal.returns-in-Err
returns-in-Err c =
    let a = c.args in
    last_bad a.state _ c.is_at_begin.ensures c.if-state-is_at_begin.false _ c.may_end.ensures (ap not c.if-not-may_end.false) _ c.line_of.ensures _ c.in-Err.is _ c.stop-in-Err.ensures

pub returns-in-Ok : goal.returns-in-Ok
returns-in-Ok c =
    let a = c.args in
    last_good a.state _ c.is_at_begin.ensures c.if-state-is_at_begin.false _ c.may_end.ensures (ap not c.if-not-may_end.false) _ c.line_of.ensures _ c.in-Ok.is _ c.saturating_add.ensures _ c.at_line.ensures
