-- `stream::sheet::Sheet::next` meets its contract. Assumes nothing.
use Rattle.std.proofs.Common.{sym, ◌∙◌}
use Rattle.stream.proofs.Stages.{next_here, next_planning}
use Rattle.stream.proofs.sheet.Sheet.next.Goals as goal

pub returns-in-Planning : goal.returns-in-Planning
returns-in-Planning c = let a = c.args in c.begun.ensures ∙ next_planning a.self a.bytes.now a.front.now c.in-Planning.is (sym c.if-is_mark.true ∙ c.is_mark.ensures)

pub returns-in-Planning-2 : goal.returns-in-Planning-2
returns-in-Planning-2 c = let a = c.args in c.longer.ensures ∙ next_planning a.self a.bytes.now a.front.now c.in-Planning-2.is (sym c.if-is_mark.false ∙ c.is_mark.ensures)

pub returns-in-Playing : goal.returns-in-Playing
returns-in-Playing c = let a = c.args in c.played.ensures ∙ next_here a.self a.bytes.now a.front.now c.in-Playing.is

pub returns-in-Over : goal.returns-in-Over
returns-in-Over c = let a = c.args in c.quiet.ensures ∙ next_here a.self a.bytes.now a.front.now c.in-Over.is
