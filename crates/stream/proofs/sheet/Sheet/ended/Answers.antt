-- `stream::sheet::Sheet::ended` meets its contract. Assumes nothing.
use Rattle.std.proofs.Common.{◌∙◌, eq-eqb, ne_eqb}
use Rattle.stream.proofs.Stages.{ended_here}
use Rattle.stream.proofs.sheet.Sheet.ended.Goals as goal

pub returns-in-Planning : goal.returns-in-Planning
returns-in-Planning c = let a = c.args in rw c.longer.ensures at c.begun.ensures ∙ ended_here a.self a.left a.front.now c.in-Planning.is

pub returns-in-Playing : goal.returns-in-Playing
returns-in-Playing c = let a = c.args in let h = ended_here a.self a.left a.front.now c.in-Playing.is in c.tailed.ensures ∙ rw (ne_eqb a.left 0 c.if-left-ne0.true) at h

pub returns-in-Playing-2 : goal.returns-in-Playing-2
returns-in-Playing-2 c = let a = c.args in let h = ended_here a.self a.left a.front.now c.in-Playing-2.is in c.quiet.ensures ∙ rw (eq-eqb a.left 0 c.if-left-ne0.false) at h

pub returns-in-Over : goal.returns-in-Over
returns-in-Over c = let a = c.args in c.quiet-in-Over.ensures ∙ ended_here a.self a.left a.front.now c.in-Over.is
