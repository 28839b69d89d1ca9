-- `plan_file::with_odd` meets its contract. Assumes nothing.
use mathlib.Core.Path.{◌∙◌}
use Rattle.plan_file.proofs.Odd.{odd_stays, odd_seven}
use Rattle.plan_file.proofs.with_odd.Goals as goal

pub returns-then-found-sooner : goal.returns-then-found-sooner
returns-then-found-sooner c = let s = c.args in odd_stays s.odd s.found c.if-found-sooner.true

pub returns-else-found-sooner : goal.returns-else-found-sooner
returns-else-found-sooner c =
    let s = c.args in
    c.new.ensures ∙ odd_seven s.odd s.found c.if-found-sooner.false
