-- `projection::judge_by` meets its contract. Assumes nothing.
use Rattle.projection.specs.Findings.{is_good}
use Rattle.projection.proofs.judge_by.Goals as goal

pub returns-then-is_good : goal.returns-then-is_good
returns-then-is_good c = is_good (c.is_good.ensures c.if-is_good.true)
