-- `ways::round::finished` meets its contract. Assumes nothing.
use Rattle.ways.proofs.Rounding.{finish_asks, finish_round}
use Rattle.ways.proofs.round.finished.Goals as goal

pub way-back-requires : goal.way-back-requires
way-back-requires c = finish_asks c.requires c.step_at-step.ensures

pub returns : goal.returns
returns c = finish_round c.requires c.step_at-step.ensures c.way-back.ensures c.with_step.ensures
