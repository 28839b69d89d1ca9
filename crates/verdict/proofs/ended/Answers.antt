-- `verdict::ended` meets its contract. Assumes nothing.
use mathlib.Core.Path.{◌∙◌}
use Rattle.links.proofs.Linking.{known}
use Rattle.verdict.proofs.Broken.{ended_refused, ended_by_lem}
use Rattle.verdict.proofs.ended.Goals as goal

pub returns-then-found-ne-ACCEPTED : goal.returns-then-found-ne-ACCEPTED
returns-then-found-ne-ACCEPTED c = ended_refused _ _ c.check-found.ensures c.args.board c.if-found-ne-ACCEPTED.true

pub links_by-requires : goal.links_by-requires
links_by-requires c = known _ _ c.check-found.ensures c.if-found-ne-ACCEPTED.false

pub returns : goal.returns
returns c = c.ended_by.ensures ∙ ended_by_lem _ _ c.check-found.ensures c.args.board c.if-found-ne-ACCEPTED.false _ c.links_by.ensures
