-- `points::subset` meets its contract. Assumes nothing.
use Rattle.std.proofs.Common.{rules, tests}
use Rattle.points.specs.Sets.{member, subset_of}
use Rattle.points.proofs.Walks.{every_walked}
use Rattle.points.proofs.subset.Goals as goal

pub returns : goal.returns
unfolding subset_of
returns c = every_walked (member c.args.b) _ _ _ c.all.ensures.ran c.members.ensures (λ x r q k. search (rules, tests))
