-- `vee::test` meets its contract. Assumes nothing.
use Rattle.vee.proofs.Testing.{refused_plan, few_records, rows_ready, too_many_plan, walk_ready, tested_plan}
use native.Mathlib.Omega.{arith}
use Rattle.vee.proofs.Single.{test_numbered}
use Rattle.vee.proofs.test.Goals as goal

pub returns-then-found-ne-ACCEPTED : goal.returns-then-found-ne-ACCEPTED
returns-then-found-ne-ACCEPTED c = let both = test_numbered (refused_plan _ c.check-found.ensures c.if-found-ne-ACCEPTED.true) in record { answer = both.0; number = both.1 }

pub lay_out-requires : goal.lay_out-requires
lay_out-requires c = few_records _ c.check-found.ensures c.if-found-ne-ACCEPTED.false

pub overflow_add-past : goal.overflow_add-past
overflow_add-past c = omega (arith, (rows_ready _ c.check-found.ensures c.if-found-ne-ACCEPTED.false (c.well_formed.0.1.1.1.0.1.0.1) c.lay_out.ensures c.points_of-n.ensures c.links_of-links.ensures).rows)

pub projections-requires : goal.projections-requires
projections-requires c = rows_ready _ c.check-found.ensures c.if-found-ne-ACCEPTED.false (c.well_formed.0.1.1.1.0.1.0.1) c.lay_out.ensures c.points_of-n.ensures c.links_of-links.ensures

pub returns-then-projections-gt-MOST_PROJECTIONS : goal.returns-then-projections-gt-MOST_PROJECTIONS
returns-then-projections-gt-MOST_PROJECTIONS c = let both = test_numbered (too_many_plan _ c.check-found.ensures c.if-found-ne-ACCEPTED.false (c.well_formed.0.1.1.1.0.1.0.1) c.lay_out.ensures c.points_of-n.ensures c.links_of-links.ensures c.projections.ensures c.if-projections-gt-MOST_PROJECTIONS.true) in record { answer = both.0; number = both.1 }

pub walk_all-requires : goal.walk_all-requires
walk_all-requires c = walk_ready _ c.check-found.ensures c.if-found-ne-ACCEPTED.false (c.well_formed.0.1.1.1.0.1.0.1) c.lay_out.ensures c.points_of-n.ensures c.links_of-links.ensures c.projections.ensures c.if-projections-gt-MOST_PROJECTIONS.false

pub returns : goal.returns
returns c = let both = test_numbered (tested_plan _ c.check-found.ensures c.if-found-ne-ACCEPTED.false (c.well_formed.0.1.1.1.0.1.0.1) c.lay_out.ensures c.points_of-n.ensures c.links_of-links.ensures c.projections.ensures c.if-projections-gt-MOST_PROJECTIONS.false c.walk_all.ensures) in record { answer = both.0; number = both.1 }
