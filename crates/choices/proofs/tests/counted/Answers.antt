-- `choices::tests::counted` meets what `lay_out` and `vee::projections` ask. Assumes nothing.
use Rattle.vee.proofs.Testing.{few_records, rows_ready}
use Rattle.choices.proofs.tests.counted.Goals as goal

pub lay_out-requires : goal.lay_out-requires
lay_out-requires c = few_records _ c.check-found.ensures c.if-found-ne-ACCEPTED.false

pub projections-requires : goal.projections-requires
projections-requires c = rows_ready _ c.check-found.ensures c.if-found-ne-ACCEPTED.false (c.well_formed.0.1.1.1.0.1.0.1) c.lay_out.ensures c.points_of-n.ensures c.links_of-links.ensures
