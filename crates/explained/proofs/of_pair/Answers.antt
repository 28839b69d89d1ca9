-- `explained::of_pair` meets its contract. Assumes nothing.
use Rattle.explained.proofs.Explaining.{fails_by_pair, fails_few, plan_durations, plan_pair, plan_paired}
use Rattle.explained.proofs.of_pair.Goals as goal

pub lay_out-requires : goal.lay_out-requires
lay_out-requires c = fails_few _ (fails_by_pair c.requires)

pub durations_of-w-requires : goal.durations_of-w-requires
durations_of-w-requires c = let f = fails_by_pair c.requires in plan_durations _ f.ok f.few (c.well_formed.0.1.1.1.0.1.0.1) c.lay_out.ensures c.points_of-n.ensures c.links_of-links.ensures f.one

pub pair_in-why-requires : goal.pair_in-why-requires
pair_in-why-requires c = let f = fails_by_pair c.requires in plan_pair _ f.ok f.few (c.well_formed.0.1.1.1.0.1.0.1) c.lay_out.ensures c.points_of-n.ensures c.links_of-links.ensures f.one c.durations_of-w.ensures f.holds

pub returns : goal.returns
returns c = let f = fails_by_pair c.requires in plan_paired _ f.ok f.few (c.well_formed.0.1.1.1.0.1.0.1) c.lay_out.ensures c.points_of-n.ensures c.links_of-links.ensures f.one c.durations_of-w.ensures c.requires c.pair_in-why.ensures
