-- `explained::of_cycle` meets its contract. Assumes nothing.
use Rattle.explained.proofs.Explaining.{fails_by_cycle, fails_few, plan_durations, plan_round, plan_rounded}
use Rattle.explained.proofs.of_cycle.Goals as goal

pub lay_out-requires : goal.lay_out-requires
lay_out-requires c = fails_few _ (fails_by_cycle c.requires)

pub durations_of-w-requires : goal.durations_of-w-requires
durations_of-w-requires c = let f = fails_by_cycle c.requires in plan_durations _ f.ok f.few (c.well_formed.0.1.1.1.0.1.0.1) c.lay_out.ensures c.points_of-n.ensures c.links_of-links.ensures f.one

pub round_in-why-requires : goal.round_in-why-requires
round_in-why-requires c = let f = fails_by_cycle c.requires in plan_round _ f.ok f.few (c.well_formed.0.1.1.1.0.1.0.1) c.lay_out.ensures c.points_of-n.ensures c.links_of-links.ensures f.one c.durations_of-w.ensures f.holds

pub returns : goal.returns
returns c = let f = fails_by_cycle c.requires in plan_rounded _ f.ok f.few (c.well_formed.0.1.1.1.0.1.0.1) c.lay_out.ensures c.points_of-n.ensures c.links_of-links.ensures f.one c.durations_of-w.ensures c.requires c.round_in-why.ensures
