-- `explained::reasons::pair_in` meets its contract. Assumes nothing.
use Rattle.explained.proofs.Reasoning.{pair_allows, pair_way, pair_sums, pair_shown}
use Rattle.explained.proofs.reasons.pair_in.Goals as goal

pub allowed-best-requires : goal.allowed-best-requires
allowed-best-requires c = pair_allows c.requires

pub fill-requires : goal.fill-requires
fill-requires c = c.requires.ready

pub way-found-requires : goal.way-found-requires
way-found-requires c = pair_way c.requires c.fill.ensures

pub sum_of-requires : goal.sum_of-requires
sum_of-requires c = pair_sums c.requires c.fill.ensures c.way-found.ensures

pub drives_of-drives-requires : goal.drives_of-drives-requires
drives_of-drives-requires c = c.requires.drives

pub returns : goal.returns
returns c = pair_shown c.requires c.fill.ensures c.way-found.ensures c.sum_of.ensures c.allowed-best.ensures c.drives_of-drives.ensures
