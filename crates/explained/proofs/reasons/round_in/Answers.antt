-- `explained::reasons::round_in` meets its contract. Assumes nothing.
use Rattle.explained.proofs.Reasoning.{round_asks, round_sums, round_shown}
use Rattle.explained.proofs.reasons.round_in.Goals as goal

pub round_of-found-requires : goal.round_of-found-requires
round_of-found-requires c = round_asks c.requires

pub sum_of-length-requires : goal.sum_of-length-requires
sum_of-length-requires c = round_sums c.requires c.round_of-found.ensures

pub drives_of-drives-requires : goal.drives_of-drives-requires
drives_of-drives-requires c = c.requires.drives

pub returns : goal.returns
returns c = round_shown c.requires c.round_of-found.ensures c.sum_of-length.ensures c.drives_of-drives.ensures
