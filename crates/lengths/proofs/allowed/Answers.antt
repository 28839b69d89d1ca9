-- `lengths::allowed` meets its contract. Assumes nothing.
use Rattle.lengths.proofs.Meeting.{allow_meets, allowed_is}
use Rattle.lengths.proofs.allowed.Goals as goal

pub fill-requires : goal.fill-requires
fill-requires c = c.requires.ready

pub fill-requires-2 : goal.fill-requires-2
fill-requires-2 c = c.requires.ready

pub meet-requires : goal.meet-requires
meet-requires c = allow_meets c.requires

pub returns : goal.returns
returns c = allowed_is c.requires c.fill.ensures c.fill-2.ensures c.meet.ensures c.length_from.ensures
