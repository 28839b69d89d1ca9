-- `ways::toward::way` meets its contract. Assumes nothing.
use Rattle.ways.proofs.Following.{way_is}
use Rattle.ways.proofs.toward.way.Goals as goal

pub returns : goal.returns
returns c = way_is c.requires c.reach-reached.ensures c.follow.ensures
