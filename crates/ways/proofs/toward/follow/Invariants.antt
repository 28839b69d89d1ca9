-- `ways::toward::follow` meets its contract. Assumes nothing.
use Rattle.ways.proofs.Following.{Following}
use lib.ListN.{get_or}
use Rattle.ways.proofs.toward.follow.Given as goal

abbrev pub invariant-loop-here : goal.invariant-loop-here
invariant-loop-here l = Following l.order l.next l.x l.steps l.count l.here

abbrev pub decreases-loop-here : goal.decreases-loop-here
decreases-loop-here l = get_or l.order l.here 0
