-- `ways::toward::search` meets its contract. Assumes nothing.
use Rattle.ways.proofs.Reaching.{Searching}
use Rattle.ways.proofs.toward.search.Given as goal

abbrev pub invariant-loop-k : goal.invariant-loop-k
invariant-loop-k l = Searching l.sheet l.durations l.m l.all l.order l.y l.end l.k
