-- `ways::toward::reach` meets its contract. Assumes nothing.
use Rattle.ways.proofs.Reaching.{Reaching}
use Prim.Native.Nat.{◌-◌}
use Rattle.tables.specs.Tables.{side}
use Rattle.ways.proofs.toward.reach.Given as goal

abbrev pub invariant-loop-k : goal.invariant-loop-k
invariant-loop-k l = Reaching l.sheet l.durations l.m l.n l.all l.y l.order l.next l.count l.k

abbrev pub decreases-loop-k : goal.decreases-loop-k
decreases-loop-k l = side - l.count
