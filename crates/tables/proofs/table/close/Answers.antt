-- `tables::table::close` meets its contract. Assumes nothing.
use Rattle.tables.proofs.Closings.{start, ready, turn, negative, ended}
use Rattle.tables.proofs.table.close.Goals as goal

pub loop-k-init : goal.loop-k-init
loop-k-init c = start c.requires

pub returns-then-t-k-lt-BIAS : goal.returns-then-t-k-lt-BIAS
returns-then-t-k-lt-BIAS c = negative c.loop-k.invariant _ c.loop-k-test.true c.if-t-k-lt-BIAS.true

pub pass-requires : goal.pass-requires
pass-requires c = ready c.loop-k.invariant c.loop-k-test.true

pub loop-k-preserved : goal.loop-k-preserved
loop-k-preserved c = turn c.loop-k.invariant c.loop-k-test.true c.if-t-k-lt-BIAS.false c.pass.ensures

pub returns : goal.returns
returns c = ended c.loop-k.invariant c.loop-k-test.false _ c.is_level.ensures
