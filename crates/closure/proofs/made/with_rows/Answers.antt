-- `closure::made::with_rows` meets its contract. Assumes nothing.
use mathlib.Core.Path.{refl}
use Rattle.tables.specs.Entries.{at}
use Rattle.closure.proofs.Coding.{rows_start, row_ready, rows_more, rows_end}
use Rattle.closure.proofs.made.with_rows.Goals as goal

pub loop-x-init : goal.loop-x-init
loop-x-init c = rows_start _ _ (at c.args.t.now) refl c.requires

pub with_row-made-requires : goal.with_row-made-requires
with_row-made-requires c = row_ready _ _ (at c.args.t.now) c.loop-x.invariant c.loop-x-test.true

pub loop-x-preserved : goal.loop-x-preserved
loop-x-preserved c = rows_more _ _ (at c.args.t.now) c.loop-x.invariant c.loop-x-test.true c.with_row-made.ensures

pub returns : goal.returns
returns c = rows_end _ _ (at c.args.t.now) c.loop-x.invariant c.loop-x-test.false
