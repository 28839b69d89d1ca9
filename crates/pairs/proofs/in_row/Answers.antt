-- `pairs::in_row` meets its contract. Assumes nothing.
use Rattle.tables.specs.Entries.{raw}
use Rattle.pairs.proofs.Searches.{is_undercut, is_kept_lem, stops, goes_on_lem, clean_row}
use Rattle.pairs.proofs.in_row.Goals as goal

pub returns-then-undercut : goal.returns-then-undercut
returns-then-undercut c = stops c.loop-y.invariant c.loop-y-test.true (is_undercut (raw c.args.all.now c.args.x c.loop-y.y) (raw c.args.ways.now c.args.x c.loop-y.y) c.undercut.ensures c.if-undercut.true)

pub loop-y-preserved : goal.loop-y-preserved
loop-y-preserved c = goes_on_lem c.loop-y.invariant c.loop-y-test.true (is_kept_lem (raw c.args.all.now c.args.x c.loop-y.y) (raw c.args.ways.now c.args.x c.loop-y.y) c.undercut.ensures c.if-undercut.false)

pub returns : goal.returns
returns c = clean_row c.loop-y.invariant c.loop-y-test.false
