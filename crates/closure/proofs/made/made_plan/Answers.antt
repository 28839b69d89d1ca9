-- `closure::made::made_plan` meets its contract. Assumes nothing.
use Rattle.tables.specs.Entries.{at}
use Rattle.closure.proofs.Coding.{rows_ready, rows_made}
use Rattle.closure.proofs.made.made_plan.Goals as goal

pub with_rows-requires : goal.with_rows-requires
with_rows-requires c = rows_ready c.requires c.first_records.ensures

pub returns : goal.returns
returns c = rows_made c.args.plan c.args.n (at c.args.t.now) c.first_records.ensures c.with_rows.ensures
