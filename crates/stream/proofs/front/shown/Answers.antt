-- `stream::front::shown` meets its contract. Assumes nothing.
use Rattle.std.proofs.Common.{◌+◌, ◌*◌, le-ltb, lt-ltb}
use Rattle.plan.specs.Limits.{record_bytes, most_records}
use Rattle.stream.proofs.front.shown.Goals as goal

pub returns-then-length-most : goal.returns-then-length-most
returns-then-length-most c = rw (lt-ltb c.args.length (record_bytes * (most_records + 1)) c.if-length-most.true)

pub returns-else-length-most : goal.returns-else-length-most
returns-else-length-most c = rw (le-ltb c.args.length (record_bytes * (most_records + 1)) c.if-length-most.false)
