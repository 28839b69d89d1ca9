-- `lines::with_byte` meets its contract. Assumes nothing.
use Rattle.lines.proofs.Adding.{byte_more}
use Rattle.lines.proofs.with_byte.Goals as goal

pub returns : goal.returns
returns c = byte_more c.args.line c.args.b c.requires
