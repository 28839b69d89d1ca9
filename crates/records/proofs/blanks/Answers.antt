-- `records::blanks` meets its contract. Assumes nothing.
use native.Mathlib.Omega.{arith}
use mathlib.Core.Path.{ap}
use Prim.Native.Nat.{◌%◌}
use lib.ListN.{replicate, get_or-replicate}
use Rattle.records.specs.Limits.{most_records}
use Rattle.records.specs.Records.{blank}
use Rattle.records.specs.declared.Record.{Record}
use Rattle.records.proofs.blanks.Goals as goal

pub returns : goal.returns
returns c = ap (λ (r : Record). replicate most_records r) (get_or-replicate 2 (c.args.any % 2) blank blank (omega arith))
