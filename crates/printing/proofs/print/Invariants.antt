-- `printing::print` meets its contract. Assumes nothing.
use mathlib.Core.Path.{◌≡◌}
use Prim.Native.Nat.{◌+◌, ◌*◌, ◌≤◌}
use lib.ListN.{length}
use Rattle.plan.specs.Limits.{most_records, record_bytes}
use Rattle.printing.proofs.print.Given as goal

abbrev pub invariant-loop : goal.invariant-loop
invariant-loop l = (l.at ≤ length l.chunk) × (length l.chunk ≡ 4096) × (length l.front ≡ record_bytes * (most_records + 2)) × (length l.lines ≡ 8192)
