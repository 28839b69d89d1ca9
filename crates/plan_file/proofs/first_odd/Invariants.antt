-- `plan_file::first_odd` meets its contract. Assumes nothing.
use Prim.Native.Nat.{◌≤◌}
use Rattle.plan_file.proofs.Decoding.{Even}
use Rattle.plan_file.proofs.first_odd.Given as goal

abbrev pub invariant-loop-i : goal.invariant-loop-i
invariant-loop-i l = (l.i ≤ l.count) × Even l.bytes l.count l.i
