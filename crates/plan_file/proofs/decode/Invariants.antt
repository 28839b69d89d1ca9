-- `plan_file::decode` meets its contract. Assumes nothing.
use mathlib.Core.Path.{◌≡◌}
use Prim.Native.Nat.{◌≤◌}
use Rattle.plan_file.proofs.Decoding.{filled}
use Rattle.plan_file.proofs.decode.Given as goal

abbrev pub invariant-loop-i : goal.invariant-loop-i
invariant-loop-i l = (l.i ≤ l.count) × (l.plan.count ≡ l.count) × (l.plan.records ≡ filled l.bytes l.i)
