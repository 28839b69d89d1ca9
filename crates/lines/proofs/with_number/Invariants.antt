-- `lines::with_number` meets its contract. Assumes nothing.
use mathlib.Core.Path.{◌≡◌}
use Prim.Native.Nat.{◌≤◌}
use lib.ListN.{length, drop}
use Rattle.lines.specs.Text.{decimal}
use Rattle.lines.specs.Inside.{with, RoomFor}
use Rattle.lines.proofs.with_number.Given as goal

abbrev pub invariant-loop-i : goal.invariant-loop-i
invariant-loop-i l =
    (l.i ≤ 20) × (length l.spelt.digits ≡ 20) × RoomFor l.next (drop l.i l.spelt.digits) × (with l.next (drop l.i l.spelt.digits) ≡ with l.initial.next (decimal l.n))
