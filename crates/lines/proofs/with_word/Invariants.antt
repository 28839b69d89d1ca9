-- `lines::with_word` meets its contract. Assumes nothing.
use mathlib.Core.Path.{◌≡◌}
use Prim.Native.Nat.{◌^◌, ◌<◌}
use Rattle.lines.specs.Text.{letters}
use Rattle.lines.specs.Inside.{with, RoomFor}
use Rattle.lines.proofs.with_word.Given as goal

abbrev pub invariant-loop-left : goal.invariant-loop-left
invariant-loop-left l =
    (l.left < 2 ^ 64) × RoomFor l.next (letters l.left) × (with l.next (letters l.left) ≡ with l.initial.next (letters l.word))

abbrev pub decreases-loop-left : goal.decreases-loop-left
decreases-loop-left l = l.left
