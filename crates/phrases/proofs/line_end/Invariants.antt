-- `phrases::line_end` meets its contract. Assumes nothing.
use mathlib.Core.Path.{◌≡◌}
use Prim.Native.Nat.{◌≤◌, max}
use lib.ListN.{length, drop}
use Rattle.phrases.specs.Inside.{line_end}
use Rattle.phrases.proofs.line_end.Given as goal

abbrev pub invariant-loop-i : goal.invariant-loop-i
invariant-loop-i l = (l.i ≤ max l.at (length l.text)) × (line_end l.i (drop l.i l.text) ≡ line_end l.at (drop l.at l.text))
