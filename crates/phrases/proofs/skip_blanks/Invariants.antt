-- `phrases::skip_blanks` meets its contract. Assumes nothing.
use mathlib.Core.Path.{◌≡◌}
use Prim.Native.Nat.{◌≤◌, max}
use lib.ListN.{length, drop}
use Rattle.phrases.specs.Inside.{blanks_from}
use Rattle.phrases.proofs.skip_blanks.Given as goal

abbrev pub invariant-loop-i : goal.invariant-loop-i
invariant-loop-i l = (l.i ≤ max l.at (length l.text)) × (blanks_from l.i (drop l.i l.text) ≡ blanks_from l.at (drop l.at l.text))
