-- `phrases::word_from` meets its contract. Assumes nothing.
use mathlib.Core.Path.{◌≡◌}
use Prim.Native.Nat.{◌≤◌, max}
use lib.ListN.{length, drop}
use Rattle.phrases.specs.Inside.{fresh_word, word_from}
use Rattle.phrases.proofs.word_from.Given as goal

abbrev pub invariant-loop-i : goal.invariant-loop-i
invariant-loop-i l = (l.i ≤ max l.at (length l.text)) × (word_from l.word l.i (drop l.i l.text) ≡ word_from fresh_word l.at (drop l.at l.text))
