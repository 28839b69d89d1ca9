-- `office_text::feed` meets its contract. Assumes nothing.
use Rattle.office_text.proofs.Feeds.{open'}
use Rattle.values.specs.Inside.{fresh}
use Rattle.office_text.specs.Feeding.{fed_of}
use lib.ListN.{length, drop}
use mathlib.Core.Path.{◌≡◌}
use Prim.Native.Nat.{◌-◌}
use Rattle.office_text.proofs.feed.Given as goal

abbrev pub invariant-loop-i : goal.invariant-loop-i
invariant-loop-i l = (l.n ≡ length l.piece) × ((l.none ≡ fresh) × (fed_of (open' l.lines l.records l.commas l.cells l.spot) (drop l.i l.piece) ≡ fed_of (open' l.initial.lines l.initial.records l.initial.commas l.initial.cells l.initial.spot) l.piece))

abbrev pub decreases-loop-i : goal.decreases-loop-i
decreases-loop-i l = l.n - l.i
