-- `fields::walk_from` meets its contract. Assumes nothing.
use mathlib.Core.Path.{◌≡◌}
use Prim.Native.Nat.{◌≤◌, max}
use lib.ListN.{length, drop}
use Rattle.fields.specs.Inside.{walk_from}
use Rattle.fields.proofs.walk_from.Given as goal

abbrev pub invariant-loop-i : goal.invariant-loop-i
invariant-loop-i l = (l.i ≤ max l.at (length l.piece)) × (walk_from l.here l.i (drop l.i l.piece) ≡ walk_from l.initial.here l.at (drop l.at l.piece))
