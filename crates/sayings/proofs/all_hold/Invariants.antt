-- `sayings::all_hold` meets its contract. Assumes nothing.
use mathlib.Core.Path.{◌≡◌}
use lib.ListN.{drop}
use Rattle.std.specs.Prelude.{map}
use Rattle.sayings.specs.Inside.{number_of, first_wrong}
use Rattle.sayings.proofs.all_hold.Given as goal

abbrev pub invariant-loop-i : goal.invariant-loop-i
invariant-loop-i l = first_wrong (map number_of (drop l.i l.places)) (drop l.i l.words) ≡ first_wrong (map number_of l.places) l.words
