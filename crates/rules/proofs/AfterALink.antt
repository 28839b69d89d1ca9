-- Document 02, §8, computed: what may come after a link from 0 to 1. Number 10 is given to a link only where its C ends an earlier
-- one. Assumes nothing.
use mathlib.Core.Path.{◌≡◌, refl}
use mathlib.Core.List.{List, [], ◌∷◌, ◌++◌}
use Prim.Native.Nat.{ℕ}
use lib.IntN.{pos}
use Rattle.records.specs.Records.{how_many, some, first_that}
use Rattle.records.specs.declared.Record.{Record}
use Rattle.rules.specs.OneRecord.{after, number_of, number_for_with, last_kind}

abbrev joins : ℕ → ℕ → ℕ → ℕ → Record
joins kind a b n = record { kind = kind; a = a; b = b; first = pos 1; second = pos n; code = 0 }

-- four points, and the link from 0 to 1
abbrev linked : List Record
linked =
    record { kind = 1; a = 0; b = 0; first = pos 0; second = pos 0; code = 0 }
    ∷ record { kind = 1; a = 1; b = 0; first = pos 0; second = pos 0; code = 0 }
    ∷ record { kind = 1; a = 2; b = 0; first = pos 0; second = pos 0; code = 0 }
    ∷ record { kind = 1; a = 3; b = 0; first = pos 0; second = pos 0; code = 0 }
    ∷ joins 2 0 1 2
    ∷ []

-- the number of a link from A to C after it, and of a wait of V for C after a link from 1 to 2 as well
abbrev link_number : ℕ → ℕ → ℕ
link_number A C = number_of (after linked) (joins 2 A C 2) 0

abbrev wait_number : ℕ → ℕ → ℕ
wait_number B C = number_of (after (linked ++ (joins 2 1 2 2 ∷ []))) (joins 4 B C 0) 0

-- A link may start where one ends, end where one starts, start where one starts, and close a ring.
pub may_start : (link_number 1 2 ≡ 0) × (link_number 2 0 ≡ 0) × (link_number 0 2 ≡ 0) × (link_number 1 0 ≡ 0)
unfolding how_many some first_that number_for_with last_kind
may_start = (refl, refl, refl, refl)

-- It may not end where one ends.
pub one_end : (link_number 2 1 ≡ 10) × (link_number 0 1 ≡ 10)
unfolding how_many some first_that number_for_with last_kind
one_end = (refl, refl)

-- A wait's C may end a link that starts at a watched point; C ends a link, V ends none, and V is not C's A.
pub waits_still : (wait_number 3 2 ≡ 0) × (wait_number 0 2 ≡ 0) × (wait_number 3 0 ≡ 10) × (wait_number 1 2 ≡ 10) × (wait_number 2 1 ≡ 10) × (wait_number 0 1 ≡ 10)
unfolding how_many some first_that number_for_with last_kind
waits_still = (refl, refl, refl, refl, refl, refl)
