-- What the functions behind the numbers compute: a slot for each number, 1 has the first. No reader of the rules needs this
-- page. Assumes nothing.
use Rattle.std.specs.Prelude.{Bool, not, ◌&&◌, ◌||◌, List, ℕ, suc, ◌-◌, ◌%◌, eqb, ltb, leb, get_or, if◌then◌else◌}
use Rattle.points.specs.Sets.{member, count_of, below_of, from, every}
use Rattle.plan.specs.Limits.{most_points}

-- the slot of a number
abbrev pub slot_of : ℕ → ℕ
slot_of n = (n - 1) % most_points

-- the slot for a foreman's point, and none for a watched one
abbrev pub slot_by : Bool → ℕ → ℕ
slot_by watches s = if watches then most_points else s

-- a done point of the number n and the minute m agrees with what was noted before it: n is 1 up to 32; where its slot s was
-- seen, the minute noted there is m; and its slot as a foreman's point had none before it
abbrev pub agrees_with : ℕ → ℕ → ℕ → ℕ → ℕ → ℕ → ℕ → Bool
agrees_with n m s by seen noted foremans =
    (ltb 0 n && leb n most_points) && ((not (member seen s) || eqb noted m) && not (member foremans by))

-- the minute noted at a slot is no later than the next slot's
abbrev pub rises : List ℕ → ℕ → Bool
rises noted s = leb (get_or noted s 0) (get_or noted (suc s) 0)

-- of the first k slots, each but the last
abbrev pub rising : List ℕ → ℕ → Bool
rising noted k = every (rises noted) (from 0 (k - 1))

-- the slots that were seen are the first ones, and the minutes noted there never fall
abbrev pub in_order : ℕ → List ℕ → Bool
in_order seen noted = eqb seen (below_of (count_of seen)) && rising noted (count_of seen)
