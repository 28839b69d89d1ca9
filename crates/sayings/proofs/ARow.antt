-- Worked cases of a line's words, computed by the checker: a page of its own, since it is quick, and the proofs build on it, so that a
-- wrong reading is refused here first. Assumes nothing.
use mathlib.Core.Path.{◌≡◌, refl}
use mathlib.Core.Bool.{Bool, true, false}
use mathlib.Core.List.{List, [], ◌∷◌}
use Prim.Native.Nat.{ℕ}
use Prim.Native.String.{String}
use lib.Dec.{eqb}
use lib.IntN.{pos, negsuc}
use Rattle.points.specs.Sets.{member, with_of}
use Rattle.values.specs.Ascii.{ascii}
use Rattle.values.specs.Values as values
use Rattle.values.specs.Values.{same, all_digits, value_from, is_negative, unsigned}
use Rattle.phrases.specs.Phrases.{cut, filled, uncommented, kind_of, are_points, set_from}
use Rattle.sayings.specs.Sayings.{Row, bad, good, expected, holds, first_wrong, said_by, row_of, line_row}
use Rattle.sayings.specs.declared.Said.TheVariants.{Plan, Event}

abbrev line : String → Row
line t = line_row (ascii t)

infix 70 ◌gives◌
-- a line and what was expected there, 0 where it is good
data Case : Type 0 where
  ◌gives◌ : String → ℕ → Case

abbrev number : Row → ℕ
number (bad n) = n
number (good x) = 0

-- the row, unless it is right
unless_right : Bool → Case → List Case → List Case
unless_right true c cs = cs
unless_right false c cs = c ∷ cs

answered : String → ℕ → ℕ → List Case → List Case
unfolding unless_right
answered t n m cs = unless_right (eqb m n) (t gives m) cs

-- the cases that are wrong, with what is right
wrong : List Case → List Case
wrong [] = []
wrong (t gives n ∷ cs) = answered t n (number (line t)) (wrong cs)

-- "041705 is 41705 and not octal", "4294967301 refused", "a point 300 refused", words too many, a set that is none
numbers : List Case
numbers =
    "point 0 041705" gives 0
    ∷ "point 0 4294967295" gives 0
    ∷ "point 0 4294967296" gives 5
    ∷ "point 0 4294967301" gives 5
    ∷ "point 0 99999999999999999999999999" gives 5
    ∷ "point 0 0x10" gives 5
    ∷ "point 0 +1" gives 5
    ∷ "point 0 -0" gives 5
    ∷ "point 255 1" gives 0
    ∷ "point 256 1" gives 3
    ∷ "point 300 1" gives 3
    ∷ "point -0 1" gives 3
    ∷ "point 0255 1" gives 0
    ∷ "link 0 -2147483648 2147483647 1" gives 0
    ∷ "link 0 -2147483649 0 1" gives 4
    ∷ "link 0 0 2147483648 1" gives 4
    ∷ "link 0 -0 00 1" gives 0
    ∷ "link 0 - 0 1" gives 4
    ∷ "ordinary 0 -5 1" gives 0
    ∷ "ordinary 0 5 -1" gives 3
    ∷ "wait 2 1 -35" gives 0
    ∷ "wait 2 -1 35" gives 3
    ∷ []

numbers_right : wrong numbers ≡ []
unfolding wrong answered unless_right numbers cut filled uncommented kind_of are_points set_from values.kind_of same all_digits value_from is_negative unsigned expected holds first_wrong said_by row_of member with_of
numbers_right = refl

words : List Case
words =
    "" gives 0
    ∷ " \t " gives 0
    ∷ "# point 0 0" gives 0
    ∷ "mark" gives 0
    ∷ "\tmark  # the plan ends" gives 0
    ∷ "mark#" gives 0
    ∷ "mark 0" gives 2
    ∷ "Mark" gives 1
    ∷ "marks" gives 1
    ∷ "part 3" gives 1
    ∷ "point 0" gives 2
    ∷ "point 0 1 2" gives 2
    ∷ "point 0 x 2" gives 2
    ∷ "poin 0 1 2 3 4 5 6" gives 1
    ∷ "point 0 1 2 3 4 5 6" gives 2
    ∷ "link 0 1 2 3 4 5" gives 2
    ∷ "link x y z 1" gives 3
    ∷ "link 0 y z 1" gives 4
    ∷ "link 0 1 2 #3" gives 2
    ∷ "mark\r" gives 1
    ∷ []

words_right : wrong words ≡ []
unfolding wrong answered unless_right words cut filled uncommented kind_of are_points set_from values.kind_of same all_digits value_from is_negative unsigned expected holds first_wrong said_by row_of member with_of
words_right = refl

sets : List Case
sets =
    "event 0 none none" gives 0
    ∷ "event 010 254 0" gives 0
    ∷ "event 0 255 0" gives 6
    ∷ "event 0 none 2,4" gives 0
    ∷ "event 0 none 4,02" gives 0
    ∷ "event 0 none 31" gives 0
    ∷ "event 0 none 32" gives 7
    ∷ "event 0 none 2,2" gives 7
    ∷ "event 0 none 2,02" gives 7
    ∷ "event 0 none 2,,4" gives 7
    ∷ "event 0 none ,2" gives 7
    ∷ "event 0 none 2," gives 7
    ∷ "event 0 none ," gives 7
    ∷ "event 0 none nones" gives 7
    ∷ "event 0 none 2,none" gives 7
    ∷ "event 0 none -2" gives 7
    ∷ "event 0 nine 2" gives 6
    ∷ "event 0 none 2, 4" gives 2
    ∷ "event none none none" gives 5
    ∷ []

sets_right : wrong sets ≡ []
unfolding wrong answered unless_right sets cut filled uncommented kind_of are_points set_from values.kind_of same all_digits value_from is_negative unsigned expected holds first_wrong said_by row_of member with_of
sets_right = refl

-- what some lines say
pub octal : line "point 3 041705" ≡ good (Plan (record { kind = 1; a = 3; b = 0; first = pos 0; second = pos 0; code = 41705 }))
unfolding cut filled uncommented kind_of values.kind_of same all_digits value_from is_negative unsigned expected holds first_wrong said_by row_of
octal = refl

link : line "link 1 20 -30 4" ≡ good (Plan (record { kind = 2; a = 1; b = 4; first = pos 20; second = negsuc 29; code = 0 }))
unfolding cut filled uncommented kind_of values.kind_of same all_digits value_from is_negative unsigned expected holds first_wrong said_by row_of
link = refl

ordinary : line "ordinary 1 -5 2" ≡ good (Plan (record { kind = 3; a = 1; b = 2; first = negsuc 4; second = pos 0; code = 0 }))
unfolding cut filled uncommented kind_of values.kind_of same all_digits value_from is_negative unsigned expected holds first_wrong said_by row_of
ordinary = refl

wait : line "wait 1 2 35" ≡ good (Plan (record { kind = 4; a = 1; b = 2; first = pos 35; second = pos 0; code = 0 }))
unfolding cut filled uncommented kind_of values.kind_of same all_digits value_from is_negative unsigned expected holds first_wrong said_by row_of
wait = refl

event : line "event 010 none 4,2" ≡ good (Event 10 255 20)
unfolding cut filled uncommented kind_of values.kind_of same all_digits value_from is_negative unsigned expected holds first_wrong said_by row_of are_points set_from member with_of
event = refl
