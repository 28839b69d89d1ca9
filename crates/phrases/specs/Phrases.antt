-- A listing, typed by people: the text as its lines, a line as its words, and what a word says. Texts are bytes, ASCII codes.
-- Assumes nothing.
use Rattle.std.specs.Prelude.{Bool, true, false, ◌&&◌, ◌||◌, not, List, [], ◌∷◌, ℕ, eqb, ltb, if◌then◌else◌}
use Rattle.points.specs.Sets.{member, with_of}
use Rattle.values.specs.Ascii.{ascii}
use Rattle.values.specs.Values as values
use Rattle.values.specs.Values.{same, is_empty, all_digits, value_from}

abbrev pub is_lf : ℕ → Bool
is_lf c = eqb c 10

abbrev pub is_cr : ℕ → Bool
is_cr c = eqb c 13

-- a space or a tab
abbrev pub is_blank : ℕ → Bool
is_blank c = eqb c 32 || eqb c 9

abbrev pub is_hash : ℕ → Bool
is_hash c = eqb c 35

abbrev pub is_comma : ℕ → Bool
is_comma c = eqb c 44

-- a byte in front of the first piece
abbrev pub in_first : ℕ → List (List ℕ) → List (List ℕ)
in_first c [] = (c ∷ []) ∷ []
in_first c (p ∷ ps) = (c ∷ p) ∷ ps

-- the bytes cut at each that is so, which belongs to no piece
unfoldable pub cut : (ℕ → Bool) → List ℕ → List (List ℕ)
cut so [] = [] ∷ []
cut so (c ∷ s) = if so c then [] ∷ cut so s else in_first c (cut so s)

-- those pieces that are not empty
unfoldable pub filled : List (List ℕ) → List (List ℕ)
filled [] = []
filled (p ∷ ps) = if is_empty p then filled ps else p ∷ filled ps

-- ---- lines

unfoldable pub begins_lf : List ℕ → Bool
begins_lf [] = false
begins_lf (c ∷ s) = is_lf c

-- a byte in front of others, unless it is left out
abbrev pub unless : Bool → ℕ → List ℕ → List ℕ
unless out c s = if out then s else c ∷ s

-- the text without each CR in front of an LF; a CR anywhere else stays
unfoldable pub without_crs : List ℕ → List ℕ
without_crs [] = []
without_crs (c ∷ s) = unless (is_cr c && begins_lf s) c (without_crs s)

-- "lines end in LF or CR LF, the last may lack it"
abbrev pub lines_of : List ℕ → List (List ℕ)
lines_of s = cut is_lf (without_crs s)

-- ---- words

-- "`#` begins a comment up to the line's end"
unfoldable pub uncommented : List ℕ → List ℕ
uncommented [] = []
uncommented (c ∷ s) = if is_hash c then [] else c ∷ uncommented s

-- "words are separated by spaces and tabs, any number, leading and trailing ones too"
abbrev pub words_of : List ℕ → List (List ℕ)
words_of l = filled (cut is_blank (uncommented l))

-- ---- what a word says

-- the kind that a word names, 1 to 4 as the plan file has them, 5 for the mark and 6 for an event; 0 for a word that names none
unfoldable pub kind_of : List ℕ → ℕ
kind_of f =
    if not (eqb (values.kind_of f) 0) then values.kind_of f
    else (if same f (ascii "mark") then 5
    else (if same f (ascii "event") then 6
    else 0))

-- decimal digits, at least one, of a number below n: zeros in front change nothing, and there is no sign
abbrev pub is_below : ℕ → List ℕ → Bool
is_below n f = not (is_empty f) && (all_digits f && ltb (value_from 0 f) n)

-- the number of such a word
abbrev pub value_of : List ℕ → ℕ
value_of f = value_from 0 f

abbrev pub is_none : List ℕ → Bool
is_none f = same f (ascii "none")

-- the pieces are points below 32, none of them twice and none of them in the set s
unfoldable pub are_points : ℕ → List (List ℕ) → Bool
are_points s [] = true
are_points s (f ∷ fs) = (is_below 32 f && not (member s (value_of f))) && are_points (with_of s (value_of f)) fs

-- the set of them, with those of s
unfoldable pub set_from : ℕ → List (List ℕ) → ℕ
set_from s [] = s
set_from s (f ∷ fs) = set_from (with_of s (value_of f)) fs

-- "points below 32 separated by single commas, no point twice"
abbrev pub are_points_of : List ℕ → Bool
are_points_of f = are_points 0 (cut is_comma f)

-- `none`, or points
abbrev pub is_set : List ℕ → Bool
is_set f = is_none f || are_points_of f

abbrev pub set_of : List ℕ → ℕ
set_of f = if is_none f then 0 else set_from 0 (cut is_comma f)

-- `none`, or a point of an event
abbrev pub is_point_or_none : List ℕ → Bool
is_point_or_none f = is_none f || is_below 255 f

abbrev pub point_or_none : List ℕ → ℕ
point_or_none f = if is_none f then 255 else value_of f
