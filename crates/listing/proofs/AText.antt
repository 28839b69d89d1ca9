-- Worked cases of whole listings, computed by the checker: each text with the number, the line and the length that packing it into 64
-- bytes answers. The proofs build on this page, so that a wrong reading is refused here first. Assumes nothing.
use mathlib.Core.Path.{◌≡◌, refl}
use mathlib.Core.Bool.{Bool, true, false, ◌&&◌}
use mathlib.Core.List.{List, [], ◌∷◌}
use Prim.Native.Nat.{ℕ}
use Prim.Native.String.{String}
use lib.Dec.{eqb}
use Rattle.std.specs.Prelude.{Result, Ok, Err}
use Rattle.values.specs.Ascii.{ascii}
use Rattle.values.specs.Values as values
use Rattle.values.specs.Values.{same, all_digits, value_from, is_negative, unsigned}
use Rattle.points.specs.Sets.{member, with_of}
use Rattle.phrases.specs.Phrases.{cut, filled, without_crs, begins_lf, uncommented, kind_of, are_points, set_from}
use Rattle.records.specs.Bytes.{bytes_of}
use Rattle.sayings.specs.Sayings.{expected, holds, first_wrong, said_by, row_of}
use Rattle.listing.specs.Listing.{outcome, outcome_of, all_said, packed, written}
use Rattle.listing.specs.declared.Refused.{Refused}

infix 70 ◌gives◌at◌long◌
-- a text, a number, a line and a length
data Case : Type 0 where
  ◌gives◌at◌long◌ : String → ℕ → ℕ → ℕ → Case

-- the row, unless it is right
unless_right : Bool → Case → List Case → List Case
unless_right true c cs = cs
unless_right false c cs = c ∷ cs

-- what is answered: 0 at no line where it is a length
answered : String → ℕ → ℕ → ℕ → Result ℕ Refused → List Case → List Case
unfolding unless_right
answered t n l m (Ok x) cs = unless_right (eqb 0 n && (eqb 0 l && eqb x m)) (t gives 0 at 0 long x) cs
answered t n l m (Err x) cs = unless_right (eqb x.number n && (eqb x.line l && eqb 0 m)) (t gives x.number at x.line long 0) cs

-- the rows that are wrong, with what is right
wrong : List Case → List Case
wrong [] = []
wrong (t gives n at l long m ∷ cs) = answered t n l m (packed 64 (outcome_of (ascii t))) (wrong cs)

texts : List Case
texts =
    "" gives 0 at 0 long 0
    ∷ "\n\r\n  # nothing\n" gives 0 at 0 long 0
    ∷ "point 0 041705" gives 0 at 0 long 16
    ∷ "point 0 1\npoint 1 2\n" gives 0 at 0 long 32
    ∷ "point 0 1\r\n\r\npoint 1 2\r\nmark" gives 0 at 0 long 48
    ∷ "mark\r" gives 1 at 1 long 0
    ∷ "mark \r\n" gives 0 at 0 long 16
    ∷ "ma\rrk\n" gives 1 at 1 long 0
    ∷ "mark\n\nmar\nmark" gives 1 at 3 long 0
    ∷ "mark\nmark\nmark\nmark" gives 0 at 0 long 64
    ∷ "mark\nmark\nmark\nmark\nmark" gives 8 at 0 long 0
    ∷ "mark\nmark\nmark\nmark\nmark\npoint 300 0" gives 3 at 6 long 0
    ∷ "point 0 1\npoint 4294967301 1\nwait" gives 3 at 2 long 0
    ∷ "event 0 none none\nevent 1 2 3,3 # twice" gives 7 at 2 long 0
    ∷ []

texts_right : wrong texts ≡ []
unfolding wrong answered unless_right texts outcome cut filled without_crs begins_lf uncommented kind_of are_points set_from values.kind_of same all_digits value_from is_negative unsigned expected holds first_wrong said_by row_of member with_of
texts_right = refl

-- the bytes of a point whose pond is typed with a zero in front, in front of what the buffer held
pub octal : written (7 ∷ 7 ∷ 7 ∷ 7 ∷ 7 ∷ 7 ∷ 7 ∷ 7 ∷ 7 ∷ 7 ∷ 7 ∷ 7 ∷ 7 ∷ 7 ∷ 7 ∷ 7 ∷ 9 ∷ []) (outcome_of (ascii "point 3 041705"))
    ≡ 1 ∷ 3 ∷ 0 ∷ 0 ∷ 0 ∷ 0 ∷ 0 ∷ 0 ∷ 0 ∷ 0 ∷ 0 ∷ 0 ∷ 233 ∷ 162 ∷ 0 ∷ 0 ∷ 9 ∷ []
unfolding outcome all_said bytes_of cut filled without_crs begins_lf uncommented kind_of values.kind_of same all_digits value_from is_negative unsigned expected holds first_wrong said_by row_of
octal = refl

-- a refusal leaves every byte
kept : written (7 ∷ 7 ∷ []) (outcome_of (ascii "mark\npoint 300 0\n")) ≡ 7 ∷ 7 ∷ []
unfolding outcome all_said bytes_of cut filled without_crs begins_lf uncommented kind_of values.kind_of same all_digits value_from is_negative unsigned expected holds first_wrong said_by row_of
kept = refl
