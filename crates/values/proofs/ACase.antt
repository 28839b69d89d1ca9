-- Worked cases of what a field says, computed by the checker. A wrong one is refused with the field's text. Assumes nothing.
use mathlib.Core.Path.{◌≡◌, refl}
use mathlib.Core.Bool.{Bool, true, false, not}
use mathlib.Core.List.{List, [], ◌∷◌, map}
use Prim.Native.Nat.{ℕ}
use Prim.Native.String.{String}
use lib.IntN.{pos, negsuc}
use Rattle.values.specs.Ascii.{ascii}
use Rattle.values.specs.Values.{same, is_kind, kind_of, all_digits, value_from, is_negative, unsigned, is_point, point_of, is_number, number_of, is_shaped, shaped_code, is_code, code_of}

-- a text in front of others where the test holds
front_if : Bool → String → List String → List String
front_if true t ts = t ∷ ts
front_if false t ts = ts

-- the texts that pass the test, and those that do not
passing : (List ℕ → Bool) → List String → List String
passing so [] = []
passing so (t ∷ ts) = front_if (so (ascii t)) t (passing so ts)

failing : (List ℕ → Bool) → List String → List String
failing so ts = passing (λ f. not (so f)) ts

-- kind words, exactly
unkind : passing is_kind ("" ∷ "Point" ∷ "POINT" ∷ "points" ∷ "poin" ∷ " point" ∷ "link " ∷ "0" ∷ "1" ∷ "ordinaryordinary" ∷ []) ≡ []
unfolding passing front_if kind_of same
unkind = refl

kinds : map (λ t. kind_of (ascii t)) ("point" ∷ "link" ∷ "ordinary" ∷ "wait" ∷ []) ≡ 1 ∷ 2 ∷ 3 ∷ 4 ∷ []
unfolding kind_of same
kinds = refl

-- numbers: no plus, no space, no minus alone, no point or exponent, nothing that its place cannot hold
no_points : passing is_point ("+0" ∷ "-" ∷ "--0" ∷ "0-" ∷ " 0" ∷ "0 " ∷ "1e0" ∷ "0.0" ∷ "-1" ∷ "256" ∷ "4294967296" ∷ []) ≡ []
unfolding passing front_if all_digits value_from is_negative unsigned
no_points = refl

points : map (λ t. point_of (ascii t)) ("" ∷ "0" ∷ "-0" ∷ "007" ∷ "255" ∷ []) ≡ 0 ∷ 0 ∷ 0 ∷ 7 ∷ 255 ∷ []
unfolding all_digits value_from is_negative unsigned
points = refl

all_points : failing is_point ("" ∷ "0" ∷ "-0" ∷ "007" ∷ "255" ∷ []) ≡ []
unfolding failing passing front_if all_digits value_from is_negative unsigned
all_points = refl

no_numbers : passing is_number ("+1" ∷ "-" ∷ "1-" ∷ "100,000" ∷ "2147483648" ∷ "-2147483649" ∷ "4294967296" ∷ "18446744073709551616" ∷ []) ≡ []
unfolding passing front_if all_digits value_from is_negative unsigned
no_numbers = refl

all_numbers : failing is_number ("" ∷ "-0" ∷ "2147483647" ∷ "-2147483648" ∷ "-0000000000000000000010" ∷ []) ≡ []
unfolding failing passing front_if all_digits value_from is_negative unsigned
all_numbers = refl

numbers : map (λ t. number_of (ascii t)) ("" ∷ "-0" ∷ "100000" ∷ "-10" ∷ []) ≡ pos 0 ∷ pos 0 ∷ pos 100000 ∷ negsuc 9 ∷ []
unfolding all_digits value_from is_negative unsigned
numbers = refl

-- pond codes, and what is none
no_codes : passing is_code ("aa0000" ∷ "Aa0000" ∷ "AA00000" ∷ "AA000" ∷ "AAA000" ∷ "A00000" ∷ " AA0000" ∷ "AA 000" ∷ "0" ∷ "@A0000" ∷ "[A0000" ∷ "AA/000" ∷ "AA:000" ∷ []) ≡ []
unfolding passing front_if is_shaped
no_codes = refl

-- whatever a spreadsheet makes of one that it takes for a date
no_dates : passing is_code ("2026-11-15" ∷ "15/11/2026" ∷ "11/15/26" ∷ "15.11.2026" ∷ "Nov-26" ∷ "NOV26" ∷ "1-Jan" ∷ "01-Jan-26" ∷ "Jan 1" ∷ "15 November 2026" ∷ "20261115" ∷ "45976" ∷ "45,976" ∷ "4.6E+04" ∷ []) ≡ []
unfolding passing front_if is_shaped
no_dates = refl

codes : map (λ t. code_of (ascii t)) ("" ∷ "AA0000" ∷ "AA0001" ∷ "AB0000" ∷ "BA0000" ∷ "ZZ9999" ∷ []) ≡ 0 ∷ 1 ∷ 2 ∷ 10001 ∷ 260001 ∷ 6760000 ∷ []
unfolding shaped_code value_from
codes = refl
