-- The words of the program `desk`, behind its name: a verb, and what it is asked. "Words that are numbers are decimal digits,
-- zeros in front allowed; what does not fit 32 bits is wrong usage." Words are bytes, ASCII codes. Assumes nothing.
use Rattle.std.specs.Prelude.{Bool, ◌&&◌, not, List, [], ◌∷◌, Option, Some, None, ℕ, ◌^◌, eqb, ltb, if◌then◌else◌}
use Rattle.values.specs.Values.{same, is_empty, all_digits, value_from}
use Rattle.asks.specs.declared.Asked.{Asked}
use Rattle.asks.specs.declared.Asked.TheVariants.{Test, Worst, Day, Import, Close, Lighter, Pack, Listing, Explain, Calendar, Nothing}

-- test, worst, day, import, close, lighter, pack, list, explain, calendar
abbrev pub test_verb : List ℕ
test_verb = 116 ∷ 101 ∷ 115 ∷ 116 ∷ []

abbrev pub worst_verb : List ℕ
worst_verb = 119 ∷ 111 ∷ 114 ∷ 115 ∷ 116 ∷ []

abbrev pub day_verb : List ℕ
day_verb = 100 ∷ 97 ∷ 121 ∷ []

abbrev pub import_verb : List ℕ
import_verb = 105 ∷ 109 ∷ 112 ∷ 111 ∷ 114 ∷ 116 ∷ []

abbrev pub close_verb : List ℕ
close_verb = 99 ∷ 108 ∷ 111 ∷ 115 ∷ 101 ∷ []

abbrev pub lighter_verb : List ℕ
lighter_verb = 108 ∷ 105 ∷ 103 ∷ 104 ∷ 116 ∷ 101 ∷ 114 ∷ []

abbrev pub pack_verb : List ℕ
pack_verb = 112 ∷ 97 ∷ 99 ∷ 107 ∷ []

abbrev pub list_verb : List ℕ
list_verb = 108 ∷ 105 ∷ 115 ∷ 116 ∷ []

abbrev pub explain_verb : List ℕ
explain_verb = 101 ∷ 120 ∷ 112 ∷ 108 ∷ 97 ∷ 105 ∷ 110 ∷ []

abbrev pub calendar_verb : List ℕ
calendar_verb = 99 ∷ 97 ∷ 108 ∷ 101 ∷ 110 ∷ 100 ∷ 97 ∷ 114 ∷ []

-- decimal digits, at least one, of a number of 32 bits
abbrev pub is_count : List ℕ → Bool
is_count f = not (is_empty f) && (all_digits f && ltb (value_from 0 f) (2 ^ 32))

-- a verb alone
unfoldable pub alone : List ℕ → Asked
alone f =
    if same f test_verb then Test
    else (if same f worst_verb then Worst
    else (if same f import_verb then Import
    else (if same f close_verb then Close
    else (if same f lighter_verb then Lighter
    else (if same f pack_verb then Pack
    else (if same f list_verb then Listing
    else (if same f explain_verb then Explain
    else Nothing)))))))

-- a verb and a number
unfoldable pub counted : List ℕ → List ℕ → Asked
counted f g = if same f day_verb && is_count g then Day (value_from 0 g) else Nothing

-- a verb and five words, each of which `number_of` tells
unfoldable pub dated : List ℕ → Asked
dated f = if same f calendar_verb then Calendar else Nothing

-- the number that a word is, where it is one
unfoldable pub number_of : List ℕ → Option ℕ
number_of f = if is_count f then Some (value_from 0 f) else None

-- n words in all, the program's name the first of them, f and g the next two
unfoldable pub asked_of : ℕ → List ℕ → List ℕ → Asked
asked_of n f g =
    if eqb n 2 then alone f
    else (if eqb n 3 then counted f g
    else (if eqb n 7 then dated f
    else Nothing))
