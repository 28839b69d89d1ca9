-- A text that says a plan: a line for each record, numbers with all their places, and CR LF behind each line. Assumes nothing.
use Rattle.std.specs.Prelude.{List, [], ◌∷◌, ◌++◌, ℕ, zero, suc, ◌+◌, ◌/◌, ◌%◌, eqb, ℤ, pos, negsuc, if◌then◌else◌}
use Rattle.records.specs.declared.Record.{Record}
use Rattle.values.specs.Values.{point_word, link_word, ordinary_word, wait_word}
use Rattle.values.specs.Codes.{code_text}
use Rattle.fields.specs.Quoting.{comma, cr, lf}

-- a number in so many decimal places
unfoldable pub places_of : ℕ → ℕ → List ℕ
places_of zero n = []
places_of (suc w) n = places_of w (n / 10) ++ ((48 + n % 10) ∷ [])

abbrev pub word_text : ℕ → List ℕ
word_text k =
    if eqb k 1 then point_word
    else (if eqb k 2 then link_word
    else (if eqb k 3 then ordinary_word
    else wait_word))

abbrev pub number_text : ℤ → List ℕ
number_text (pos n) = places_of 10 n
number_text (negsuc n) = 45 ∷ places_of 10 (n + 1)

-- no pond is an empty field
abbrev pub pond_text : ℕ → List ℕ
pond_text n = if eqb n 0 then [] else code_text n

-- the six fields of a record
abbrev pub field_texts : Record → List (List ℕ)
field_texts r =
    word_text r.kind
    ∷ places_of 3 r.a
    ∷ places_of 3 r.b
    ∷ number_text r.first
    ∷ number_text r.second
    ∷ pond_text r.code
    ∷ []

-- fields with a comma between any two
unfoldable pub joined : List (List ℕ) → List ℕ
joined [] = []
joined (f ∷ []) = f
joined (f ∷ g ∷ fs) = f ++ comma ∷ joined (g ∷ fs)

unfoldable pub text_of : List Record → List ℕ
text_of [] = []
text_of (r ∷ rs) = joined (field_texts r) ++ cr ∷ lf ∷ text_of rs
