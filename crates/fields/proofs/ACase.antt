-- Worked cases of a line's fields, computed by the checker. Assumes nothing.
use mathlib.Core.Path.{◌≡◌, refl}
use mathlib.Core.List.{List, [], ◌∷◌, map}
use Prim.Native.String.{String}
use Rattle.values.specs.Ascii.{ascii}
use Rattle.fields.specs.Quoting.{Columns, broken, columns, fields_from, fields_of}

abbrev line : String → Columns
line t = fields_of (ascii t)

abbrev fields : List String → Columns
fields ts = columns (map ascii ts)

-- a text in front of others where the line is not broken
front_unless : Columns → String → List String → List String
front_unless broken t ts = ts
front_unless (columns fs) t ts = t ∷ ts

-- the lines whose quoting is whole
whole : List String → List String
whole [] = []
whole (t ∷ ts) = front_unless (line t) t (whole ts)

-- a quote in the middle of a field or behind its end, one never closed, a CR or an LF inside quotes or alone
all_broken : whole ("a\"b" ∷ "ab\"" ∷ "a,b\"c,d" ∷ "\"a\"b" ∷ "\"a\" ,b" ∷ "\"a\"\"" ∷ "\"" ∷ "a,\"b" ∷ "\"a,b" ∷ "\"\"\"" ∷ "a\nb" ∷ "a\rb" ∷ "\n" ∷ "\r" ∷ "a\r" ∷ "\"a\nb\"" ∷ "\"a\rb\"" ∷ "\"a\"\r" ∷ "\"a\"\n" ∷ []) ≡ []
unfolding whole front_unless fields_from
all_broken = refl

blank : line "" ≡ fields ("" ∷ [])
unfolding fields_from
blank = refl

commas : line ",," ≡ fields ("" ∷ "" ∷ "" ∷ [])
unfolding fields_from
commas = refl

bare : line "point,0, x,-5" ≡ fields ("point" ∷ "0" ∷ " x" ∷ "-5" ∷ [])
unfolding fields_from
bare = refl

quoted : line "\"point\",\"\",\"45,976\",\"say \"\"hi\"\"\",\"\"\"\"" ≡ fields ("point" ∷ "" ∷ "45,976" ∷ "say \"hi\"" ∷ "\"" ∷ [])
unfolding fields_from
quoted = refl
