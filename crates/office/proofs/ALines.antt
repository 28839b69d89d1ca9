-- Worked cases of a text's lines and of a line's columns, computed by the checker: a page of its own, since it is quick, and `Lines`
-- builds on it, so that a wrong reading is refused here first. Assumes nothing.
use mathlib.Core.Path.{◌≡◌, refl}
use mathlib.Core.List.{[], ◌∷◌}
use Rattle.values.specs.Ascii.{ascii}
use Rattle.values.specs.Values.{same}
use Rattle.fields.specs.Quoting.{columns}
use Rattle.office.specs.Sheets.{begins_lf, before, pieces, without_rest, lines_of, bad, readable, row_of, kind_of}

pub none_left : lines_of (ascii "") ≡ []
unfolding pieces before begins_lf without_rest
none_left = refl

-- the last line may lack its CR LF
last : lines_of (ascii "a\r\nb") ≡ ascii "a" ∷ ascii "b" ∷ []
unfolding pieces before begins_lf without_rest
last = refl

-- a final CR LF starts no line
final : lines_of (ascii "a\r\nb\r\n") ≡ ascii "a" ∷ ascii "b" ∷ []
unfolding pieces before begins_lf without_rest
final = refl

-- one before it does
blank : lines_of (ascii "\r\n\r\n") ≡ [] ∷ [] ∷ []
unfolding pieces before begins_lf without_rest
blank = refl

-- a CR or an LF alone ends none
alone : lines_of (ascii "a\nb\rc\n\rd\r\r\n") ≡ ascii "a\nb\rc\n\rd\r" ∷ []
unfolding pieces before begins_lf without_rest
alone = refl

-- a column too many is 41, and not 42
seven : row_of (columns ([] ∷ [] ∷ [] ∷ [] ∷ [] ∷ [] ∷ [] ∷ [])) ≡ bad 41
unfolding row_of readable kind_of same
seven = refl
