-- Document 02, §1, "comma-separated text as RFC 4180 has it, quoted fields and doubled quotes included": the fields of one line,
-- or that its quoting is broken. Bytes are ASCII codes. Assumes nothing.
use Rattle.std.specs.Prelude.{Bool, ◌||◌, List, [], ◌∷◌, ℕ, eqb, if◌then◌else◌}
use Rattle.fields.specs.declared.Place.{Place}
use Rattle.fields.specs.declared.Place.TheVariants.{Begin, Bare, Quoted, Closed}
use Rattle.fields.specs.declared.Act.{Act}
use Rattle.fields.specs.declared.Act.TheVariants.{Keep, Skip, Cut, Break}

abbrev pub quote : ℕ
quote = 34

abbrev pub comma : ℕ
comma = 44

abbrev pub cr : ℕ
cr = 13

abbrev pub lf : ℕ
lf = 10

-- a CR or an LF: a line's end is cut off before its fields are read, so either is alone or inside quotes
abbrev pub is_break : ℕ → Bool
is_break c = eqb c cr || eqb c lf

-- outside quotes a comma ends the field, and a quote is out of place
abbrev pub bare_act : ℕ → Act
bare_act c =
    if eqb c comma then Cut
    else (if eqb c quote || is_break c then Break
    else Keep Bare)

-- inside quotes a quote closes the field, unless another follows
abbrev pub quoted_act : ℕ → Act
quoted_act c =
    if eqb c quote then Skip Closed
    else (if is_break c then Break
    else Keep Quoted)

-- behind a quote that may have closed the field: a second one is a quote of the field, and a comma ends it
abbrev pub closed_act : ℕ → Act
closed_act c =
    if eqb c quote then Keep Quoted
    else (if eqb c comma then Cut
    else Break)

-- what a byte does at its place in a field: a field that begins with a quote is a quoted one
abbrev pub act_of : Place → ℕ → Act
act_of Begin c = if eqb c quote then Skip Quoted else bare_act c
act_of Bare c = bare_act c
act_of Quoted c = quoted_act c
act_of Closed c = closed_act c

-- the place behind the byte
abbrev pub behind : Act → Place
behind (Keep p) = p
behind (Skip p) = p
behind Cut = Begin
behind Break = Begin

-- the fields of a line, without their quotes; or its quoting is broken
pub data Columns : Type 0 where
  broken : Columns
  columns : List (List ℕ) → Columns

-- a byte more in front of the first field
abbrev pub with_byte : ℕ → Columns → Columns
with_byte c broken = broken
with_byte c (columns []) = columns []
with_byte c (columns (f ∷ fs)) = columns ((c ∷ f) ∷ fs)

-- a field in front of the others
abbrev pub with_field : List ℕ → Columns → Columns
with_field f broken = broken
with_field f (columns fs) = columns (f ∷ fs)

-- the fields from a byte on, by what it does and by the fields behind it
abbrev pub acted : Act → ℕ → Columns → Columns
acted (Keep p) c fs = with_byte c fs
acted (Skip p) c fs = fs
acted Cut c fs = with_field [] fs
acted Break c fs = broken

-- the line ends: a quote that was never closed is broken
abbrev pub last_field : Place → Columns
last_field Begin = columns ([] ∷ [])
last_field Bare = columns ([] ∷ [])
last_field Quoted = broken
last_field Closed = columns ([] ∷ [])

-- the fields of what is left of a line, from a place in a field on
unfoldable pub fields_from : Place → List ℕ → Columns
fields_from p [] = last_field p
fields_from p (c ∷ s) = acted (act_of p c) c (fields_from (behind (act_of p c)) s)

-- the fields of a line
abbrev pub fields_of : List ℕ → Columns
fields_of l = fields_from Begin l
