-- Document 01, "A plan": the four kinds of record, and what some records say of the points. Assumes nothing.
use Rattle.std.specs.Prelude.{Bool, true, false, ◌&&◌, ◌||◌, List, [], ◌∷◌, ℕ, ◌+◌, eqb, pos, if◌then◌else◌}
use Rattle.records.specs.Limits.{most_points, most_links, most_waits}
use Rattle.records.specs.declared.Record.{Record}

pub data Kind : Type 0 where
  point : Kind
  link : Kind
  ordinary : Kind
  wait : Kind
  unknown : Kind

-- the kind that a record's first byte names
abbrev pub kind_of : ℕ → Kind
kind_of k =
    if eqb k 1 then point
    else (if eqb k 2 then link
    else (if eqb k 3 then ordinary
    else (if eqb k 4 then wait
    else unknown)))

-- how many records of a kind a plan may have, where m is the limit of ordinary ones
abbrev pub most_with : ℕ → Kind → ℕ
most_with m point = most_points
most_with m link = most_links
most_with m ordinary = m
most_with m wait = most_waits
most_with m unknown = 0

-- the byte that names a kind
abbrev pub byte_of : Kind → ℕ
byte_of point = 1
byte_of link = 2
byte_of ordinary = 3
byte_of wait = 4
byte_of unknown = 0

-- r is of the kind
abbrev pub is : Kind → Record → Bool
is k r = eqb r.kind (byte_of k)

-- r is a link that ends at p
abbrev pub ends_at : ℕ → Record → Bool
ends_at p r = is link r && eqb p r.b

-- r is an ordinary record from p to q
abbrev pub from_to : ℕ → ℕ → Record → Bool
from_to p q r = is ordinary r && (eqb p r.a && eqb q r.b)

abbrev pub one : Bool → ℕ
one true = 1
one false = 0

-- how many of the records are so
unfoldable pub how_many : (Record → Bool) → List Record → ℕ
how_many so [] = 0
how_many so (r ∷ rs) = one (so r) + how_many so rs

-- whether one of the records is so
unfoldable pub some : (Record → Bool) → List Record → Bool
some so [] = false
some so (r ∷ rs) = so r || some so rs

-- the points are numbered from 0, so their count is the next number
abbrev pub points : List Record → ℕ
points rs = how_many (is point) rs

-- how many links there are
abbrev pub links : List Record → ℕ
links rs = how_many (is link) rs

-- p ends a link: it is only watched
abbrev pub watched : List Record → ℕ → Bool
watched rs p = some (ends_at p) rs

-- an ordinary record leads from p to q
abbrev pub leads : List Record → ℕ → ℕ → Bool
leads rs p q = some (from_to p q) rs

-- a record of zeros, as unused room holds
abbrev pub blank : Record
blank = record { kind = 0; a = 0; b = 0; first = pos 0; second = pos 0; code = 0 }

-- the first of the records that is so, and `blank` where none is
unfoldable pub first_that : (Record → Bool) → List Record → Record
first_that so [] = blank
first_that so (r ∷ rs) = if so r then r else first_that so rs

-- the link that ends at p
abbrev pub link_to : List Record → ℕ → Record
link_to rs p = first_that (ends_at p) rs
