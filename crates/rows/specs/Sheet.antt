-- The sheet: the records of a plan laid out as six numbers each, so that they can be lent to the test, and the edges that
-- the rows of a sheet stand for. A reader of the rules can leave this page out. Assumes nothing.
use Rattle.std.specs.Prelude.{◌≡◌, List, ℕ, min, ◌+◌, ◌*◌, ◌<◌, ◌≤◌, length, get_or}
use Rattle.plan.specs.Limits.{farthest, most_records}
use Rattle.tables.specs.declared.table.Part.{Part}
use Rattle.rows.specs.declared.sheet.Row.{Row}
use Rattle.tables.specs.Tables.{side}
use Rattle.tables.specs.Entries.{at, Sound}
use Rattle.tables.specs.Distances.{Drawn}
use Rattle.tables.specs.Steps.{PartOf}

-- a row has the record's kind; the points that it joins, from and to, a wait's from its own point to its link's A; its
-- numbers: x and y, up and down, or w; and the record's second point, a link's or a wait's C
abbrev pub width : ℕ
width = 6

abbrev pub sheet_room : ℕ
sheet_room = width * most_records

abbrev pub field : List ℕ → ℕ → ℕ → ℕ
field s q j = get_or s (q * width + j) 0

abbrev pub kind_at : List ℕ → ℕ → ℕ
kind_at s q = get_or s (q * width) 0

abbrev pub from_at : List ℕ → ℕ → ℕ
from_at s q = field s q 1

abbrev pub to_at : List ℕ → ℕ → ℕ
to_at s q = field s q 2

abbrev pub first_at : List ℕ → ℕ → ℕ
first_at s q = field s q 3

abbrev pub second_at : List ℕ → ℕ → ℕ
second_at s q = field s q 4

abbrev pub over_at : List ℕ → ℕ → ℕ
over_at s q = field s q 5

-- row q of a sheet
abbrev pub row_at : List ℕ → ℕ → Row
row_at s q = record { kind = kind_at s q; from = from_at s q; to = to_at s q; first = first_at s q; second = second_at s q; over = over_at s q }

-- the durations, by the links' C
abbrev pub by : List ℕ → ℕ → ℕ
by w C = get_or w C 0

-- the edges of row q
pub data Laid (s w : List ℕ) (q X Y u d : ℕ) : Type 0 where
  ordinary : kind_at s q ≡ 3 → X ≡ from_at s q → Y ≡ to_at s q → u ≡ first_at s q → d ≡ second_at s q → Laid s w q X Y u d
  there : kind_at s q ≡ 2 → X ≡ from_at s q → Y ≡ to_at s q → u ≡ by w (over_at s q) → d ≡ 0 → Laid s w q X Y u d
  back : kind_at s q ≡ 2 → X ≡ to_at s q → Y ≡ from_at s q → u ≡ 0 → d ≡ by w (over_at s q) → Laid s w q X Y u d
  wait : kind_at s q ≡ 4 → X ≡ from_at s q → Y ≡ to_at s q → u ≡ 0 → d ≡ min (first_at s q) (by w (over_at s q)) → Laid s w q X Y u d

-- the edges of the first m rows
pub record SheetEdge (s w : List ℕ) (m X Y u d : ℕ) : Type 0 where
  pub row : ℕ
  pub below : row < m
  pub edge : Laid s w row X Y u d

-- a sheet of m records on n points, and durations: what is joined is there, and no number is too far from 0
pub record SheetReady (s w : List ℕ) (m n : ℕ) : Type 0 where
  pub wide : length w ≡ side
  pub rows : m ≤ most_records
  pub few : n ≤ side
  pub from : (q : ℕ) → q < m → 1 < kind_at s q → from_at s q < n
  pub to : (q : ℕ) → q < m → 1 < kind_at s q → to_at s q < n
  pub over : (q : ℕ) → q < m → over_at s q < side
  pub first : (q : ℕ) → q < m → 1 < kind_at s q → first_at s q ≤ farthest
  pub second : (q : ℕ) → q < m → 1 < kind_at s q → second_at s q ≤ farthest
  pub durations : (C : ℕ) → by w C ≤ farthest

-- the table of a part of the first q rows
pub record Drawing (b : Part) (s w : List ℕ) (n q : ℕ) (t : List ℕ) : Type 0 where
  pub sound : Sound t
  pub drawn : Drawn (PartOf b (SheetEdge s w q)) n (at t)
