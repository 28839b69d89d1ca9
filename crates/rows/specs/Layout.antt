-- The sheet of a plan: the row of each record. A reader of the rules can leave this page out. Assumes nothing.
use Rattle.std.specs.Prelude.{◌≡◌, List, ℕ, ◌+◌, ◌*◌, ◌<◌, ◌≤◌, length, get_or, set, if◌then◌else◌}
use Rattle.plan.specs.APlan.{link, wait, is, blank, gap_of, link_to}
use Rattle.records.specs.declared.Record.{Record}
use Rattle.rows.specs.declared.layout.Laid.{Laid}
use Rattle.rows.specs.declared.sheet.Row.{Row}
use Rattle.rows.specs.Sheet.{kind_at, from_at, to_at, first_at, second_at, over_at, width, sheet_room}

-- the row of the record r, where start is the A of the link that ends at its second point
abbrev pub row_from : Record → ℕ → Row
row_from r start =
    record {
      kind = r.kind;
      from = r.a;
      to = if is wait r then start else r.b;
      first = (gap_of r.first).up;
      second = if is link r then (gap_of r.second).up else (gap_of r.first).down;
      over = r.b;
    }

abbrev pub row_of : List Record → Record → Row
row_of rs r = row_from r (link_to rs r.b).a

-- t has the A of the link that ends at each point, by its byte
abbrev pub bytes : ℕ
bytes = 256

pub record Starts (rs : List Record) (t : List ℕ) : Type 0 where
  pub long : length t ≡ bytes
  pub each : (c : ℕ) → c < bytes → get_or t c 0 ≡ (link_to rs c).a

-- row q of the sheet is x
pub record RowIs (s : List ℕ) (q : ℕ) (x : Row) : Type 0 where
  pub kind : kind_at s q ≡ x.kind
  pub from : from_at s q ≡ x.from
  pub to : to_at s q ≡ x.to
  pub first : first_at s q ≡ x.first
  pub second : second_at s q ≡ x.second
  pub over : over_at s q ≡ x.over

-- a row as the sheet holds it, as it is read
abbrev pub widened : Laid → Row
widened x = record { kind = x.kind; from = x.from; to = x.to; first = x.first; second = x.second; over = x.over }

-- the sheet with x as its row q
abbrev pub stored : List ℕ → ℕ → Row → List ℕ
stored s q x =
    set
    (set
    (set (set (set (set s (q * width) x.kind) (q * width + 1) x.from) (q * width + 2) x.to) (q * width + 3) x.first)
    (q * width + 4)
    x.second)
    (q * width + 5)
    x.over

-- each record has its row, and behind the rows are zeros
pub record LaidOut (rs : List Record) (s : List ℕ) : Type 0 where
  pub rows : (q : ℕ) → q < length rs → RowIs s q (row_of rs (get_or rs q blank))
  pub long : length s ≡ sheet_room
  pub rest : (p : ℕ) → length rs * width ≤ p → get_or s p 0 ≡ 0
