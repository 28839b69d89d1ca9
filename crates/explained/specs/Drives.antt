-- The drives of a projection, link by link: first of a plan's records, then as the functions find them on rows. Assumes nothing.
use Rattle.std.specs.Prelude.{Bool, true, false, List, [], ◌∷◌, ◌++◌, ℕ, zero, suc, ◌+◌, ◌-◌, ◌<◌, ◌≤◌, eqb, length, replicate, set, if◌then◌else◌}
use Rattle.plan.specs.Limits.{most_records}
use Rattle.plan.specs.APlan.{link, is}
use Rattle.records.specs.declared.Record.{Record}
use Rattle.tables.specs.Tables.{side}
use Rattle.rows.specs.declared.sheet.Row.{Row}
use Rattle.rows.specs.Sheet.{by, kind_at, from_at, over_at}
use Rattle.vee.specs.PlanTest.{many, unset}
use Rattle.vee.specs.Walked.{spans_in, WalkReady}
use Rattle.explained.specs.declared.drives.Drive.{Drive}
use Rattle.explained.specs.declared.drives.Drives.{Drives}
pub use Rattle.plan.specs.Limits.{most_links}

-- d in front of ds, if so
abbrev pub before : Bool → Drive → List Drive → List Drive
before true d ds = d ∷ ds
before false d ds = ds

-- a link's A and C, and how long it lasts at the durations w
abbrev pub drive_of : List ℕ → Record → Drive
drive_of w r = record { from = r.a; to = r.b; minutes = by w r.b }

-- the drives of a plan's links, in file order
unfoldable pub drives_of : List ℕ → List Record → List Drive
drives_of w [] = []
drives_of w (r ∷ rs) = before (is link r) (drive_of w r) (drives_of w rs)

abbrev pub no_drive : Drive
no_drive = record { from = 0; to = 0; minutes = 0 }

-- as they are handed back: how many, and zeros in the room after them
abbrev pub drives_as : List Drive → Drives
drives_as ds = record { count = length ds; list = ds ++ replicate (most_links - length ds) no_drive }

-- ---- on rows

-- the drives of k rows from row q on
unfoldable pub drives_from : List ℕ → List ℕ → ℕ → ℕ → List Drive
drives_from s w q zero = []
drives_from s w q (suc k) = before (eqb (kind_at s q) 2) (record { from = from_at s q; to = over_at s q; minutes = by w (over_at s q) }) (drives_from s w (suc q) k)

-- the drives with that of a row more
abbrev pub with_drive : Drives → Row → ℕ → Drives
with_drive ds r p =
    if eqb r.kind 2 then record { count = ds.count + 1; list = set ds.list ds.count (record { from = r.from; to = r.over; minutes = p }) }
    else ds

pub record DriveAsks (s w : List ℕ) (m : ℕ) : Type 0 where
  pub rows : m ≤ most_records
  pub over : (q : ℕ) → q < m → over_at s q < side
  pub few : length (drives_from s w 0 m) ≤ most_links

-- the k rows before row past have the links, and number i is one of their projections
pub record DurationAsks (s : List ℕ) (past k i : ℕ) : Type 0 where
  pub m : ℕ
  pub n : ℕ
  pub walk : WalkReady s unset m n past k 0
  pub one : i < many (spans_in s past k)
