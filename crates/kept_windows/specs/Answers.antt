-- What the kept numbers say of each point of a plan of so many points, some of them watched: open, its Low, and H; and which record holds
-- it. No reader of the rules needs this page. Assumes nothing.
use Rattle.std.specs.Prelude.{◌≡◌, Bool, not, ◌&&◌, List, ℕ, ◌+◌, ◌<◌, ◌^◌, max, eqb, ltb, length, get_or, drop, if◌then◌else◌}
use Rattle.points.specs.Sets.{member, members_of}
use Rattle.plan.specs.Limits.{most_points}
use Rattle.windows.specs.Inside.{least_at}
use Rattle.windows.specs.declared.Windows.{Windows}
use Rattle.rows.specs.declared.sheet.Row.{Row}
use Rattle.rows.specs.Sheet.{row_at}
use Rattle.neighbours.specs.Lists.{entries_of, first_at}
use Rattle.kept.specs.Rooms.{lows_at, runs_at, highs_at, clock_at, done_at, holding, until_by}

-- a foreman's point not yet done that nothing holds
abbrev pub open_at : List ℕ → ℕ → ℕ → ℕ → Bool
open_at kept points watched q = (ltb q points && (not (member watched q) && not (member (get_or kept done_at 0) q))) && eqb (get_or kept q 0) 0

abbrev pub low_at : List ℕ → ℕ → ℕ
low_at kept q = max (get_or kept clock_at 0) (max (get_or kept (lows_at + q) 0) (get_or kept (runs_at + q) 0))

-- the row x still holds its first point shut
abbrev pub shut_by : Row → ℕ → Bool
shut_by x done = holding x && not (member done (until_by x))

abbrev pub shut_at : List ℕ → ℕ → ℕ → Bool
shut_at rows done i = shut_by (row_at rows i) done

-- the first record that holds q, where something does
abbrev pub holder_at : List ℕ → List ℕ → List ℕ → ℕ → ℕ
holder_at rows out kept q = if eqb (get_or kept q 0) 0 then 0 else first_at (shut_at rows (get_or kept done_at 0)) (entries_of out q)

-- t has it for each point
pub record HoldersOf (rows out kept t : List ℕ) : Type 0 where
  pub long : length t ≡ most_points
  pub each : (q : ℕ) → q < most_points → get_or t q 0 ≡ holder_at rows out kept q

-- windows with the holders t
abbrev pub with_holders : Windows → List ℕ → Windows
with_holders w t = record { opens = w.opens; holders = t; lows = w.lows; high = w.high }

-- what the kept numbers say of each point, with its holder
pub record Answered (rows out kept : List ℕ) (points watched : ℕ) (w : Windows) : Type 0 where
  pub fits : w.opens < 2 ^ 32
  pub long : length w.lows ≡ most_points
  pub long_holders : length w.holders ≡ most_points
  pub opens : (q : ℕ) → q < most_points → member w.opens q ≡ open_at kept points watched q
  pub holders : (q : ℕ) → q < most_points → get_or w.holders q 0 ≡ holder_at rows out kept q
  pub lows : (q : ℕ) → q < most_points → get_or w.lows q 0 ≡ low_at kept q
  pub high : w.high ≡ least_at (drop highs_at kept) (members_of w.opens)

-- the same but for the holders, which may be any: with those of any rows and lists it is the whole
pub record Bare (kept : List ℕ) (points watched : ℕ) (w : Windows) : Type 0 where
  pub answers : (rows out t : List ℕ) → HoldersOf rows out kept t → Answered rows out kept points watched (with_holders w t)
