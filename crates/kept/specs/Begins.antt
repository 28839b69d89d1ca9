-- What is kept of the fresh board, from the rows of the records. A reader of the rules can leave this page out. Assumes nothing.
use Rattle.std.specs.Prelude.{◌≡◌, List, ℕ, zero, suc, ◌+◌, ◌<◌, ◌≤◌, min, eqb, length, get_or, if◌then◌else◌}
use Rattle.plan.specs.Limits.{most_points}
use Rattle.plan.specs.APlan.{one}
use Rattle.lowhigh.specs.Rules.{never}
use Rattle.rows.specs.Sheet.{row_at}
use Rattle.kept.specs.Rooms.{highs_at, minutes_at, kept_room, held_by, holding}

-- what row i adds to the count of q
abbrev pub hold_at : List ℕ → ℕ → ℕ → ℕ
hold_at rows q i = if eqb (held_by (row_at rows i)) q then one (holding (row_at rows i)) else 0

-- the sum over the first n places
unfoldable pub sum_to : (ℕ → ℕ) → ℕ → ℕ
sum_to val zero = 0
sum_to val (suc n) = sum_to val n + val n

-- every number of the room: counts, no window, no minute
pub record Begun (rows : List ℕ) (count : ℕ) (kept : List ℕ) : Type 0 where
  pub long : length kept ≡ kept_room
  pub holds : (q : ℕ) → q < most_points → get_or kept q 0 ≡ min (sum_to (hold_at rows q) count) never
  pub lows : (p : ℕ) → most_points ≤ p → p < highs_at → get_or kept p 0 ≡ 0
  pub highs : (p : ℕ) → highs_at ≤ p → p < minutes_at → get_or kept p 0 ≡ never
  pub rest : (p : ℕ) → minutes_at ≤ p → get_or kept p 0 ≡ 0
