-- A projection by its number, and what the function that picks its durations asks and answers, on a plan laid out in rows. A
-- reader of the rules can leave this page out. Assumes nothing.
use Rattle.std.specs.Prelude.{◌≡◌, List, [], ◌∷◌, ℕ, ◌+◌, ◌/◌, ◌%◌, ◌<◌, ◌≤◌, length, set}
use Rattle.plan.specs.Limits.{farthest}
use Rattle.tables.specs.Tables.{side}
use Rattle.rows.specs.Sheet.{by}
use Rattle.vee.specs.PlanTest.{Span, many, unset}
use Rattle.vee.specs.Walked.{spans_in, WalkReady}

-- projection number i of the links ls, where u has the durations of the links before them: i's digits, the first link's
-- first, say how far each duration is past its least
unfoldable pub chosen : List Span → List ℕ → ℕ → List ℕ
chosen [] u i = u
chosen (l ∷ ls) u i = chosen ls (set u l.over (l.least + i / many ls)) (i % many ls)

-- the rows before row past have the links, so many projections in all, and number i is one of them
pub record ChooseAsks (s : List ℕ) (past k total i : ℕ) : Type 0 where
  pub m : ℕ
  pub n : ℕ
  pub walk : WalkReady s unset m n past k 0
  pub counted : total ≡ many (spans_in s past k)
  pub one : i < total

-- its durations, one for each point, none of which is too long
pub record ChosenAs (s : List ℕ) (past k i : ℕ) (w : List ℕ) : Type 0 where
  pub is : w ≡ chosen (spans_in s past k) unset i
  pub small : (C : ℕ) → by w C ≤ farthest
  pub wide : length w ≡ side
