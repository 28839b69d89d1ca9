-- What the functions that walk the projections of a sheet ask and answer. A reader of the rules can leave this page out.
-- Assumes nothing.
use Rattle.std.specs.Prelude.{◌≡◌, List, [], ◌∷◌, ℕ, zero, suc, ◌+◌, ◌-◌, ◌<◌, ◌≤◌}
use Rattle.network.specs.Passing.{Cycle, Good}
use Rattle.vee.specs.declared.Answer.{Answer}
use Rattle.vee.specs.declared.Answer.TheVariants as answer
use Rattle.projection.specs.Judging.{FirstBad}
use Rattle.projection.specs.declared.Finding.{Finding}
use Rattle.projection.specs.declared.Finding.TheVariants as finding
use Rattle.plan.specs.Limits.{farthest, most_records}
use Rattle.rows.specs.Sheet.{SheetReady, SheetEdge, first_at, second_at, over_at}
use Rattle.vee.specs.PlanTest.{Span, projections, many, most_projections, Found}

-- the answer that the number of a projection and what is found of it make: where it is good, the next has the next number
abbrev pub found_as : ℕ → Finding → Answer
found_as i finding.Good = answer.Yes (i + 1)
found_as i finding.Cycle = answer.Cycle i
found_as i (finding.Pair X Y) = answer.Pair i X Y

-- the same of the edges E
pub data JudgedOf (E : ℕ → ℕ → ℕ → ℕ → Type 0) (i : ℕ) : Answer → Type 0 where
  is_good : Good E → JudgedOf E i (answer.Yes (i + 1))
  has_cycle_lem : Cycle E → JudgedOf E i (answer.Cycle i)
  has_pair : {X Y : ℕ} → FirstBad E X Y → JudgedOf E i (answer.Pair i X Y)

-- the link that row q has
abbrev pub span_at : List ℕ → ℕ → Span
span_at s q = record { over = over_at s q; least = first_at s q; most = second_at s q }

-- the links of the k rows before row past
unfoldable pub spans_in : List ℕ → ℕ → ℕ → List Span
spans_in s past zero = []
spans_in s past (suc k) = span_at s (past - suc k) ∷ spans_in s past k

-- the links ahead are there, each with a duration at least, and all their projections can be numbered
pub record WalkReady (s w : List ℕ) (m n past ahead i : ℕ) : Type 0 where
  pub ready : SheetReady s w m n
  pub before : ahead ≤ past
  pub rows : past ≤ m
  pub some : (q : ℕ) → q < past → past ≤ q + ahead → first_at s q ≤ second_at s q
  pub short : (q : ℕ) → q < past → past ≤ q + ahead → second_at s q ≤ farthest
  pub room : i + many (spans_in s past ahead) ≤ most_projections

-- what is found of their projections
abbrev pub Walked : List ℕ → List ℕ → ℕ → ℕ → ℕ → ℕ → Answer → Type 0
Walked s w m past ahead i r = Found (λ w. SheetEdge s w m) i (projections (spans_in s past ahead) w) r

-- the k rows before row past are links with a duration at least
pub record RowsReady (s : List ℕ) (past k : ℕ) : Type 0 where
  pub before : k ≤ past
  pub rows : past ≤ most_records
  pub some : (q : ℕ) → q < past → past ≤ q + k → first_at s q ≤ second_at s q
  pub short : (q : ℕ) → q < past → past ≤ q + k → second_at s q ≤ farthest

-- how many projections they have, or more than are tested
pub record CountedAs (s : List ℕ) (past k r : ℕ) : Type 0 where
  pub few : r ≤ most_projections → r ≡ many (spans_in s past k)
  pub many_more : most_projections < r → most_projections < many (spans_in s past k)
