-- What is found of one projection, any edges E: it is good, it has a cycle of negative sum, or a first bad pair.
-- Assumes nothing.
use Rattle.std.specs.Prelude.{true, List, ℕ}
use Rattle.network.specs.Passing.{Cycle, Good}
use Rattle.projection.specs.declared.Finding.{Finding}
use Rattle.projection.specs.declared.Finding.TheVariants as finding
use Rattle.tables.specs.declared.table.Part.TheVariants.{All}
use Rattle.rows.specs.Sheet.{SheetReady}
use Rattle.rows.specs.Filled.{Filled}
use Rattle.projection.specs.Judging.{FirstBad}

pub data FoundOf (E : ℕ → ℕ → ℕ → ℕ → Type 0) : Finding → Type 0 where
  is_good : Good E → FoundOf E finding.Good
  has_cycle_lem : Cycle E → FoundOf E finding.Cycle
  has_pair : {X Y : ℕ} → FirstBad E X Y → FoundOf E (finding.Pair X Y)

-- the table t has the distances of a sheet's projection, which has no cycle
pub record JudgeReady (s w : List ℕ) (m n : ℕ) (t : List ℕ) : Type 0 where
  pub ready : SheetReady s w m n
  pub filled : Filled All s w m n t true
