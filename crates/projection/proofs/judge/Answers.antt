-- `projection::judge` meets its contract. Assumes nothing.
use Rattle.projection.proofs.Judges.{some_cycle}
use Rattle.projection.specs.Findings.{has_cycle_lem}
use mathlib.Core.Path.{ap}
use mathlib.Core.Bool.{not}
use Rattle.projection.proofs.judge.Goals as goal

pub returns-then-not-fill : goal.returns-then-not-fill
returns-then-not-fill c = has_cycle_lem (some_cycle c.fill.result (ap not c.if-not-fill.true) c.fill.ensures)
