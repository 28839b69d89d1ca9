-- `projection::judge_ways` meets its contract. Assumes nothing.
use mathlib.Core.Path.{refl}
use mathlib.Core.Bool.{true}
use Rattle.projection.proofs.Judges.{some_cycle, may_settle, judged_good, judged_pair}
use Rattle.projection.specs.Findings.{is_good, has_cycle_lem, has_pair}
use mathlib.Core.Path.{ap}
use mathlib.Core.Bool.{not}
use Rattle.projection.proofs.judge_ways.Goals as goal

pub fill-requires : goal.fill-requires
fill-requires c = c.requires.ready

pub returns-then-not-fill : goal.returns-then-not-fill
returns-then-not-fill c = has_cycle_lem (some_cycle c.fill.result (ap not c.if-not-fill.true) c.fill.ensures)

pub settle-requires : goal.settle-requires
settle-requires c = let p = c.requires in may_settle _ _ _ _ p.ready _ true refl p.filled _ c.fill.result (ap not c.if-not-fill.false) c.fill.ensures

pub first_pair-requires : goal.first_pair-requires
first_pair-requires c = c.requires.ready.few

pub returns-in-None : goal.returns-in-None
returns-in-None c = let p = c.requires in is_good (judged_good _ _ _ _ p.ready _ true refl p.filled _ c.settle.ensures (rw c.in-None.is at c.first_pair.ensures))

pub returns-in-Some : goal.returns-in-Some
returns-in-Some c = let p = c.requires in has_pair (judged_pair _ _ _ _ p.ready _ true refl p.filled _ c.settle.ensures (rw c.in-Some.is at c.first_pair.ensures))
