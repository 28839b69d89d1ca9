-- `projection::once::ease_by` meets its contract. Assumes nothing.
use mathlib.Core.Path.{refl}
use native.Mathlib.Omega.{arith}
use Rattle.rounds.proofs.Rounding.{over_in, small}
use Rattle.projection.proofs.OneRound.{may_fall, fallen, not_fallen}
use Rattle.projection.proofs.once.ease_by.Goals as goal

pub offset_bounds-durations-row : goal.offset_bounds-durations-row
offset_bounds-durations-row c = omega (arith, over_in _ _ _ _ _ c.requires.0.judge.ready c.requires.1 c.row_at-row.ensures refl)

pub bounds-durations-row : goal.bounds-durations-row
bounds-durations-row c = omega (arith, over_in _ _ _ _ _ c.requires.0.judge.ready c.requires.1 c.row_at-row.ensures refl)

pub overflow_cast-fall : goal.overflow_cast-fall
overflow_cast-fall c = omega (arith, small _ _ _ _ _ c.requires.0.judge.ready c.requires.1 c.row_at-row.ensures refl c.fall_of-fall.ensures (omega (arith, c.if-fall-gt0.true)))

pub fall_by-requires : goal.fall_by-requires
fall_by-requires c = (
  may_fall _ _ _ _ _ _ _ c.requires.0 c.requires.1 c.row_at-row.ensures refl c.fall_of-fall.ensures refl refl (omega (arith, c.if-fall-gt0.true)),
  c.requires.0.capped,
  small _ _ _ _ _ c.requires.0.judge.ready c.requires.1 c.row_at-row.ensures refl c.fall_of-fall.ensures (omega (arith, c.if-fall-gt0.true)),
)

pub returns-then-fall-gt0 : goal.returns-then-fall-gt0
returns-then-fall-gt0 c = fallen _ _ _ _ _ _ _ c.requires.0 c.requires.1 c.row_at-row.ensures refl c.fall_of-fall.ensures refl refl (omega (arith, c.if-fall-gt0.true)) c.fall_by.ensures

pub returns-else-fall-gt0 : goal.returns-else-fall-gt0
returns-else-fall-gt0 c = not_fallen _ _ _ _ _ _ c.requires.0.capped
