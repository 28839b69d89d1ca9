-- `rounds::ease` meets its contract. Assumes nothing.
use mathlib.Core.Path.{refl}
use native.Mathlib.Omega.{arith}
use Rattle.rounds.proofs.Rounding.{small, may_lower, lowered, no_fall}
use Rattle.rounds.proofs.ease.Goals as goal

pub overflow_cast-fall : goal.overflow_cast-fall
overflow_cast-fall c = omega (arith, small _ _ _ _ _ c.requires.0.ready c.requires.1 c.row_at-row.ensures refl c.fall_of-fall.ensures (omega (arith, c.if-fall-gt0.true)))

pub lower-requires : goal.lower-requires
lower-requires c = may_lower _ _ _ _ _ _ c.requires.0 c.requires.1 c.row_at-row.ensures refl c.fall_of-fall.ensures refl refl (omega (arith, c.if-fall-gt0.true))

pub returns-then-fall-gt0 : goal.returns-then-fall-gt0
returns-then-fall-gt0 c = lowered _ _ _ _ _ _ c.requires.0 c.requires.1 c.row_at-row.ensures refl c.fall_of-fall.ensures refl refl (omega (arith, c.if-fall-gt0.true)) c.lower.ensures

pub returns-else-fall-gt0 : goal.returns-else-fall-gt0
returns-else-fall-gt0 c = no_fall _ _ _ _ _ _ c.requires.0 c.requires.1 c.row_at-row.ensures refl c.fall_of-fall.ensures c.if-fall-gt0.false
