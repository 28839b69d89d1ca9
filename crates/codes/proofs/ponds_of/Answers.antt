-- `codes::ponds_of` meets its contract. Assumes nothing.
use mathlib.Core.Path.{refl}
use native.Mathlib.Omega.{arith}
use Rattle.codes.proofs.Filling.{filled_none, filled_more, filled_all}
use Rattle.codes.proofs.ponds_of.Goals as goal

pub loop-i-init : goal.loop-i-init
loop-i-init c = (c.well_formed.0.1.1.1.0.1.0.1, filled_none _ _ 0)

pub loop-i-preserved : goal.loop-i-preserved
loop-i-preserved c =
    let i = c.loop-i.invariant in
    (i.0, filled_more _ _ _ _ i.1 (omega arith) _ refl)

pub returns : goal.returns
returns c =
    let i = c.loop-i.invariant in
    filled_all _ _ _ _ i.1 (omega arith)
