-- `closure::has_steps` meets its contract. Assumes nothing.
use mathlib.Core.Path.{refl}
use native.Mathlib.Omega.{arith}
use Rattle.closure.proofs.Coding.{looked_none, looked_more, looked_all}
use Rattle.closure.proofs.has_steps.Goals as goal

pub loop-i-init : goal.loop-i-init
loop-i-init c = (c.well_formed.0.1.1.1.0.1.0.1, refl, omega arith, looked_none c.args.plan)

pub loop-i-preserved : goal.loop-i-preserved
loop-i-preserved c =
    let v = c.loop-i.invariant in
    (v.0, v.1, v.2, looked_more c.args.plan c.loop-i.found c.loop-i.i v.0 (omega arith) (omega arith) v.3)

pub returns : goal.returns
returns c =
    let v = c.loop-i.invariant in
    looked_all _ _ _ v.0 (omega arith) (omega arith) v.3
