-- `plan_file::first_odd` meets its contract. Assumes nothing.
use native.Mathlib.Omega.{arith}
use Rattle.plan_file.proofs.Decoding.{even_start, even_more, even_odd, even_end}
use Rattle.plan_file.proofs.first_odd.Goals as goal

pub loop-i-init : goal.loop-i-init
loop-i-init c = (omega arith, even_start _ _)

pub returns-then-bytes-i-ne0 : goal.returns-then-bytes-i-ne0
returns-then-bytes-i-ne0 c = even_odd _ _ _ c.loop-i.invariant.1 c.loop-i-test.true c.if-bytes-i-ne0.true

pub loop-i-preserved : goal.loop-i-preserved
loop-i-preserved c = (omega arith, even_more _ _ _ c.loop-i.invariant.1 c.loop-i-test.true c.if-bytes-i-ne0.false)

pub returns : goal.returns
returns c = even_end _ _ _ c.loop-i.invariant.1 (omega arith) c.loop-i.invariant.0
