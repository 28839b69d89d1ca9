-- `rows::layout::starts_of` meets its contract. Assumes nothing.
use native.Mathlib.Omega.{arith}
use Rattle.std.proofs.Common.{rules}
use Rattle.rows.proofs.Layouts.{starting_none, starting_link, starting_other}
use Rattle.rows.proofs.layout.starts_of.Goals as goal

pub loop-q-init : goal.loop-q-init
loop-q-init c = starting_none (search rules) c.requires

pub loop-q-preserved-then-r-eq-LINK : goal.loop-q-preserved-then-r-eq-LINK
loop-q-preserved-then-r-eq-LINK c = starting_link c.loop-q.invariant (omega arith) (search rules) c.if-r-eq-LINK.true

pub loop-q-preserved : goal.loop-q-preserved
loop-q-preserved c = starting_other c.loop-q.invariant (omega arith) c.if-r-eq-LINK.false
