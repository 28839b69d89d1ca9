-- `vee::walk::walk` meets its contract: the links still ahead fall. Assumes nothing.
use mathlib.Core.Path.{refl}
use native.Mathlib.Omega.{arith}
use Rattle.vee.proofs.Walks.{numbered, last_one, begins, walked_on, walked_off, ends}
use Rattle.vee.proofs.walk.+walk.Goals as goal

pub answer_of-requires : goal.answer_of-requires
answer_of-requires t c = numbered _ c.if-ahead-eq0.true c.requires

pub returns-then-ahead-eq0 : goal.returns-then-ahead-eq0
returns-then-ahead-eq0 t c = last_one _ _ c.if-ahead-eq0.true c.judge-judged.ensures c.answer_of.ensures

pub loop-p-init : goal.loop-p-init
loop-p-init t c = begins c.requires c.if-ahead-eq0.false c.row_at-row.ensures

pub returns-in_default : goal.returns-in_default
returns-in_default t c = walked_off c.loop-p.invariant c.row_at-row.ensures (omega arith) refl c.lasting-chosen.ensures _ c.in_default.not-Yes c.walk-found.ensures

pub loop-p-preserved : goal.loop-p-preserved
loop-p-preserved t c = walked_on c.loop-p.invariant c.row_at-row.ensures (omega arith) refl c.lasting-chosen.ensures c.in-Yes.is c.walk-found.ensures

pub returns : goal.returns
returns t c = ends c.row_at-row.ensures c.loop-p.invariant (omega arith)
