-- `closure::made::with_row` meets its contract. Assumes nothing.
use native.Mathlib.Omega.{arith}
use lib.ListN.{length-set}
use Rattle.tables.specs.Entries.{at, raw}
use Rattle.closure.proofs.Coding.{row_start, row_more, row_end, filled_whole, pairs_wide, pairs_there}
use Rattle.closure.proofs.made.with_row.Goals as goal

pub overflow_mul-row : goal.overflow_mul-row
overflow_mul-row c = let q = c.requires in omega (arith, q.few, q.below)

pub loop-y-init : goal.loop-y-init
loop-y-init c =
    let q = c.requires in
    let s = row_start _ _ _ _ (filled_whole _ q.whole) in
    (q.few, q.below, q.room, c.well_formed.0.1.1.1.0.1.0.1, s.few, s)

pub record_if-requires : goal.record_if-requires
record_if-requires c =
    let a = c.args in
    let y = c.loop-y.y in
    (omega arith, omega arith, pairs_there a.x y (raw a.t.now a.x y))

pub overflow_add-count : goal.overflow_add-count
overflow_add-count c = omega (arith, c.one_if.ensures.1)

pub loop-y-preserved : goal.loop-y-preserved
loop-y-preserved c =
    let a = c.args in
    let y = c.loop-y.y in
    let v = c.loop-y.invariant in
    let s = row_more _ _ (at a.t.now) a.x v.5 c.loop-y-test.true _ _ _ (pairs_wide a.x y (raw a.t.now a.x y)) c.record_if.ensures c.one_if.ensures.0 (omega arith) in
    (v.0, v.1, v.2, simp length-set v.3, s.few, s)

pub returns : goal.returns
returns c = row_end _ _ _ _ c.loop-y.invariant.5 c.loop-y-test.false
