-- `lighter::drop_all` meets its contract. Assumes nothing.
use mathlib.Core.Path.{refl, sym}
use native.Mathlib.Omega.{arith}
use Rattle.lighter.proofs.Going.{start_few, start_many, going_start, going_dropped, going_few, going_room, going_list, going_asks, going_turn, going_end}
use Rattle.lighter.proofs.drop_all.Goals as goal

pub without-kept-requires : goal.without-kept-requires
without-kept-requires c = start_few (c.well_formed.0.1.1.1.0.1.0.1) c.requires

pub loop-i-init : goal.loop-i-init
loop-i-init c = let e = c.without-kept.ensures in (sym (start_many (c.well_formed.0.1.1.1.0.1.0.1) c.requires e), going_start (c.well_formed.0.1.1.1.0.1.0.1) c.requires e)

pub overflow_sub-at : goal.overflow_sub-at
overflow_sub-at c = let v = c.loop-i.invariant in omega (arith, v.0, v.1.kept_many, v.1.few, going_room v.1, c.loop-i-test.true)

pub offset_bounds-kept-at : goal.offset_bounds-kept-at
offset_bounds-kept-at c = let v = c.loop-i.invariant in omega (arith, v.0, v.1.kept_many, v.1.few, going_room v.1, c.loop-i-test.true)

pub bounds-kept-at : goal.bounds-kept-at
bounds-kept-at c = let v = c.loop-i.invariant in omega (arith, v.0, v.1.kept_many, v.1.few, going_room v.1, c.loop-i-test.true)

pub without-rest-requires : goal.without-rest-requires
without-rest-requires c = going_few c.loop-i.invariant.1

pub is_spare-gone-requires : goal.is_spare-gone-requires
is_spare-gone-requires c = let v = c.loop-i.invariant in going_asks v.1 (omega (arith, v.0, c.loop-i-test.true)) refl c.without-rest.ensures

pub offset_bounds-dropped-count : goal.offset_bounds-dropped-count
offset_bounds-dropped-count c = let v = c.loop-i.invariant in omega (arith, v.0, v.1.kept_many, v.1.few, going_list v.1, c.loop-i-test.true)

pub bounds-dropped-count : goal.bounds-dropped-count
bounds-dropped-count c = let v = c.loop-i.invariant in omega (arith, v.0, v.1.kept_many, v.1.few, going_list v.1, c.loop-i-test.true)

pub overflow_add-count : goal.overflow_add-count
overflow_add-count c = let v = c.loop-i.invariant in omega (arith, v.0, v.1.kept_many, v.1.few, going_list v.1, c.loop-i-test.true, c.one_if.ensures)

pub overflow_step-i : goal.overflow_step-i
overflow_step-i c = let v = c.loop-i.invariant in omega (arith, v.0, v.1.kept_many, v.1.few, going_list v.1, c.loop-i-test.true)

pub loop-i-smaller : goal.loop-i-smaller
loop-i-smaller c = let v = c.loop-i.invariant in omega (arith, v.0, v.1.kept_many, v.1.few, going_list v.1, c.loop-i-test.true)

pub loop-i-preserved : goal.loop-i-preserved
loop-i-preserved c = let v = c.loop-i.invariant in (v.0, going_turn v.1 (omega (arith, v.0, c.loop-i-test.true)) refl c.without-rest.ensures c.is_spare-gone.ensures c.either-kept.ensures c.number_if.ensures c.one_if.ensures.0)

pub overflow_cast-result : goal.overflow_cast-result
overflow_cast-result c = let v = c.loop-i.invariant in omega (arith, v.1.kept_many, v.1.few, v.1.within)

pub returns : goal.returns
returns c = let v = c.loop-i.invariant in let e = going_end v.1 (omega (arith, v.0, c.loop-i-test.false)) refl in going_dropped (c.well_formed.0.1.1.1.0.1.0.1) c.requires c.without-kept.ensures e.0 e.1
