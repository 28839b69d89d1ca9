-- `explained::drives::projections` meets its contract. Assumes nothing.
use Rattle.vee.proofs.Counts.{none_counted, last_in, product_fits, over_many, counted_on, counted_all}
use native.Mathlib.Omega.{arith}
use Rattle.explained.proofs.drives.projections.Goals as goal

pub loop-k-init : goal.loop-k-init
loop-k-init c = none_counted c.requires

pub overflow_add-k : goal.overflow_add-k
overflow_add-k c = omega (arith, c.requires.before, c.requires.rows)

pub overflow_sub-past : goal.overflow_sub-past
overflow_sub-past c = omega (arith, c.requires.before, c.requires.rows)

pub row_at-row-requires : goal.row_at-row-requires
row_at-row-requires c = omega (arith, c.requires.before, c.requires.rows)

pub overflow_add-total : goal.overflow_add-total
overflow_add-total c = omega (arith, last_in c.loop-k.invariant c.row_at-row.ensures c.loop-k-test.true)

pub overflow_sub-total : goal.overflow_sub-total
overflow_sub-total c = omega (arith, last_in c.loop-k.invariant c.row_at-row.ensures c.loop-k-test.true)

pub overflow_mul-total : goal.overflow_mul-total
overflow_mul-total c = product_fits c.loop-k.invariant c.row_at-row.ensures c.loop-k-test.true

pub returns-then-total-gt-MOST_PROJECTIONS : goal.returns-then-total-gt-MOST_PROJECTIONS
returns-then-total-gt-MOST_PROJECTIONS c = over_many c.loop-k.invariant c.row_at-row.ensures c.loop-k-test.true c.if-total-gt-MOST_PROJECTIONS.true

pub loop-k-preserved : goal.loop-k-preserved
loop-k-preserved c = counted_on c.loop-k.invariant c.row_at-row.ensures c.loop-k-test.true c.if-total-gt-MOST_PROJECTIONS.false

pub returns : goal.returns
returns c = counted_all c.loop-k.invariant c.loop-k-test.false
