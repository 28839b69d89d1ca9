-- `hulls::lists::with_table` meets its contract. Assumes nothing.
use Prim.Native.Nat.{◌-◌}
use mathlib.Core.Path.{◌≡◌}
use lib.ListN.{length-set}
use Rattle.plan.specs.Limits.{most_points}
use lib.Seq.{paste-zero}
use Rattle.hulls.proofs.Putting.{table_turn}
use native.Mathlib.Omega.{arith}
use Rattle.hulls.proofs.lists.with_table.Goals as goal

pub loop-q-init : goal.loop-q-init
loop-q-init c = (c.requires, omega arith, omega (arith, c.well_formed.1.1.0.1.0.1), omega (arith, c.well_formed.0.1.0.1), omega (arith, c.well_formed.0.1.0.1), paste-zero c.args.before c.args.at c.args.table)

pub loop-q-preserved : goal.loop-q-preserved
loop-q-preserved c =
    let i = c.loop-q.invariant in
    (i.0, omega arith, i.2, i.3, simp length-set i.4, table_turn _ _ _ _ _ i.5 (omega (arith, i.3)) (omega (arith, i.2)))

pub returns : goal.returns
returns c =
    let i = c.loop-q.invariant in
    let e : c.loop-q.q ≡ most_points = omega (arith, i.1, c.loop-q-test.false) in
    rw e at i.5
