-- `closure::made::first_records` meets its contract. Assumes nothing.
use mathlib.Core.Path.{ap}
use mathlib.Core.List.{List}
use lib.ListN.{length, length-set}
use Rattle.records.specs.declared.Record.{Record}
use Rattle.closure.proofs.Coding.{copied_none, copied_more, copied_all}
use Rattle.closure.proofs.made.first_records.Goals as goal

pub loop-i-init : goal.loop-i-init
loop-i-init c = (c.well_formed.0.1.1.1.0.1.0.1, ap (λ (rs : List Record). length rs) c.no_records-records.ensures, rw c.no_records-records.ensures (copied_none c.args.plan c.args.n))

pub loop-i-preserved : goal.loop-i-preserved
loop-i-preserved c =
    let v = c.loop-i.invariant in
    (v.0, simp length-set v.1, copied_more _ _ v.0 c.requires c.loop-i-test.true v.2)

pub returns : goal.returns
returns c = copied_all c.args.plan c.args.n c.loop-i.invariant.2 c.loop-i-test.false
