-- `taking::mark` meets its contract. Assumes nothing.
use native.Mathlib.Omega.{arith}
use Rattle.taking.proofs.Marking.{mark_past}
use Rattle.taking.proofs.mark.Goals as goal

pub returns-then-p-lt-MOST : goal.returns-then-p-lt-MOST
returns-then-p-lt-MOST c = rw c.with.ensures

pub returns : goal.returns
returns c =
    let g = c.well_formed.0.1.1.1 in
    let n = g.0.1.0.1 in
    let m = g.1.0.1.0.1 in
    mark_past _ _ c.args.p c.args.marks (omega arith) (omega arith) c.if-p-lt-MOST.false
