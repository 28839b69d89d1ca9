-- `plan::link_to` meets its contract. Assumes nothing.
use mathlib.Core.Path.{refl, sym, ◌∙◌}
use native.Mathlib.Omega.{arith}
use Prim.Native.Nat.{◌<◌, min}
use Rattle.plan.specs.Limits.{most_records}
use Rattle.plan.specs.APlan.{ends_at, records_of}
use Rattle.plan.proofs.Records.{used_records, record_at_lem}
use Rattle.plan.proofs.Lookup.{found_here, found_later, found_nowhere}
use Rattle.plan.proofs.link_to.Goals as goal

pub loop-i-init : goal.loop-i-init
loop-i-init c =
    let g = c.well_formed in
    (omega arith, c.used-count.ensures, g.0.1.1.1.0.1.0.1, refl)

pub returns-then-r-p : goal.returns-then-r-p
returns-then-r-p c =
    let q = c.args.plan in
    let i = c.loop-i.invariant in
    let k = c.loop-i.i in
    let h : k < min q.count most_records = omega (arith, c.loop-i-test.true, i.1) in
    let n = used_records q i.2 in
    let r = record_at_lem q i.2 k h in
    let p = c.args.p in
    found_here (ends_at p) (records_of q) k (omega (arith, n)) (rw r c.if-r-p.true) ∙ i.3

pub loop-i-preserved : goal.loop-i-preserved
loop-i-preserved c =
    let q = c.args.plan in
    let i = c.loop-i.invariant in
    let k = c.loop-i.i in
    let h : k < min q.count most_records = omega (arith, c.loop-i-test.true, i.1) in
    let n = used_records q i.2 in
    let r = record_at_lem q i.2 k h in
    let p = c.args.p in
    (omega arith, i.1, i.2, sym (found_later (ends_at p) (records_of q) k (omega (arith, n)) (rw r c.if-r-p.false)) ∙ i.3)

pub returns : goal.returns
returns c =
    let s = c.args in
    let i = c.loop-i.invariant in
    let n = used_records s.plan i.2 in
    found_nowhere (ends_at s.p) (records_of s.plan) c.loop-i.i (omega (arith, n)) ∙ i.3
