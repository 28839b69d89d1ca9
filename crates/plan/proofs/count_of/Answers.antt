-- `plan::count_of` meets its contract. Assumes nothing.
use mathlib.Core.Path.{◌≡◌, refl, ◌∙◌}
use native.Mathlib.Omega.{arith}
use Prim.Native.Nat.{◌<◌, ◌+◌, min}
use lib.ListN.{take}
use Rattle.plan.specs.Limits.{most_records}
use Rattle.plan.specs.APlan.{how_many, records_of}
use Rattle.plan.specs.Inside.{of_byte}
use Rattle.plan.proofs.Records.{used_records, record_at_lem}
use Rattle.plan.proofs.Lookup.{counted_more, counted_few, counted_end}
use Rattle.plan.proofs.count_of.Goals as goal

pub loop-i-init : goal.loop-i-init
unfolding how_many
loop-i-init c =
    let g = c.well_formed in
    (omega arith, c.used-count.ensures, g.0.1.1.1.0.1.0.1, refl)

pub overflow_add-n : goal.overflow_add-n
overflow_add-n c =
    let s = c.args in
    let p = s.plan in
    let i = c.loop-i.invariant in
    let k = c.loop-i.i in
    let h : k < min p.count most_records = omega (arith, c.loop-i-test.true, i.1) in
    let n = used_records p i.2 in
    let r = record_at_lem p i.2 k h in
    let e : c.loop-i.n + c.from-n.result ≡ how_many (of_byte s.kind) (take (k + 1) (records_of p)) = rw (c.from-n.ensures, i.3, ← r) (counted_more (of_byte s.kind) (records_of p) k (omega (arith, n))) in
    omega (arith, counted_few (of_byte s.kind) (records_of p) (k + 1) (omega (arith, n)))

pub loop-i-preserved : goal.loop-i-preserved
loop-i-preserved c =
    let s = c.args in
    let p = s.plan in
    let i = c.loop-i.invariant in
    let k = c.loop-i.i in
    let h : k < min p.count most_records = omega (arith, c.loop-i-test.true, i.1) in
    let n = used_records p i.2 in
    let r = record_at_lem p i.2 k h in
    (omega arith, i.1, i.2, rw (c.from-n.ensures, i.3, ← r) (counted_more (of_byte s.kind) (records_of p) k (omega (arith, n))))

pub returns : goal.returns
returns c =
    let s = c.args in
    let p = s.plan in
    let i = c.loop-i.invariant in
    let n = used_records p i.2 in
    i.3 ∙ counted_end (of_byte s.kind) (records_of p) c.loop-i.i (omega (arith, n))
