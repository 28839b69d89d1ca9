-- `records::put_records` meets its contract. Assumes nothing.
use native.Mathlib.Omega.{arith}
use mathlib.Core.Path.{◌≡◌, refl, ◌∙◌}
use Prim.Native.Nat.{◌<◌}
use lib.ListN.{length, take, get_or}
use Rattle.records.specs.Records.{blank}
use Rattle.records.specs.Bytes.{all_bytes}
use lib.Seq.{get_or-take, length-take-le, take-take}
use Rattle.records.proofs.Putting.{put_more}
use Rattle.records.proofs.put_records.Goals as goal

pub loop-i-init : goal.loop-i-init
unfolding all_bytes
loop-i-init c = (omega arith, c.requires.0, omega (arith, c.well_formed), c.requires.1, refl, refl)

pub loop-i-preserved : goal.loop-i-preserved
loop-i-preserved c =
    let s = c.args in
    let i = c.loop-i.invariant in
    let k = c.loop-i.i in
    let rs = take s.count s.records in
    let n : length rs ≡ s.count = length-take-le s.count s.records (omega arith) in
    let h : k < s.count = c.loop-i-test.true in
    let r : get_or rs k blank ≡ get_or s.records k blank = get_or-take s.count s.records k blank h in
    (omega arith, i.1, i.2, i.3, c.put.auto.out ∙ i.4, rw (c.put.ensures, c.bytes_of.ensures, ← r, i.5) (put_more rs k s.out.now (omega (arith, n))))

pub returns : goal.returns
returns c =
    let s = c.args in
    let e : c.loop-i.i ≡ s.count = omega arith in
    let t : take s.count (take s.count s.records) ≡ take s.count s.records = take-take s.count s.count s.records (omega arith) in
    rw (e, t) at c.loop-i.invariant.5
