-- `plan_file::decode` meets its contract. Assumes nothing.
use native.Mathlib.Omega.{arith}
use mathlib.Core.Path.{◌≡◌, refl, ap, ◌∙◌}
use Prim.Native.Nat.{◌<◌, ◌-◌, ◌*◌}
use lib.ListN.{length, take, drop, length-drop}
use lib.Seq.{take_all}
use Rattle.plan.specs.Limits.{most_records, record_bytes}
use Rattle.plan.specs.declared.Plan.{Plan}
use Rattle.plan_file.proofs.Decoding.{filled_start, filled_more, filled_plan}
use Rattle.plan_file.proofs.decode.Goals as goal

pub loop-i-init : goal.loop-i-init
loop-i-init c = (omega arith, refl, ap (λ (p : Plan). p.records) c.empty-plan.ensures ∙ filled_start _)

pub loop-i-preserved : goal.loop-i-preserved
loop-i-preserved c =
    let s = c.args.bytes.now in
    let i = c.loop-i.invariant in
    let k = c.loop-i.i in
    let m : k < most_records = omega arith in
    let whole : take (length s - record_bytes * k) (drop (record_bytes * k) s) ≡ drop (record_bytes * k) s = take_all (length s - record_bytes * k) (drop (record_bytes * k) s) (omega (arith, length-drop (record_bytes * k) s)) in
    (omega arith, i.1, rw (i.2, c.record_in.ensures, whole) (filled_more _ _ m))

pub returns : goal.returns
returns c =
    let i = c.loop-i.invariant in
    let e : c.loop-i.i ≡ c.args.count = omega arith in
    filled_plan _ _ _ i.1 (rw e at i.2)
