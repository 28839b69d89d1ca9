-- `board::stream::take_each` meets its contract. Assumes nothing.
use native.Mathlib.Omega.{arith}
use mathlib.Core.Path.{◌≡◌, refl, sym, ◌∙◌}
use Prim.Native.Nat.{◌-◌, ◌+◌, ◌*◌}
use Rattle.plan.specs.Limits.{record_bytes}
use Rattle.board.proofs.Streaming.{take_is_next, went_none, went_more, went_all}
use Rattle.board.proofs.stream.take_each.Goals as goal

pub loop-i-init : goal.loop-i-init
loop-i-init c = (omega arith, c.requires.1, c.requires.2, refl, c.requires.0, went_none c.args.plan c.args.board c.args.n c.args.events.now c.args.room.now)

pub loop-i-preserved : goal.loop-i-preserved
loop-i-preserved c =
    let i = c.loop-i.invariant in
    let k = c.loop-i.i in
    let t = c.take_next-taken in
    let n : record_bytes * k + record_bytes - record_bytes * k ≡ record_bytes = omega arith in
    let e = take_is_next c.args.plan c.loop-i.now _ i.4.accepted i.4.sound ∙ sym (rw n at t.ensures.0) in
    (omega arith, i.1, i.2, c.put_four.auto.room ∙ i.3, record { accepted = i.4.accepted; sound = t.ensures.1; links = i.4.links }, rw c.put_four.ensures (went_more c.args.plan _ _ _ _ k _ _ i.5 c.loop-i-test.true i.2 _ e))

pub returns : goal.returns
returns c =
    let i = c.loop-i.invariant in
    let w = went_all _ _ _ _ _ _ _ _ i.5 (omega (arith, c.loop-i-test.false)) i.0 in
    record {
      board = w.1;
      room = w.0;
    }
