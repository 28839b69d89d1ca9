-- `calendar::put_events` meets its contract. Assumes nothing.
use native.Mathlib.Omega.{arith}
use mathlib.Core.Path.{refl}
use Rattle.calendar.proofs.Going.{put_none, put_room, put_more}
use Rattle.calendar.proofs.put_events.Goals as goal

pub loop-p-init : goal.loop-p-init
loop-p-init c = put_none c.args.board c.args.origin (record { few = c.requires.0; upto = omega arith }) c.requires.1

pub put_event-next-requires : goal.put_event-next-requires
put_event-next-requires c =
    let w = c.loop-p.invariant in
    put_room w c.loop-p-test.true _ _ refl c.moment_at-moment.ensures

pub loop-p-preserved : goal.loop-p-preserved
loop-p-preserved c =
    let w = c.loop-p.invariant in
    put_more w c.loop-p-test.true _ _ _ _ refl c.moment_at-moment.ensures c.put_event-next.ensures
