-- `moments::put_event` meets its contract. Assumes nothing.
use Rattle.moments.specs.Event.{event_text}
use Rattle.buffers.proofs.Laying.{then, room_behind}
use Rattle.moments.proofs.Parts.{rooms}
use Rattle.moments.proofs.put_event.Goals as goal

pub put-uid-requires : goal.put-uid-requires
put-uid-requires c = (rooms c.args.p c.args.code c.args.moment c.requires).begin

pub put_uid-stamp-requires : goal.put_uid-stamp-requires
put_uid-stamp-requires c = room_behind (rooms c.args.p c.args.code c.args.moment c.requires).uid c.put-uid.ensures

pub put_moment-start-requires : goal.put_moment-start-requires
put_moment-start-requires c = room_behind (rooms c.args.p c.args.code c.args.moment c.requires).stamp (then c.put-uid.ensures c.put_uid-stamp.ensures)

pub put_moment-summary-requires : goal.put_moment-summary-requires
put_moment-summary-requires c =
    room_behind (rooms c.args.p c.args.code c.args.moment c.requires).start
    (then (then c.put-uid.ensures c.put_uid-stamp.ensures) c.put_moment-start.ensures)

pub put_summary-end-requires : goal.put_summary-end-requires
put_summary-end-requires c =
    room_behind (rooms c.args.p c.args.code c.args.moment c.requires).summary
    (then (then (then c.put-uid.ensures c.put_uid-stamp.ensures) c.put_moment-start.ensures) c.put_moment-summary.ensures)

pub put-requires : goal.put-requires
put-requires c =
    room_behind (rooms c.args.p c.args.code c.args.moment c.requires).end
    (then (then (then (then c.put-uid.ensures c.put_uid-stamp.ensures) c.put_moment-start.ensures) c.put_moment-summary.ensures) c.put_summary-end.ensures)

pub returns : goal.returns
unfolding event_text
returns c =
    let l1 = c.put-uid.ensures in
    let l2 = c.put_uid-stamp.ensures in
    let l3 = c.put_moment-start.ensures in
    let l4 = c.put_moment-summary.ensures in
    let l5 = c.put_summary-end.ensures in
    let l6 = c.put.ensures in
    then (then (then (then (then l1 l2) l3) l4) l5) l6
