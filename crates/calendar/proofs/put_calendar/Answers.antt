-- `calendar::put_calendar` meets its contract. Assumes nothing.
use native.Mathlib.Omega.{arith}
use Rattle.calendar.specs.Inside.{coded}
use Rattle.buffers.proofs.Laying.{long_after}
use Rattle.calendar.proofs.Lengths.{parts_by, events_long}
use Rattle.calendar.proofs.Going.{all_laid}
use Rattle.calendar.proofs.put_calendar.Goals as goal

pub put-first-requires : goal.put-first-requires
put-first-requires c =
    let a = c.args in
    record { fits = omega (arith, c.requires.1, parts_by a.ponds a.n) }

pub put_events-end-requires : goal.put_events-end-requires
put_events-end-requires c =
    let a = c.args in
    let l1 = c.put-first.ensures in
    (c.requires.0, omega (arith, c.requires.1, parts_by a.ponds a.n, l1.behind, long_after l1))

pub put-requires : goal.put-requires
put-requires c =
    let a = c.args in
    let l1 = c.put-first.ensures in
    let l2 = c.put_events-end.ensures in
    let k = events_long (coded a.ponds) a.board a.origin a.n in
    record { fits = omega (arith, c.requires.1, parts_by a.ponds a.n, k, l1.behind, long_after l1, l2.behind, long_after l2) }

pub returns : goal.returns
returns c = all_laid c.args.ponds c.args.n c.args.board c.args.origin c.put-first.ensures c.put_events-end.ensures c.put.ensures
