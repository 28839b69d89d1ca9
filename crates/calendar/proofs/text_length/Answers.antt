-- `calendar::text_length` meets its contract. Assumes nothing.
use native.Mathlib.Omega.{arith}
use mathlib.Core.Path.{refl}
use Rattle.calendar.specs.Calendars.{events_length}
use Rattle.calendar.proofs.Going.{counted_few, counted_more, counted_all}
use Rattle.calendar.proofs.text_length.Goals as goal

pub loop-p-init : goal.loop-p-init
unfolding events_length
loop-p-init c = record { pass = record { few = c.requires; upto = omega arith }; sofar = refl }

pub overflow_add-k : goal.overflow_add-k
overflow_add-k c =
    let w = c.loop-p.invariant in
    let h = c.loop-p-test.true in
    omega (arith, counted_few (counted_more w h c.event_length-k.result c.event_length-k.ensures), w.pass.few, h)

pub loop-p-preserved : goal.loop-p-preserved
loop-p-preserved c = counted_more c.loop-p.invariant c.loop-p-test.true c.event_length-k.result c.event_length-k.ensures

pub returns : goal.returns
returns c = counted_all c.loop-p.invariant c.loop-p-test.false
