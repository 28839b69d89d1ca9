-- `taking::step_from` meets its contract. Assumes nothing.
use native.Mathlib.Omega.{arith}
use mathlib.Core.Path.{refl}
use Rattle.events.proofs.Forming.{formed_length}
use Rattle.taking.proofs.Stepping.{formed, refuses, takes}
use Rattle.taking.proofs.step_from.Goals as goal

pub returns-then-found-ne-ACCEPTED : goal.returns-then-found-ne-ACCEPTED
returns-then-found-ne-ACCEPTED c =
    let a = c.args in
    let all = refuses a.links a.clock a.marks a.w a.event.now _ c.number_from-found.ensures _ c.if-found-ne-ACCEPTED.true refl in
    record {
      step = all.0;
      set = all.1;
    }

pub event_in-e-requires : goal.event_in-e-requires
event_in-e-requires c =
    let a = c.args in
    omega (arith, formed_length a.links.points a.event.now (formed a.links a.clock a.marks a.w a.event.now _ c.number_from-found.ensures c.if-found-ne-ACCEPTED.false))

pub returns : goal.returns
returns c =
    let a = c.args in
    let e = c.event_in-e in
    let all = takes a.links a.clock a.marks a.w a.event.now _ c.number_from-found.ensures _ c.if-found-ne-ACCEPTED.false e.ensures.1 e.result e.ensures.0 _ c.next_call.ensures _ c.after.ensures refl in
    record {
      step = all.0;
      set = all.1;
    }
