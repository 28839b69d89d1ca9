-- `calls::done_numbered` meets its contract. Assumes nothing.
use Rattle.std.proofs.Common.{refl, ap, ◌∙◌}
use Rattle.points.specs.Sets.{member}
use Rattle.points.proofs.Walks.{walk_turn, walk_end}
use Rattle.calls.specs.Inside.{slot_by}
use Rattle.calls.proofs.Slots.{slots_start, refused, slots_turn, slots_end}
use Rattle.calls.proofs.done_numbered.Goals as goal

pub loop-p-init : goal.loop-p-init
loop-p-init c = (c.args.done, cc, slots_start _ _ _ _ _ c.ranges.done.fits refl)

pub returns-then-not-agrees : goal.returns-then-not-agrees
returns-then-not-agrees c =
    let a = c.args in
    let i = c.loop-p.invariant in
    let slot = c.slot_of-s in
    let eb = c.slot_by-by.ensures ∙ ap (λ b. slot_by b slot.result) c.has.ensures in
    let u = walk_turn i.0 i.2.fits i.1 c.in-Some.ensures.steps.yields in
    refused (member a.watched) a.done a.minutes a.calls _ _ _ _ i.2 _ _ u.0 refl _ _ slot.ensures eb c.ranges.done.fits _ c.agrees.ensures c.if-not-agrees.true

pub loop-p-preserved : goal.loop-p-preserved
loop-p-preserved c =
    let a = c.args in
    let i = c.loop-p.invariant in
    let slot = c.slot_of-s in
    let eb = c.slot_by-by.ensures ∙ ap (λ b. slot_by b slot.result) c.has.ensures in
    let u = walk_turn i.0 i.2.fits i.1 c.in-Some.ensures.steps.yields in
    let next = slots_turn (member a.watched) a.done a.minutes a.calls _ _ _ _ i.2 _ _ u.0 refl _ _ slot.ensures eb _ c.agrees.ensures c.if-not-agrees.false in
    (_, u.1, rw (c.with-foremans.ensures, c.with-seen.ensures) next)

pub returns : goal.returns
returns c =
    let a = c.args in
    let i = c.loop-p.invariant in
    let all = rw (walk_end i.0 i.2.fits i.1 c.in-None.ensures.steps.yields.0) at i.2 in
    c.in_order.ensures ∙ slots_end (member a.watched) a.done a.minutes a.calls c.requires _ _ _ all c.ranges.done.fits
