-- `saying::put_events` meets its contract. Assumes nothing.
use Rattle.std.proofs.Common.{◌-◌, sym, refl, ◌∙◌, inl, inr, rules, leb-false, leb-true}
use Rattle.saying.proofs.Gone.{part_is, gone_none, gone_more, gone_all}
use Rattle.saying.proofs.putting.put_events.Goals as goal
use Rattle.saying.proofs.putting.put_events.Goals.{else-loop-i-test, then-loop-i-test+then-not-fits}

pub loop-i-init : goal.loop-i-init
loop-i-init c = gone_none _ _ _ _ _ _ _ _ _ _ _ _ _ refl (search rules) (search rules)

pub put_event-end-requires : goal.put_event-end-requires
put_event-end-requires c = leb-true _ _ (sym c.fits.ensures ∙ c.if-not-fits.false)

pub loop-i-preserved : goal.loop-i-preserved
loop-i-preserved c = gone_more _ _ _ _ _ _ _ _ _ _ _ _ _ c.loop-i.invariant (search rules) (part_is c.loop-i.i c.args.bytes.now) c.put_event-end.ensures refl

pub returns : goal.returns
returns c =
    gone_all _ _ _ _ _ _ _ _ _ _ _ _ _ c.loop-i.invariant refl
    (elim c.loop-i-test.branch [
      | else-loop-i-test w ↦ inl w.loop-i-test.false
      | then-loop-i-test+then-not-fits w ↦ inr (leb-false _ _ (sym w.fits.ensures ∙ w.if-not-fits.true))
    ])
