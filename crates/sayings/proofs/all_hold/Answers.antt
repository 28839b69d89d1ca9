-- `sayings::all_hold` meets its contract. Assumes nothing.
use mathlib.Core.Path.{sym, ◌∙◌}
use native.Mathlib.Omega.{arith}
use Rattle.sayings.proofs.Rowing.{hold_end, hold_stop, hold_on}
use Rattle.sayings.proofs.all_hold.Goals as goal

pub returns-then-not-holds : goal.returns-then-not-holds
returns-then-not-holds c =
    rw c.number.ensures (hold_stop c.args.places.now c.args.words.now c.loop-i.i _ c.loop-i.invariant (omega arith) (omega (arith, c.requires)) (sym c.holds.ensures ∙ c.if-not-holds.true))

pub loop-i-preserved : goal.loop-i-preserved
loop-i-preserved c = hold_on c.args.places.now c.args.words.now c.loop-i.i _ c.loop-i.invariant (omega arith) (omega (arith, c.requires)) (sym c.holds.ensures ∙ c.if-not-holds.false)

pub returns : goal.returns
returns c = hold_end c.args.places.now c.args.words.now c.loop-i.i _ c.loop-i.invariant (omega arith)
