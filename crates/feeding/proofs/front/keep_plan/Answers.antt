-- `feeding::keep_plan` meets its contract. Assumes nothing.
use Rattle.std.proofs.Common.{◌-◌, refl, rules, arith}
use Rattle.saying.proofs.Gone.{part_is}
use Rattle.feeding.proofs.Fronting.{kept_none, kept_more, kept_mark, kept_all}
use Rattle.feeding.proofs.front.keep_plan.Goals as goal

pub loop-i-init : goal.loop-i-init
loop-i-init c = kept_none _ _ _ _ refl (search rules) (search rules)

pub returns-then-is_mark : goal.returns-then-is_mark
returns-then-is_mark c = kept_mark _ _ _ _ c.loop-i.invariant (search rules) (part_is c.loop-i.i c.args.input.now) c.is_mark.ensures c.if-is_mark.true refl

pub loop-i-preserved : goal.loop-i-preserved
loop-i-preserved c = kept_more _ _ _ _ c.loop-i.invariant (search rules) (part_is c.loop-i.i c.args.input.now) c.is_mark.ensures c.if-is_mark.false c.append.ensures.bytes refl

pub returns : goal.returns
returns c = let k = c.loop-i.invariant in kept_all _ _ _ _ k (search rules) (omega (arith, k.upto, c.loop-i-test.false))
