-- `windows::least_high` meets its contract. Assumes nothing.
use Rattle.std.proofs.Common.{◌≡◌, sym, ◌∙◌, arith}
use Rattle.points.specs.Sets.{members_of}
use Rattle.windows.proofs.Opening.{least_at_le, least_more, least_none}
use Rattle.windows.proofs.least_high.Goals as goal

pub loop-p-init : goal.loop-p-init
loop-p-init c =
    let e : c.into_iter-p-iterator.result ≡ members_of c.args.set = cc in
    (omega arith, rw e (omega (arith, least_at_le c.args.highs (members_of c.args.set))))

pub loop-p-preserved : goal.loop-p-preserved
loop-p-preserved c =
    let i = c.loop-p.invariant in
    (omega (arith, c.min-least.ensures), rw c.min-least.ensures (sym (least_more _ _ c.in-Some.ensures.steps.yields) ∙ i.1))

pub returns : goal.returns
returns c =
    let i = c.loop-p.invariant in
    least_none _ _ i.0 c.in-None.ensures.steps.yields.0 ∙ i.1
