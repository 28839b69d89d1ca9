-- `kept_windows::high_of` meets its contract. Assumes nothing.
use Rattle.std.proofs.Common.{◌≡◌, min, drop, sym, ap, ◌∙◌, arith}
use lib.Seq.{get_or-drop}
use Rattle.points.specs.Sets.{members_of}
use Rattle.windows.specs.Inside.{least_at}
use Rattle.windows.proofs.Opening.{least_at_le, least_more, least_none}
use Rattle.kept.specs.Rooms.{highs_at}
use Rattle.kept_windows.proofs.high_of.Goals as goal

pub loop-p-init : goal.loop-p-init
loop-p-init c =
    let e : c.into_iter-p-iterator.result ≡ members_of c.args.set = cc in
    (omega arith, rw e (omega (arith, least_at_le (drop highs_at c.args.kept.now) (members_of c.args.set))))

pub loop-p-preserved : goal.loop-p-preserved
loop-p-preserved c =
    let i = c.loop-p.invariant in
    (omega (arith, c.min-least.ensures), rw (c.min-least.ensures, c.from.ensures, ← get_or-drop highs_at c.args.kept.now c.in-Some.p 0) (sym (least_more _ _ c.in-Some.ensures.steps.yields) ∙ i.1))

pub returns : goal.returns
returns c =
    let i = c.loop-p.invariant in
    least_none _ _ i.0 c.in-None.ensures.steps.yields.0 ∙ i.1
