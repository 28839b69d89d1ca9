-- `taking::mark_set` meets its contract. Assumes nothing.
use Rattle.std.proofs.Common.{refl, ◌≡◌, ◌∙◌}
use Rattle.std.proofs.Math.ListN.{length-set}
use Rattle.points.specs.Sets.{members_of}
use Rattle.taking.proofs.Marking.{marks_more, marks_none}
use Rattle.taking.proofs.mark_set.Goals as goal

pub loop-p-init : goal.loop-p-init
loop-p-init c =
    let g = c.well_formed.0.1.1.1 in
    let e : c.into_iter-p-iterator.result ≡ members_of c.args.set = cc in
    (g.0.1.0.1, g.1.0.1.0.1, rw e refl)

pub loop-p-preserved : goal.loop-p-preserved
loop-p-preserved c =
    let i = c.loop-p.invariant in
    (simp length-set i.0, simp length-set i.1, rw c.with-done.ensures (marks_more _ _ c.in-Some.ensures.steps.yields _) ∙ i.2)

pub returns : goal.returns
returns c = marks_none _ _ c.in-None.ensures.steps.yields.0 _ ∙ c.loop-p.invariant.2
