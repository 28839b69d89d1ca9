-- `verdict::verdict_of` meets its contract. Assumes nothing.
use mathlib.Core.Path.{refl, ◌∙◌}
use Rattle.links.proofs.Linking.{known}
use Rattle.verdict.proofs.Numbers.{verdict_numbered}
use Rattle.verdict.proofs.Broken.{ended_refused, ended_by_lem, verdict_refused, verdict_judged}
use Rattle.verdict.proofs.verdict_of.Goals as goal

pub returns-then-found-ne-ACCEPTED : goal.returns-then-found-ne-ACCEPTED
returns-then-found-ne-ACCEPTED c =
    let a = c.args in
    let e = ended_refused a.plan _ c.check-found.ensures a.board c.if-found-ne-ACCEPTED.true in
    let all = verdict_numbered _ _ (verdict_refused a.plan a.board _ e c.if-found-ne-ACCEPTED.true) in
    record {
      verdict = all.0;
      number = all.1;
    }

pub links_by-links-requires : goal.links_by-links-requires
links_by-links-requires c = known _ _ c.check-found.ensures c.if-found-ne-ACCEPTED.false

pub returns-then-end-ne-ACCEPTED : goal.returns-then-end-ne-ACCEPTED
returns-then-end-ne-ACCEPTED c =
    let a = c.args in
    let e = c.ended_by-end.ensures ∙ ended_by_lem a.plan _ c.check-found.ensures a.board c.if-found-ne-ACCEPTED.false _ c.links_by-links.ensures in
    let all = verdict_numbered _ _ (verdict_refused a.plan a.board _ e c.if-end-ne-ACCEPTED.true) in
    record {
      verdict = all.0;
      number = all.1;
    }

pub first_broken-requires : goal.first_broken-requires
first_broken-requires c = ((known _ _ c.check-found.ensures c.if-found-ne-ACCEPTED.false).accepted refl, c.links_by-links.ensures)

pub returns : goal.returns
returns c =
    let a = c.args in
    let e = c.ended_by-end.ensures ∙ ended_by_lem a.plan _ c.check-found.ensures a.board c.if-found-ne-ACCEPTED.false _ c.links_by-links.ensures in
    let all = verdict_numbered _ _ (c.first_broken.ensures ∙ verdict_judged a.plan a.board _ e c.if-end-ne-ACCEPTED.false) in
    record {
      verdict = all.0;
      number = all.1;
    }
