-- `replies::reply_of` meets its contract. Assumes nothing.
use native.Mathlib.Omega.{arith}
use mathlib.Core.Path.{◌∙◌}
use Rattle.plan.specs.APlan.{records_of}
use Rattle.plan.proofs.Accepted.{accepted_plan}
use Rattle.links.proofs.Linking.{known}
use Rattle.board.proofs.Opening.{given}
use Rattle.board.proofs.Linked.{sound_known, ready_known, finished_known}
use Rattle.replies.proofs.Numbers.{reply_numbered}
use Rattle.replies.proofs.Replying.{reply_refused, is_accepted, reply_unsound, reply_finished, reply_ready}
use Rattle.replies.proofs.ByPlan.{reply_same}
use Rattle.replies.proofs.reply_of.Goals as goal

pub returns-then-found-ne-ACCEPTED : goal.returns-then-found-ne-ACCEPTED
returns-then-found-ne-ACCEPTED c =
    let all = reply_numbered c.args.plan c.args.board (c.nothing_more.ensures ∙ reply_refused _ c.args.board _ c.check-found.ensures c.if-found-ne-ACCEPTED.true) in
    record {
      reply = all.0;
      number = all.1;
    }

pub links_by-links-requires : goal.links_by-links-requires
links_by-links-requires c = known _ _ c.check-found.ensures c.if-found-ne-ACCEPTED.false

pub returns-then-not-is_sound_by : goal.returns-then-not-is_sound_by
returns-then-not-is_sound_by c =
    let all = reply_numbered c.args.plan c.args.board (c.nothing_more-then-not-is_sound_by.ensures ∙ reply_unsound _ c.args.board _ c.check-found.ensures c.if-found-ne-ACCEPTED.false (sound_known c.args.plan (is_accepted _ c.args.board _ c.check-found.ensures c.if-found-ne-ACCEPTED.false) _ c.links_by-links.ensures c.args.board _ _ c.is_sound_by.ensures (c.if-not-is_sound_by.true))) in
    record {
      reply = all.0;
      number = all.1;
    }

pub returns-then-is_finished_by : goal.returns-then-is_finished_by
returns-then-is_finished_by c =
    let a = c.args in
    let r = ready_known a.plan _ c.check-found.ensures c.if-found-ne-ACCEPTED.false _ c.links_by-links.ensures a.board _ c.is_sound_by.ensures (c.if-not-is_sound_by.false) in
    let f = finished_known (records_of a.plan) _ r.links a.board _ _ c.is_finished_by.ensures c.if-is_finished_by.true in
    let all = reply_numbered a.plan a.board (c.nothing_more-then-is_finished_by.ensures ∙ reply_finished (records_of a.plan) a.board f ∙ reply_ready a.plan a.board _ r) in
    record {
      reply = all.0;
      number = all.1;
    }

pub windows_of-w-requires : goal.windows_of-w-requires
windows_of-w-requires c =
    let a = c.args in
    given a.plan a.board _ (omega (arith, c.well_formed.1.0.1.1.1.0.1)) (ready_known a.plan _ c.check-found.ensures c.if-found-ne-ACCEPTED.false _ c.links_by-links.ensures a.board _ c.is_sound_by.ensures (c.if-not-is_sound_by.false))

pub returns : goal.returns
returns c =
    let a = c.args in
    let r = ready_known a.plan _ c.check-found.ensures c.if-found-ne-ACCEPTED.false _ c.links_by-links.ensures a.board _ c.is_sound_by.ensures (c.if-not-is_sound_by.false) in
    let e = reply_same (records_of a.plan) (accepted_plan a.plan r.accepted) _ r.links a.board _ c.windows_of-w.ensures in
    let all = reply_numbered a.plan a.board (c.reply_from.ensures ∙ e ∙ reply_ready a.plan a.board _ r) in
    record {
      reply = all.0;
      number = all.1;
    }
