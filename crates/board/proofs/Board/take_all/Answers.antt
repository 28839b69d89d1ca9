-- `board::Board::take_all` meets its contract. Assumes nothing.
use native.Mathlib.Omega.{arith}
use mathlib.Core.Path.{◌∙◌}
use Rattle.links.proofs.Linking.{known}
use Rattle.board.proofs.Streaming.{all_refused, all_unsound, all_taken}
use Rattle.board.proofs.Linked.{sound_known}
use Rattle.board.proofs.Board.take_all.Goals as goal

pub returns-then-found-ne-ACCEPTED : goal.returns-then-found-ne-ACCEPTED
returns-then-found-ne-ACCEPTED c =
    let s = c.args in
    let w = all_refused s.plan s.self s.events.now s.room.now (rw c.check-found.ensures at c.if-found-ne-ACCEPTED.true) in
    record {
      reply = (rw c.check-found.ensures at c.answer.ensures) ∙ w.0;
      room = w.1;
    }

pub links_by-links-requires : goal.links_by-links-requires
links_by-links-requires c = known _ _ c.check-found.ensures c.if-found-ne-ACCEPTED.false

pub returns-then-not-is_sound_by : goal.returns-then-not-is_sound_by
returns-then-not-is_sound_by c =
    let s = c.args in
    let w = all_unsound s.plan s.self s.events.now s.room.now (rw c.check-found.ensures at c.if-found-ne-ACCEPTED.false) (sound_known c.args.plan (rw c.check-found.ensures at c.if-found-ne-ACCEPTED.false) _ c.links_by-links.ensures c.args.self _ _ c.is_sound_by.ensures (c.if-not-is_sound_by.true)) in
    record {
      reply = c.answer-then-not-is_sound_by.ensures ∙ w.0;
      room = w.1;
    }

pub take_each-requires : goal.take_each-requires
take_each-requires c =
    let n = c.min-n.ensures in
    (record { accepted = rw c.check-found.ensures at c.if-found-ne-ACCEPTED.false; sound = sound_known c.args.plan (rw c.check-found.ensures at c.if-found-ne-ACCEPTED.false) _ c.links_by-links.ensures c.args.self _ _ c.is_sound_by.ensures (c.if-not-is_sound_by.false); links = c.links_by-links.ensures }, omega arith, omega arith)

pub returns : goal.returns
returns c =
    let s = c.args in
    let w = all_taken s.plan s.self s.events.now s.room.now (rw c.check-found.ensures at c.if-found-ne-ACCEPTED.false) (sound_known c.args.plan (rw c.check-found.ensures at c.if-found-ne-ACCEPTED.false) _ c.links_by-links.ensures c.args.self _ _ c.is_sound_by.ensures (c.if-not-is_sound_by.false)) in
    let t = c.take_each.ensures in
    let n = c.min-n.ensures in
    record {
      reply = rw (t.board, n) at c.answer-2.ensures ∙ w.0;
      room = rw n at t.room ∙ w.1;
    }
