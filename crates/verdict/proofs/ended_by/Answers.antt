-- `verdict::ended_by_lem` meets its contract. Assumes nothing.
use mathlib.Core.Path.{refl, ◌∙◌}
use Rattle.verdict.proofs.Broken.{ended_as_lem}
use Rattle.verdict.proofs.ended_by.Goals as goal

pub returns-then-not-is_sound_by : goal.returns-then-not-is_sound_by
returns-then-not-is_sound_by c = c.new.ensures ∙ ended_as_lem c.args.links c.args.board c.is_sound_by.ensures (c.if-not-is_sound_by.true) refl refl

pub returns-then-not-is_finished_by : goal.returns-then-not-is_finished_by
returns-then-not-is_finished_by c =
    let a = c.args in
    c.new-then-not-is_finished_by.ensures ∙ ended_as_lem a.links a.board c.is_sound_by.ensures (c.if-not-is_sound_by.false) c.is_finished_by.ensures (c.if-not-is_finished_by.true)

pub returns : goal.returns
returns c =
    let a = c.args in
    c.new-2.ensures ∙ ended_as_lem a.links a.board c.is_sound_by.ensures (c.if-not-is_sound_by.false) c.is_finished_by.ensures (c.if-not-is_finished_by.false)
