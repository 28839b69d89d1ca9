-- `board::sound::is_sound` meets its contract. Assumes nothing.
use Rattle.plan.specs.APlan.{records_of}
use Rattle.board.proofs.Linked.{sound_as}
use Rattle.board.proofs.sound.is_sound.Goals as goal

pub returns : goal.returns
returns c =
    let a = c.args in
    let l = c.links_of-links in
    sound_as (records_of a.plan) l.result l.ensures a.board _ c.by_records.ensures
