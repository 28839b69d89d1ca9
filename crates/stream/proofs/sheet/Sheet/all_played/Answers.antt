-- `stream::Sheet::all_played` meets its contract. Assumes nothing.
use Rattle.std.proofs.Common.{refl}
use Rattle.stream.proofs.Stages.{all_played_by}
use Rattle.stream.proofs.sheet.Sheet.all_played.Goals as goal

pub returns : goal.returns
returns c =
    let s = c.args in
    let t = c.take_all-reply.ensures in
    record {
      sheet = all_played_by s.self s.events.now s.room.now t.reply c.fewer-n.ensures refl;
      room = t.room;
    }
