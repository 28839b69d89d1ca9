-- `stream::sheet::Sheet::played` meets its contract. Assumes nothing.
use Rattle.std.proofs.Common.{refl}
use Rattle.stream.proofs.Stages.{played_by}
use Rattle.stream.proofs.sheet.Sheet.played.Goals as goal

pub returns : goal.returns
returns c =
    let s = c.args in
    played_by s.self s.event.now c.take-reply.ensures refl
