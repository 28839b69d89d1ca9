-- `steps::next_event` meets its contract. Assumes nothing.
use Rattle.steps.proofs.Nearest.{event_made}
use Rattle.steps.proofs.next_event.Goals as goal

pub ending_from-requires : goal.ending_from-requires
ending_from-requires c = λ i. (c.end_of-end.ensures i).minute

pub returns : goal.returns
returns c =
    let a = c.args in
    event_made a.kept.now a.starts.now a.durations.now a.n c.aim_of.ensures c.end_of-end.ensures c.first_of-first.ensures c.ending_from.ensures
