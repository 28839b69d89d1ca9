-- `steps::ending_from` meets its contract. Assumes nothing.
use Rattle.steps.proofs.Nearest.{none_then}
use Rattle.steps.proofs.ending_from.Goals as goal

pub returns-then-t-soonest : goal.returns-then-t-soonest
returns-then-t-soonest c =
    let a = c.args in
    none_then a.kept.now a.starts.now a.durations.now a.t a.soonest c.requires c.if-t-soonest.true
