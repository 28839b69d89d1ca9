-- `feeding::begin_read` meets its contract. Assumes nothing.
use Rattle.feeding.proofs.Starting.{begun_refused}
use Rattle.feeding.proofs.begun.begin_read.Goals as goal

pub returns-in-Err-clause-begun : goal.returns-in-Err-clause-begun
returns-in-Err-clause-begun c =
    let p = c.plan_in-plan.ensures in
    record { plan = λ n front e. begun_refused _ n front _ _ _ _ _ _ _ _ _ _ _ _ _ e _ (rw p at c.begin-started.ensures) _ (rw p at c.ponds_of-ponds.ensures) c.in-Err.refusal c.in-Err.is _ c.plan_line.ensures c.put_line.ensures.made }
