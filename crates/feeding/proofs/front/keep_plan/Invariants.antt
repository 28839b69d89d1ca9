-- `feeding::keep_plan` meets its contract. Assumes nothing.
use Rattle.feeding.proofs.Fronting.{Kept}
use Rattle.feeding.proofs.front.keep_plan.Given as goal

abbrev pub invariant-loop-i : goal.invariant-loop-i
invariant-loop-i l =
    Kept l.initial.front l.length l.input l.n l.front l.now l.i
