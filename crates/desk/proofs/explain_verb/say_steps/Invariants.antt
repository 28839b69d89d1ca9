-- `desk::explain_verb::say_steps` meets its contract. Assumes nothing.
use Rattle.std.proofs.Common.{◌≡◌, ◌-◌, length}
use Rattle.plan.specs.Limits.{most_points}
use Rattle.desk.proofs.explain_verb.say_steps.Given as goal

abbrev pub invariant-loop-i : goal.invariant-loop-i
invariant-loop-i l = length l.steps ≡ most_points

abbrev pub decreases-loop-i : goal.decreases-loop-i
decreases-loop-i l = most_points - l.i
