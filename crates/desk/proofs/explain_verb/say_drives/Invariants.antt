-- `desk::explain_verb::say_drives` meets its contract. Assumes nothing.
use Rattle.std.proofs.Common.{◌≡◌, ◌-◌, length}
use Rattle.plan.specs.Limits.{most_links}
use Rattle.desk.proofs.explain_verb.say_drives.Given as goal

abbrev pub invariant-loop-i : goal.invariant-loop-i
invariant-loop-i l = length l.list ≡ most_links

abbrev pub decreases-loop-i : goal.decreases-loop-i
decreases-loop-i l = most_links - l.i
