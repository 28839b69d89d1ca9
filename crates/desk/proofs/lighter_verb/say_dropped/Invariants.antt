-- `desk::lighter_verb::say_dropped` meets its contract. Assumes nothing.
use Rattle.std.proofs.Common.{◌≡◌, ◌-◌, length}
use Rattle.plan.specs.Limits.{most_records}
use Rattle.desk.proofs.lighter_verb.say_dropped.Given as goal

abbrev pub invariant-loop-i : goal.invariant-loop-i
invariant-loop-i l = length l.dropped ≡ most_records

abbrev pub decreases-loop-i : goal.decreases-loop-i
decreases-loop-i l = most_records - l.i
