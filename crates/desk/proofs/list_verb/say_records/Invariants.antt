-- `desk::list_verb::say_records` meets its contract. Assumes nothing.
use Rattle.std.proofs.Common.{◌≡◌, ◌-◌, length}
use Rattle.plan.specs.Limits.{most_records}
use Rattle.desk.proofs.list_verb.say_records.Given as goal

abbrev pub invariant-loop-i : goal.invariant-loop-i
invariant-loop-i l = length l.records ≡ most_records

abbrev pub decreases-loop-i : goal.decreases-loop-i
decreases-loop-i l = most_records - l.i
