-- What the answer of the plan test refuses, and how many projections it has tried. A reader of the rules can leave this page out.
-- Assumes nothing.
use Rattle.std.specs.Prelude.{ℕ}
use Rattle.plan.specs.ReplyNumbers.{refusal, accepted}
use Rattle.plan.specs.declared.Refusal.{Refusal}
use Rattle.vee.specs.declared.Answer.{Answer}
use Rattle.vee.specs.declared.Answer.TheVariants as answer

-- what it refuses: its own refusal, or 60 where the plan does not pass
abbrev pub refused_by : Answer → Refusal
refused_by (answer.Refused n i) = refusal n i
refused_by (answer.Yes k) = accepted
refused_by (answer.Cycle i) = refusal 60 0
refused_by (answer.Pair i X Y) = refusal 60 0

-- how many projections it has tried, where the plan passes
abbrev pub many_by : Answer → ℕ
many_by (answer.Refused n i) = 0
many_by (answer.Yes k) = k
many_by (answer.Cycle i) = 0
many_by (answer.Pair i X Y) = 0
