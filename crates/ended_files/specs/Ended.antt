-- What is said of a day at its end, of a plan file, given as its bytes s, and the board that an engine's room holds: the reader's own refusal, or the
-- rules' own definitions at the plan that is read. Assumes nothing.
use Rattle.std.specs.Prelude.{List, Result, Ok, Err, ℕ}
use Rattle.verdict.specs.Verdicts.{verdict_of}
use Rattle.verdict.specs.declared.Verdict.{Verdict}
use Rattle.verdict.specs.declared.Verdict.TheVariants as verdict
use Rattle.dates.specs.declared.Stamp.{Stamp}
use Rattle.calendar.specs.Calendars.{calendar_of}
use Rattle.calendar.specs.Calendars as calendars
use Rattle.plan.specs.ReplyNumbers.{refusal}
use Rattle.plan.specs.declared.Refusal.{Refusal}
use Rattle.halves.specs.Answers.{answer_of, half_of}
use Rattle.halves.specs.OfFile.{of_file}
use Rattle.hulls.specs.Rooms.{board_in}

-- the verdict
abbrev pub verdict_file : List ℕ → List ℕ → Verdict
verdict_file s kept = of_file s (λ p. verdict_of p (board_in kept)) verdict.Refused

-- minute 0 as five numbers
abbrev pub stamp_of : ℕ → ℕ → ℕ → ℕ → ℕ → Stamp
stamp_of year month day hour minute = record { year = year; month = month; day = day; hour = hour; minute = minute }

-- the calendar of the board that an engine's room holds, and the buffer after it
abbrev pub calendar_file : List ℕ → List ℕ → Stamp → List ℕ → Result ℕ Refusal
calendar_file s kept origin out = of_file s (λ p. calendar_of p (board_in kept) origin out) (λ number place. Err (refusal number place))

abbrev pub calendar_left : List ℕ → List ℕ → Stamp → List ℕ → List ℕ
calendar_left s kept origin out = of_file s (λ p. calendars.written_of p (board_in kept) origin out) (λ number place. out)

-- 0 with the text's length, or the refusal
abbrev pub calendar_answer : Result ℕ Refusal → ℕ
calendar_answer (Ok n) = answer_of 0 (half_of n)
calendar_answer (Err r) = answer_of r.number r.place
