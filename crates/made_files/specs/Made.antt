-- The plans that are made of a plan file, given as its bytes s, or of a text, and what is left in a buffer that their files are written into.
-- Assumes nothing.
use Rattle.std.specs.Prelude.{◌≡◌, ◌≢◌, List, Result, ℕ, eqb, Ok, Err, if◌then◌else◌}
use Rattle.plan.specs.ReplyNumbers.{Reading, refusal, number_in, place_in, plan_in as plan_read, read_of, write_of, written_of}
use Rattle.plan.specs.declared.Refusal.{Refusal}
use Rattle.office.specs.Sheets.{import_of}
use Rattle.office.specs.declared.Refused.{Refused}
use Rattle.plan.specs.declared.Plan.{Plan}
use Rattle.closure.specs.Closing.{close_of}
use Rattle.lighter.specs.Lighter.{LighterOf}
use Rattle.lighter.specs.declared.Lighter.{Lighter}
use Rattle.halves.specs.Answers.{answer_of, answer_with, half_of}
use Rattle.halves.specs.OfFile.{of_file}

-- the plan with every distance as a record
abbrev pub close_file : List ℕ → Reading
close_file s = of_file s close_of (λ number place. read_of s)

-- an imported plan; the line of a refusal as far as a number of 32 bits goes
abbrev pub imported_as : Result Plan Refused → Reading
imported_as (Ok p) = Ok p
imported_as (Err x) = Err (refusal x.number (half_of x.line))

abbrev pub import_text : List ℕ → Reading
import_text s = imported_as (import_of s)

-- a lighter plan as a plan that was made
abbrev pub plan_in : Lighter → Reading
plan_in x = Ok x.plan

-- a plan that was made or refused, on its way into a buffer: its own refusal, or what writing its file answers
abbrev pub filed_of : Reading → List ℕ → Refusal
filed_of (Ok p) out = write_of p out
filed_of (Err x) out = x

-- the buffer after that
abbrev pub file_left : Reading → List ℕ → List ℕ
file_left (Ok p) out = written_of p out
file_left (Err x) out = out

-- 0 and how many records there are, or the refusal
abbrev pub filed_answer : Reading → List ℕ → ℕ
filed_answer made out = answer_with (filed_of made out).number (filed_of made out).place (plan_read made).count

-- the room for the numbers of the records that went: only a lighter plan that is written fills it
abbrev pub dropped_left : Lighter → List ℕ → List ℕ → List ℕ
dropped_left x out room = if eqb (filed_of (plan_in x) out).number 0 then x.dropped else room

-- the lighter plan x that the rules give: what is answered, and what is left in the buffer and in the room
pub data LighterWritten (s out room : List ℕ) : ℕ → List ℕ → List ℕ → Type 0 where
  unread : number_in (read_of s) ≢ 0 → LighterWritten s out room (answer_of (number_in (read_of s)) (place_in (read_of s))) out room
  refused : {r : Refusal} → number_in (read_of s) ≡ 0 → LighterOf (plan_read (read_of s)) (Err r) → LighterWritten s out room (answer_of r.number r.place) out room
  made : {x : Lighter} → number_in (read_of s) ≡ 0 → LighterOf (plan_read (read_of s)) (Ok x)
      → LighterWritten s out room (filed_answer (plan_in x) out) (file_left (plan_in x) out) (dropped_left x out room)
