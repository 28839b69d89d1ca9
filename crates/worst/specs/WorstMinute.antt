-- Document 02, §13, "Worst finishing minute": the largest finishing minute over all projections, and the day of one. Assumes
-- nothing.
use Rattle.std.specs.Prelude.{Bool, true, false, not, Result, Ok, Err, is_ok, List, [], ◌∷◌, ◌++◌, ℕ, ◌*◌, eqb, ltb, length, get_or, drop, if◌then◌else◌}
use Rattle.plan.specs.Limits.{record_bytes}
use Rattle.plan.specs.APlan.{records_of}
use Rattle.plan.specs.ReplyNumbers.{check_of, refusal, accepted}
use Rattle.plan.specs.declared.Plan.{Plan}
use Rattle.plan.specs.declared.Refusal.{Refusal}
use Rattle.vee.specs.PlanTest.{spans, many, most_projections}
use Rattle.vee.specs.TestOf.{test_of}
use Rattle.vee.specs.declared.Answer.{Answer}
use Rattle.vee.specs.declared.Answer.TheVariants as answer
use Rattle.promise.specs.Plays.{Event}
-- the finishing minute of a projection's run and the bytes of events; the projections, and the worst of all their runs
pub use Rattle.projection_runs.specs.ProjectionRuns.{finishing}
unfoldable pub use Rattle.projection_runs.specs.ProjectionRuns.{bytes_of_all}
pub use Rattle.all_runs.specs.WorstRun.{projections_of, Finish, worse, worst_of_all}
unfoldable pub use Rattle.all_runs.specs.WorstRun.{worst_from}
use Rattle.projection_runs.specs.ProjectionRuns.{events_of_run}
-- what is found: a finishing minute, and the projection that has it
pub use Rattle.all_runs.specs.declared.Found.{Found}

-- the plan passes the test
abbrev pub is_yes : Answer → Bool
is_yes (answer.Refused n i) = false
is_yes (answer.Yes k) = true
is_yes (answer.Cycle i) = false
is_yes (answer.Pair i X Y) = false

-- the plan's own refusal, 13, or 60 for a plan that does not pass
unfoldable pub refused_of : Plan → Refusal
refused_of p =
    if not (eqb (check_of p).number 0) then check_of p
    else (if ltb most_projections (many (spans (records_of p))) then refusal 13 0
    else (if not (is_yes (test_of p)) then refusal 60 0
    else accepted))

abbrev pub worst_at : ℕ → ℕ → Result Found Refusal
worst_at t i = Ok (record { minute = t; projection = i })

-- that, or the largest finishing minute and the first projection that reaches it
unfoldable pub worst_of : Plan → Result Found Refusal
worst_of p =
    if not (eqb (refused_of p).number 0) then Err (refused_of p)
    else worst_at (worst_of_all p).minute (worst_of_all p).projection

-- the number of an answer, 0 where nothing is refused, and the values that each case carries: a refusal's record, or the minute and
-- the projection
abbrev pub worst_number : Result Found Refusal → ℕ
worst_number (Err x) = x.number
worst_number (Ok found) = 0

abbrev pub worst_values : Result Found Refusal → List ℕ
worst_values (Err x) = x.place ∷ []
worst_values (Ok found) = found.minute ∷ found.projection ∷ []

-- ---- the day of a projection

-- the events of projection n's run; none for a number past the last
abbrev pub day_events : Plan → ℕ → List Event
day_events p n = if ltb n (many (spans (records_of p))) then events_of_run p (get_or (projections_of p) n []) else []

-- the plan's own refusal, 13, 60, 12 where the buffer is shorter than the events; else how many events there are
unfoldable pub day_of : Plan → ℕ → List ℕ → Result ℕ Refusal
day_of p n out =
    if not (eqb (refused_of p).number 0) then Err (refused_of p)
    else (if ltb (length out) (record_bytes * length (day_events p n)) then Err (refusal 12 0)
    else Ok (length (day_events p n)))

-- what the buffer holds then: a refusal changes no byte; else the events at its front, and the rest as it was
unfoldable pub day_written : Plan → ℕ → List ℕ → List ℕ
day_written p n out =
    if is_ok (day_of p n out) then bytes_of_all (day_events p n) ++ drop (record_bytes * length (day_events p n)) out
    else out
