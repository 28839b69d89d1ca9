-- What the functions on all projections of a plan laid out in rows ask and answer. A reader of the rules can leave this page out.
-- Assumes nothing.
use Rattle.std.specs.Prelude.{◌≡◌, Result, Ok, Err, List, ◌++◌, ℕ, ◌*◌, ◌≤◌, ltb, length, drop, if◌then◌else◌}
use Rattle.plan.specs.Limits.{record_bytes}
use Rattle.plan.specs.APlan.{points, links, records_of}
use Rattle.plan.specs.declared.Plan.{Plan}
use Rattle.vee.specs.PlanTest.{spans, many, most_projections}
use Rattle.promise.specs.Nets.{PassesPlan}
use Rattle.promise.specs.Plays as plays
use Rattle.steps.specs.Events.{SheetOf}
use Rattle.projection_runs.specs.ProjectionRuns.{events_of_run, bytes_of_all}
use Rattle.projection_runs.specs.Coded.{RunReady}
use Rattle.all_runs.specs.WorstRun.{worst_of_all}
use Rattle.plan.specs.ReplyNumbers.{refusal}
use Rattle.plan.specs.declared.Refusal.{Refusal}
use Rattle.all_runs.specs.declared.Found.{Found}

-- ---- a day

-- how many events there are, or 12 where the buffer is shorter than they are; and what the buffer holds then
abbrev pub day_for : List plays.Event → List ℕ → Result ℕ Refusal
day_for es out = if ltb (length out) (record_bytes * length es) then Err (refusal 12 0) else Ok (length es)

abbrev pub written_for : List plays.Event → List ℕ → List ℕ
written_for es out = if ltb (length out) (record_bytes * length es) then out else bytes_of_all es ++ drop (record_bytes * length es) out

-- there is a plan whose run is asked for
pub record DayAsks (s : List ℕ) (m n : ℕ) (w : List ℕ) : Type 0 where
  pub plan : Plan
  pub ready : RunReady plan s m n w

-- what is answered of each such plan
pub record DayAs (s : List ℕ) (m n : ℕ) (w out out' : List ℕ) (d : Result ℕ Refusal) : Type 0 where
  pub reply : (p : Plan) → RunReady p s m n w → d ≡ day_for (events_of_run p w) out
  pub written : (p : Plan) → RunReady p s m n w → out' ≡ written_for (events_of_run p w) out

-- ---- the projections

-- the sheet has the plan p of n points and some links, which passes, with so many projections
pub record AllReady (p : Plan) (s : List ℕ) (m n k total : ℕ) : Type 0 where
  pub sheet : SheetOf p s m
  pub points : n ≡ points (records_of p)
  pub links : k ≡ links (records_of p)
  pub passes : PassesPlan p
  pub counted : total ≡ many (spans (records_of p))
  pub few : total ≤ most_projections

-- there is such a plan
pub record WorstAsks (s : List ℕ) (m n k total : ℕ) : Type 0 where
  pub plan : Plan
  pub ready : AllReady plan s m n k total

-- the worse of what is found so far and the minute t of projection i
abbrev pub worse_found : Found → ℕ → ℕ → Found
worse_found found t i = if ltb found.minute t then record { minute = t; projection = i } else found

-- what is found of each such plan is the worst of all
pub record FoundOf (s : List ℕ) (m n k total : ℕ) (r : Found) : Type 0 where
  pub minute : (p : Plan) → AllReady p s m n k total → r.minute ≡ (worst_of_all p).minute
  pub projection : (p : Plan) → AllReady p s m n k total → r.projection ≡ (worst_of_all p).projection
