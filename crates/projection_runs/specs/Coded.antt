-- What the function that runs a projection asks and answers, on a plan laid out in rows. A reader of the rules can leave this page
-- out. Assumes nothing.
use Rattle.std.specs.Prelude.{◌≡◌, List, ◌++◌, ℕ, ◌*◌, ◌≤◌, length, drop}
use Rattle.plan.specs.Limits.{record_bytes, farthest}
use Rattle.plan.specs.APlan.{points, records_of}
use Rattle.plan.specs.declared.Plan.{Plan}
use Rattle.events.specs.declared.Event.{Event}
use Rattle.network.specs.Projection.{InBounds}
use Rattle.rows.specs.Sheet.{by}
use Rattle.vee.specs.PlanTest.{net_of}
use Rattle.promise.specs.Nets.{PassesPlan}
use Rattle.promise.specs.Plays as plays
use Rattle.steps.specs.Events.{SheetOf}
use Rattle.steps.specs.Found.{RoomsOf}
use Rattle.projection_runs.specs.ProjectionRuns.{events_of_run, finishing, bytes_of_all}
use Rattle.projection_runs.specs.declared.Ran.{Ran}

-- an event of the code as one of a play
abbrev pub as_played : Event → plays.Event
as_played e = record { minute = e.minute; point = e.point; set = e.set }

-- the sheet s of m records has the plan p of n points, which passes, and the durations w are in bounds
pub record RunReady (p : Plan) (s : List ℕ) (m n : ℕ) (w : List ℕ) : Type 0 where
  pub sheet : SheetOf p s m
  pub points : n ≡ points (records_of p)
  pub passes : PassesPlan p
  pub within : InBounds (net_of (records_of p)) (by w)
  pub lasts : (C : ℕ) → by w C ≤ farthest

-- the rooms that a run is lent: the plan's rows, the three lists of them, what is kept of the fresh board, and where each link starts
pub record Lent : Type 0 where
  pub sheet : List ℕ
  pub into : List ℕ
  pub out : List ℕ
  pub ends : List ℕ
  pub begun : List ℕ
  pub starts : List ℕ

abbrev pub lent : List ℕ → List ℕ → List ℕ → List ℕ → List ℕ → List ℕ → Lent
lent s into out ends begun starts = record { sheet = s; into = into; out = out; ends = ends; begun = begun; starts = starts }

-- they are those of the plan p
pub record RoomsReady (p : Plan) (l : Lent) (n : ℕ) (w : List ℕ) : Type 0 where
  pub m : ℕ
  pub ready : RunReady p l.sheet m n w
  pub rooms : RoomsOf l.sheet m l.into l.out l.ends l.begun l.starts

-- there is such a plan, and the log has room for the events
pub record RunAsks (l : Lent) (n : ℕ) (w log : List ℕ) : Type 0 where
  pub plan : Plan
  pub ready : RoomsReady plan l n w
  pub room : record_bytes * length (events_of_run plan w) ≤ length log

-- what is answered of each such plan: the minute and the number of events of the run of w, and the events at the log's front
pub record RanOf (l : Lent) (n : ℕ) (w log log' : List ℕ) (r : Ran) : Type 0 where
  pub minute : (p : Plan) → RoomsReady p l n w → r.minute ≡ finishing p w
  pub events : (p : Plan) → RoomsReady p l n w → r.events ≡ length (events_of_run p w)
  pub written : (p : Plan) → RoomsReady p l n w
      → log' ≡ bytes_of_all (events_of_run p w) ++ drop (record_bytes * length (events_of_run p w)) log
