-- Document 02, §13, "Worst finishing minute": what is promised of the run of a projection. p is a plan that passes the test, w the
-- durations of one of its projections. Assumes nothing.
use Rattle.std.specs.Prelude.{◌≡◌, true, false, List, ℕ, suc, ◌*◌, ◌≤◌, ◌<◌, length}
use Rattle.plan.specs.Limits.{farthest}
use Rattle.plan.specs.APlan.{points, records_of}
use Rattle.records.specs.declared.Record.{Record}
use Rattle.plan.specs.declared.Plan.{Plan}
use Rattle.board.specs.Boards.{fresh, sound}
use Rattle.board.specs.Windows.{never, some_open}
use Rattle.board.specs.Stuck.{finished}
use Rattle.board.specs.Events.{no_point, take_of}
use Rattle.board.specs.declared.Board.{Board}
use Rattle.replies.specs.Replies.{reply_of}
use Rattle.replies.specs.declared.Outcome.TheVariants.{Stuck, Offers}
use Rattle.verdict.specs.Verdicts.{verdict_of}
use Rattle.verdict.specs.declared.Verdict.TheVariants.{Kept}
use Rattle.rows.specs.Sheet.{by}
use Rattle.promise.specs.Plays.{Event, event_bytes, Foreman, Players, Play, Fixed, Lasted}
use Rattle.promise.specs.GoodSheets.{AllTaken, board_of}
use Rattle.projection_runs.specs.ProjectionRuns.{offered, aim, aimed, next_event, after, run_of, events_of_run}
-- the least Low of the open points and the first open point that has it, as the code finds the aim
use Rattle.steps.specs.Events.{least_open, first_open}

-- ---- the aim

-- on a board that is sound and not stuck: something is offered just where something is open, and the aim is the first open
-- point of the least Low
pub record AimIs (rs : List Record) (b : Board) : Type 0 where
  pub offers : some_open rs b ≡ true → (q : ℕ) × (offered rs b q ≡ true)
  pub opens : (q : ℕ) → offered rs b q ≡ true → some_open rs b ≡ true
  pub minute : aim rs b ≡ least_open rs b
  pub point : aimed rs b ≡ first_open rs b
  pub none : some_open rs b ≡ false → (aim rs b ≡ never) × (aimed rs b ≡ no_point)

-- ---- a run

-- the board b of the run of w, after k events
pub data Along (p : Plan) (w : List ℕ) : Board → ℕ → Type 0 where
  start : Along p w fresh 0
  next : {b : Board} {k : ℕ} → Along p w b k → finished (records_of p) b ≡ false → Along p w (after p w b) (suc k)

-- what is promised of it
pub record OnTheWay (p : Plan) (w : List ℕ) (b : Board) (k : ℕ) : Type 0 where
  pub sound : sound (records_of p) b ≡ true
  -- it is not stuck, and while it is not finished its event is accepted
  pub free : (reply_of p b).outcome ≡ Stuck → ⊥
  pub accepted : finished (records_of p) b ≡ false → (take_of p b (event_bytes (next_event (records_of p) w b))).number ≡ 0
  pub aim : finished (records_of p) b ≡ false → AimIs (records_of p) b
  -- there are at most as many events as points, and no minute is past 100,000 times the number of points
  pub events : k ≤ points (records_of p)
  pub clock : b.clock ≤ farthest * points (records_of p)
  -- each link that has ended has lasted as long as w says
  pub lasted : Lasted p (by w) b

-- what is promised of the run
pub record RunsWell (p : Plan) (w : List ℕ) : Type 0 where
  pub each : (b : Board) (k : ℕ) → Along p w b k → OnTheWay p w b k
  -- it ends on a finished board, on which every constraint holds
  pub ends : Along p w (run_of p w) (length (events_of_run p w))
  pub finished : finished (records_of p) (run_of p w) ≡ true
  pub kept : verdict_of p (run_of p w) ≡ Kept
  -- its events, one after the other, are all accepted and lead there
  pub taken : AllTaken p fresh (events_of_run p w)
  pub leads : board_of p (events_of_run p w) ≡ run_of p w

-- ---- a run is a play

-- a foreman who takes the aim, where there is one
pub record TakesAim (p : Plan) (f : Foreman p) : Type 0 where
  pub at : (k : ℕ) (b : Board) (o : (reply_of p b).outcome ≡ Offers) → aim (records_of p) b < never
      → ((f k b o).minute ≡ aim (records_of p) b) × ((f k b o).point ≡ aimed (records_of p) b)

-- haulage can keep to w's durations and a foreman can take the aim, and those who do reach the boards of the run and no other
pub record IsPlay (p : Plan) (w : List ℕ) : Type 0 where
  pub players : Players p
  pub fixed : Fixed p (by w) players.haulage
  pub aims : TakesAim p players.foreman
  pub plays : (x : Players p) → Fixed p (by w) x.haulage → TakesAim p x.foreman
      → (b : Board) (k : ℕ) → Along p w b k → Play p x b k
  pub no_other : (x : Players p) → Fixed p (by w) x.haulage → TakesAim p x.foreman
      → (b : Board) (k : ℕ) → Play p x b k → Along p w b k
