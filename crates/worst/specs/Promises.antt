-- Document 02, §13, "Worst finishing minute": what is promised of the runs, and of the number that is reported. p is a plan
-- that passes the test, w the durations of one of its projections. Assumes nothing.
use Rattle.std.specs.Prelude.{◌≡◌, ◌≢◌, true, Err, [], ℕ, ◌*◌, ◌≤◌, ◌<◌, length}
use Rattle.plan.specs.Limits.{farthest}
use Rattle.plan.specs.APlan.{points, records_of}
use Rattle.plan.specs.ReplyNumbers.{check_of, refusal}
use Rattle.plan.specs.declared.Plan.{Plan}
use Rattle.board.specs.Boards.{fresh}
use Rattle.board.specs.Stuck.{finished}
use Rattle.board.specs.declared.Board.{Board}
use Rattle.verdict.specs.Verdicts.{verdict_of}
use Rattle.verdict.specs.declared.Verdict.TheVariants.{Kept}
use Rattle.network.specs.Projection.{InBounds}
use Rattle.vee.specs.PlanTest.{spans, many, most_projections, net_of}
use Rattle.promise.specs.Nets.{PassesPlan}
use Rattle.promise.specs.Plays.{Players, Play, Fixed}
use Rattle.promise.specs.GoodSheets.{AllTaken, board_of}
-- what is promised of each run, and projection number i of a plan
pub use Rattle.projection_runs.specs.RunPromises.{AimIs, Along, OnTheWay, RunsWell, TakesAim, IsPlay}
pub use Rattle.all_runs.specs.WorstRun.{projection_at}
use Rattle.worst.specs.WorstMinute.{finishing, worst_of_all, worst_of, worst_at, day_events}

-- ---- the worst finishing minute

-- t is the largest finishing minute over all projections, and i the first projection in test order that reaches it
pub record IsWorst (p : Plan) (t i : ℕ) : Type 0 where
  pub largest : (j : ℕ) → j < many (spans (records_of p)) → finishing p (projection_at p j) ≤ t
  pub numbered : i < many (spans (records_of p))
  pub reached : finishing p (projection_at p i) ≡ t
  pub first : (j : ℕ) → j < i → finishing p (projection_at p j) < t

-- no board that a foreman who takes the aim reaches is later than t, whatever durations in bounds haulage keeps to
pub record NoneLater (p : Plan) (t : ℕ) : Type 0 where
  pub holds : (ω : ℕ → ℕ) → InBounds (net_of (records_of p)) ω → (x : Players p) → Fixed p ω x.haulage → TakesAim p x.foreman
      → (b : Board) (k : ℕ) → Play p x b k → b.clock ≤ t

-- the day of projection n: its events, one after the other from the fresh board, are all accepted and finish at its minute; a
-- number past the last projection has none
pub record DayStands (p : Plan) (n : ℕ) : Type 0 where
  pub taken : AllTaken p fresh (day_events p n)
  pub few : length (day_events p n) ≤ points (records_of p)
  pub finished : n < many (spans (records_of p)) → finished (records_of p) (board_of p (day_events p n)) ≡ true
  pub kept : n < many (spans (records_of p)) → verdict_of p (board_of p (day_events p n)) ≡ Kept
  pub minute : n < many (spans (records_of p)) → (board_of p (day_events p n)).clock ≡ finishing p (projection_at p n)
  pub none : many (spans (records_of p)) ≤ n → day_events p n ≡ []

-- what the answer t, i is worth
pub record WorstStands (p : Plan) (t i : ℕ) : Type 0 where
  pub worst : IsWorst p t i
  pub runs : (j : ℕ) → j < many (spans (records_of p)) → RunsWell p (projection_at p j)
  pub plays : (j : ℕ) → j < many (spans (records_of p)) → IsPlay p (projection_at p j)
  pub none_later : NoneLater p t
  pub bounded : t ≤ farthest * points (records_of p)
  pub days : (n : ℕ) → DayStands p n

-- the answer to a plan: its own refusal, 13 for more than 4,096 projections, 60 where it does not pass, else what stands
pub record Answers (p : Plan) : Type 0 where
  pub own : (check_of p).number ≢ 0 → worst_of p ≡ Err (check_of p)
  pub too_many : (check_of p).number ≡ 0 → most_projections < many (spans (records_of p)) → worst_of p ≡ Err (refusal 13 0)
  pub failing : (check_of p).number ≡ 0 → many (spans (records_of p)) ≤ most_projections → (PassesPlan p → ⊥)
      → worst_of p ≡ Err (refusal 60 0)
  pub passing : (check_of p).number ≡ 0 → many (spans (records_of p)) ≤ most_projections → PassesPlan p
      → worst_of p ≡ worst_at (worst_of_all p).minute (worst_of_all p).projection
  pub stands : (t i : ℕ) → worst_of p ≡ worst_at t i → WorstStands p t i
