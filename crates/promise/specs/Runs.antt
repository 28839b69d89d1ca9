-- Runs of accepted events from the fresh board, and what is promised of the boards that they reach. Assumes nothing.
use Rattle.std.specs.Prelude.{◌≡◌, true, List, ℕ, suc, ◌*◌, ◌≤◌, ◌<◌}
use Rattle.points.specs.Sets.{count_of}
use Rattle.plan.specs.Limits.{most_points, farthest}
use Rattle.plan.specs.APlan.{points, records_of}
use Rattle.plan.specs.Held.{All, IsByte}
use Rattle.plan.specs.declared.Plan.{Plan}
use Rattle.board.specs.Boards.{fresh, sound, minute}
use Rattle.board.specs.Stuck.{finished}
use Rattle.replies.specs.Replies.{reply_of}
use Rattle.board.specs.Events.{take_of}
use Rattle.verdict.specs.Verdicts.{verdict_of}
use Rattle.replies.specs.Numbers.{outcome_number}
use Rattle.board.specs.declared.Board.{Board}
use Rattle.replies.specs.declared.Outcome.TheVariants.{Stuck}
use Rattle.verdict.specs.declared.Verdict.TheVariants.{Kept}

-- the board b is reached from the fresh one by k accepted events of the plan p, each any list of bytes; a refused event
-- hands back the same board, so it need not be counted
pub data Run (p : Plan) : Board → ℕ → Type 0 where
  start : Run p fresh 0
  next : {b : Board} {k : ℕ} (s : List ℕ) → Run p b k → All IsByte s → (take_of p b s).number ≡ 0 → Run p (take_of p b s).board (suc k)

-- the board b is reached by some events
pub record Reached (p : Plan) (b : Board) : Type 0 where
  pub events : ℕ
  pub run : Run p b events

-- what is promised of the board b after k events of the plan p
pub record Promised (p : Plan) (b : Board) (k : ℕ) : Type 0 where
  pub sound : sound (records_of p) b ≡ true
  -- the reply is no refusal, and not stuck
  pub answered : outcome_number (reply_of p b).outcome ≡ 0
  pub free : (reply_of p b).outcome ≡ Stuck → ⊥
  -- each event has finished at least one point, so there are at most as many events as points
  pub done : k ≤ count_of b.done
  pub events : k ≤ points (records_of p)
  -- no minute is past 100,000 times the number of points done, nor of points
  pub clock : b.clock ≤ farthest * count_of b.done
  pub minutes : (q : ℕ) → q < most_points → minute b q ≤ farthest * points (records_of p)
  -- all done, every constraint holds
  pub kept : finished (records_of p) b ≡ true → verdict_of p b ≡ Kept
