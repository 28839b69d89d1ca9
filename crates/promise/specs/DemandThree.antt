-- Demand 3 as it is promised: each statement is a type, its hypotheses beside it, and `DemandThree` in proofs/ proves each. A reader who wants to
-- know what is promised needs this page and those that it cites. Definitions only. Assumes nothing.
use Rattle.std.specs.Prelude.{◌≡◌, ◌⊎◌, true, ℕ, ◌≤◌}
use Rattle.plan.specs.APlan.{records_of}
use Rattle.plan.specs.ReplyNumbers.{check_of}
use Rattle.plan.specs.declared.Plan.{Plan}
use Rattle.board.specs.Stuck.{finished}
use Rattle.board.specs.Events.{take_of}
use Rattle.board.specs.declared.Board.{Board}
use Rattle.vee.specs.PlanTest.{Tested, many, spans, most_projections}
use Rattle.vee.specs.declared.Answer.{Answer}
use Rattle.vee.specs.declared.Answer.TheVariants.{Yes}
use Rattle.promise.specs.Nets.{PassesPlan}
use Rattle.promise.specs.Runs.{Run, Promised}
use Rattle.promise.specs.Plays.{Event, event_bytes, CanHappen, Happened, Players, Finishes}

-- a plan that is accepted, and passes for every whole-minute choice of durations in its bounds
pub record Passing (p : Plan) : Type 0 where
  pub accepted : (check_of p).number ≡ 0
  pub passes : PassesPlan p

-- "The sheet never sticks", "each accepted event finishes at least one point", "no minute passes 100,000 times that number", "every constraint
-- holds at the end": so it is of every board that accepted events, any bytes at all, reach from the fresh one.
abbrev pub AlwaysPromised : Type 0
AlwaysPromised = (p : Plan) → Passing p → (b : Board) (k : ℕ) → Run p b k → Promised p b k

-- Whatever haulage and the foreman can do next, the engine accepts.
abbrev pub NothingRefused : Type 0
NothingRefused =
    (p : Plan) → Passing p → (b : Board) (k : ℕ) → Happened p b k → (e : Event) → CanHappen p b e → (take_of p b (event_bytes e)).number ≡ 0

-- Until all is done, there is something that they can do.
abbrev pub AlwaysOn : Type 0
AlwaysOn =
    (p : Plan) → Passing p → (b : Board) (k : ℕ) → Happened p b k → (finished (records_of p) b ≡ true) ⊎ ((e : Event) × CanHappen p b e)

-- "Let the foreman make any offered choice, .. and haulage end each running step anywhere in its bounds": whatever the two decide as they
-- go, "all is done in at most as many events as there are points", and the verdict is kept.
abbrev pub AlwaysFinishes : Type 0
AlwaysFinishes = (p : Plan) → Passing p → (x : Players p) → Finishes p x

-- "The plan test says yes exactly for such plans, up to 4,096 choices": of an accepted plan with no more, the answer is a yes exactly where
-- the plan passes, with the number of its projections.
abbrev pub YesExactly : Type 0
YesExactly =
    (p : Plan) (a : Answer) → (check_of p).number ≡ 0 → many (spans (records_of p)) ≤ most_projections → Tested p a
    → ((j : ℕ) → a ≡ Yes j → PassesPlan p) × (PassesPlan p → a ≡ Yes (many (spans (records_of p))))

-- So whoever got a yes has all of the above.
abbrev pub YesPasses : Type 0
YesPasses = (p : Plan) (j : ℕ) → Tested p (Yes j) → Passing p
