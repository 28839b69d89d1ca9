-- What the test's yes is worth: the contract of `vee::test` permits the answer yes only for plans that keep demand 3, of
-- which the contracts of `reply_of`, `take` and `verdict_of` speak. Assumes nothing.
use mathlib.Core.Path.{◌≡◌}
use Prim.Native.Nat.{ℕ}
use Rattle.plan.specs.ReplyNumbers.{check_of}
use Rattle.plan.specs.declared.Plan.{Plan}
use Rattle.board.specs.declared.Board.{Board}
use Rattle.vee.specs.declared.Answer.TheVariants as answer
use Rattle.vee.specs.PlanTest.{Tested, tested}
use Rattle.vee.proofs.Yes.{yes_passes}
use Rattle.promise.specs.Runs.{Run, Promised}
use Rattle.promise.specs.Plays.{Players, Finishes}
use Rattle.promise.specs.GoodSheets.{ExactlyTheGood}
use Rattle.promise.proofs.Executor.{executor}
use Rattle.promise.proofs.Play.{finishes}
use Rattle.promise.proofs.LetThrough.{exactly_the_good}

-- A plan that the test says yes to is accepted.
pub yes_accepted : {p : Plan} {j : ℕ} → Tested p (answer.Yes j) → (check_of p).number ≡ 0
yes_accepted (tested ok few found) = ok

-- Whatever accepted events come, what is promised holds of each board that they reach.
pub yes_promised : {p : Plan} {j : ℕ} → Tested p (answer.Yes j) → {b : Board} {k : ℕ} → Run p b k → Promised p b k
yes_promised {p} t r = executor p (yes_accepted t) (yes_passes t) r

-- Whoever plays, all is done in at most as many events as there are points, and the verdict is kept.
pub yes_finishes : {p : Plan} {j : ℕ} → Tested p (answer.Yes j) → (x : Players p) → Finishes p x
yes_finishes {p} t x = finishes p (yes_accepted t) (yes_passes t) x

-- The sheets that the engine lets through are exactly the good ones.
pub yes_exactly_the_good : {p : Plan} {j : ℕ} → Tested p (answer.Yes j) → ExactlyTheGood p
yes_exactly_the_good {p} t = exactly_the_good p (yes_accepted t) (yes_passes t)
