-- Document 02, §7, "Which call came when": what the numbers on a board say of the accepted events that led to it, and that a
-- refused event changes none. Assumes nothing.
use Rattle.std.specs.Prelude.{◌≡◌, Bool, true, false, not, ◌&&◌, ◌||◌, List, ℕ, suc, ◌<◌, eqb}
use Rattle.points.specs.Sets.{member}
use Rattle.plan.specs.Limits.{most_points}
use Rattle.plan.specs.declared.Plan.{Plan}
use Rattle.board.specs.Boards.{is_done}
use Rattle.board.specs.Calls.{call, last_call}
use Rattle.board.specs.Events.{event_point, event_set, no_point, take_of}
use Rattle.board.specs.declared.Board.{Board}
use Rattle.promise.specs.Runs.{Run, start, next}

-- the event s has the point q, in its set or as the foreman's point
abbrev pub has_point : List ℕ → ℕ → Bool
has_point s q = member (event_set s) q || (not (eqb (event_point s) no_point) && eqb q (event_point s))

-- of the accepted events of a run, the one at place j, from 1, did the point q
unfoldable pub did : {p : Plan} {b : Board} {k : ℕ} → Run p b k → ℕ → ℕ → Bool
did start j q = false
did (next {b} {k} s r h e) j q = (eqb j (suc k) && has_point s q) || did r j q

-- what the numbers on the board b say, which the run r of k accepted events leads to
pub record WhichCall (p : Plan) (b : Board) (k : ℕ) (r : Run p b k) : Type 0 where
  -- the largest number is that of the events
  pub largest : last_call b ≡ k
  -- a done point's number is the place, from 1, of the event that did it
  pub place : (q : ℕ) → q < most_points → is_done b q ≡ true → did r (call b q) q ≡ true
  -- and of no other event
  pub only : (q j : ℕ) → q < most_points → did r j q ≡ true → (is_done b q ≡ true) × (call b q ≡ j)
  -- two done points share a number where one event did both, and only there
  pub share : (q v j : ℕ) → q < most_points → v < most_points → did r j q ≡ true → did r j v ≡ true → call b q ≡ call b v
  pub shared : (q v : ℕ) → q < most_points → v < most_points → is_done b q ≡ true → is_done b v ≡ true → call b q ≡ call b v
      → (j : ℕ) × (did r j q ≡ true) × (did r j v ≡ true)

-- a refused event changes no number
abbrev pub RefusedChangesNone : Plan → Board → List ℕ → Type 0
RefusedChangesNone p b s = ((take_of p b s).number ≡ 0 → ⊥) → (take_of p b s).board.calls ≡ b.calls
