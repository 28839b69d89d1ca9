-- Document 01, "Board, windows, replies", first half: what a board holds, and when it is sound; the last two clauses are those
-- of document 02, §7. What each clause asks of the clock, the done set and the minutes is said in `History` of `history`, what
-- it asks of the events' numbers in `Calls`. Assumes nothing.
use Rattle.std.specs.Prelude.{Bool, ◌&&◌, List, ℕ, ◌*◌, eqb, leb, replicate}
use Rattle.points.specs.Sets.{member, members_of, below_of, subset_of, count_of, from, every}
use Rattle.plan.specs.Limits.{most_points, farthest}
use Rattle.plan.specs.APlan.{points}
use Rattle.records.specs.declared.Record.{Record}
use Rattle.history.specs.History as history
use Rattle.history.specs.History.{minute_in, runs}
pub use Rattle.history.specs.History.{shortest, longest}
unfoldable pub use Rattle.history.specs.History.{each, largest}
use Rattle.board.specs.Calls.{earlier, well_numbered}
use Rattle.board.specs.declared.Board.{Board}

-- fresh: all zero
abbrev pub fresh : Board
fresh = record { clock = 0; done = 0; minutes = replicate most_points 0; calls = replicate most_points 0 }

abbrev pub is_done : Board → ℕ → Bool
is_done b p = member b.done p

abbrev pub minute : Board → ℕ → ℕ
minute b p = minute_in b.minutes p

-- a running link: A done, C not
abbrev pub running : Board → Record → Bool
running b l = runs b.done l

-- a point not done holds 0, and no minute is past the clock
abbrev pub fits : Board → ℕ → Bool
fits b p = history.fits b.clock b.done b.minutes p

-- where C is done, A is done and the duration is in bounds; a running link has A + y ≥ clock
abbrev pub in_bounds : Board → Record → Bool
in_bounds b l = history.in_bounds b.clock b.done b.minutes l

-- the board b is sound for the records rs, clause by clause
unfoldable pub sound : List Record → Board → Bool
sound rs b =
    subset_of b.done (below_of (points rs))
    && (every (fits b) (from 0 most_points)
    && (eqb b.clock (largest b.minutes (members_of b.done))
    && (each (in_bounds b) rs
    && (leb b.clock (farthest * count_of b.done)
    && (each (earlier b) rs
    && well_numbered rs b)))))
