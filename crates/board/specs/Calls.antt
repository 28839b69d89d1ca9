-- Document 02, §7, "Which call came when": the number of the event that did each point of a board, and what a sound board
-- has of them besides. What each clause asks of the done set, the minutes and the numbers is said in `Calls` of `calls`, and
-- of a link in `History` of `history`. Assumes nothing.
use Rattle.std.specs.Prelude.{Bool, List, ℕ, suc}
use Rattle.plan.specs.APlan.{watched}
use Rattle.records.specs.declared.Record.{Record}
use Rattle.history.specs.History as history
use Rattle.calls.specs.Calls as calls
unfoldable pub use Rattle.calls.specs.Calls.{numbered}
use Rattle.board.specs.declared.Board.{Board}

-- the number of the event that did a point
abbrev pub call : Board → ℕ → ℕ
call b p = calls.call_in b.calls p

-- a point not done holds 0; the numbers have no gaps; minutes never fall as they rise; the same minute for the same number;
-- at most one foreman's point for each number
abbrev pub well_numbered : List Record → Board → Bool
well_numbered rs b = numbered (watched rs) b.done b.minutes b.calls

-- a link's start is in an earlier event than its end
abbrev pub earlier : Board → Record → Bool
earlier b l = history.earlier b.done b.calls l

-- the largest number on the board, 0 where nothing is done
abbrev pub last_call : Board → ℕ
last_call b = calls.last_call b.done b.calls

-- the number of an event that is taken: one more than the largest on the board
abbrev pub next_call : Board → ℕ
next_call b = suc (last_call b)
