-- What the engine that keeps counts answers from its rooms: the board, an event's number and the room after it, and the reply. The rooms
-- may hold any numbers; l are the links that are handed in, s the event's bytes. Assumes nothing.
use Rattle.std.specs.Prelude.{◌≡◌, List, ℕ, ◌+◌, ◌^◌, ◌<◌, eqb, length, get_or, if◌then◌else◌}
use Rattle.plan.specs.Limits.{most_points}
use Rattle.plan.specs.declared.Refusal.{Refusal}
use Rattle.links.specs.declared.Links.{Links}
use Rattle.events.specs.Fields.{event_set}
use Rattle.events.specs.Inside.{event_in}
use Rattle.windows.specs.declared.Windows.{Windows}
use Rattle.board.specs.declared.Board.{Board}
use Rattle.replies.specs.declared.Reply.{Reply}
use Rattle.planless.specs.ByWindows.{number_by, with_record}
use Rattle.replies.specs.ByWindows.{reply_by}
use Rattle.kept.specs.Rooms.{minutes_at, calls_at, clock_at, done_at, event_done_by}
use Rattle.kept_windows.specs.Answers.{Answered}

-- t has the numbers of the room from the place `at` on, one for each point
pub record TableAt (kept : List ℕ) (at : ℕ) (t : List ℕ) : Type 0 where
  pub long : length t ≡ most_points
  pub each : (q : ℕ) → q < most_points → get_or t q 0 ≡ get_or kept (at + q) 0

-- the board that the room holds
pub record BoardIn (kept : List ℕ) (b : Board) : Type 0 where
  pub clock : b.clock ≡ get_or kept clock_at 0
  pub done : b.done ≡ get_or kept done_at 0
  pub minutes : TableAt kept minutes_at b.minutes
  pub calls : TableAt kept calls_at b.calls

-- the number of an event and the record beside it, from the board and the windows that the rooms hold
pub record NumbersWith (l : Links) (rows out kept s : List ℕ) (r : Refusal) : Type 0 where
  pub board : Board
  pub holds : BoardIn kept board
  pub windows : Windows
  pub answers : Answered rows out kept l.points l.watched windows
  pub found : r ≡ with_record l board.done windows s (number_by l board.clock board.done board.minutes windows s)

-- and the room after it: a refused event leaves every number as it was
pub record TakesWith (l : Links) (rows into out ends kept₀ s : List ℕ) (r : Refusal) (kept : List ℕ) : Type 0 where
  pub numbers : NumbersWith l rows out kept₀ s r
  pub fits : r.number ≡ 0 → event_set s < 2 ^ 32
  pub after : kept ≡ (if eqb r.number 0 then event_done_by rows into out ends (event_in s) kept₀ else kept₀)

-- the reply
pub record RepliesWith (l : Links) (rows out kept : List ℕ) (r : Reply) : Type 0 where
  pub board : Board
  pub holds : BoardIn kept board
  pub windows : Windows
  pub answers : Answered rows out kept l.points l.watched windows
  pub found : r ≡ reply_by l board windows
