-- Text in a room of lines, and what is made of an event and of a board from the engine's rooms, which may hold any numbers. Assumes nothing.
use Rattle.std.specs.Prelude.{◌≡◌, ℕ, ◌+◌, ◌*◌, ◌/◌, ◌%◌, ◌^◌, ◌<◌, ◌≤◌, min, Bool, true, false, ◌⊎◌, List, [], ◌∷◌, ◌++◌, map, length, take, drop, if◌then◌else◌}
use Rattle.points.specs.Sets.{from}
use Rattle.plan.specs.Limits.{most_points, record_bytes}
use Rattle.plan.specs.declared.Refusal.{Refusal}
use Rattle.links.specs.declared.Links.{Links}
use Rattle.board.specs.Streams.{events_in}
use Rattle.board.specs.declared.Board.{Board}
use Rattle.replies.specs.declared.Reply.{Reply}
use Rattle.engine.specs.Takes.{BoardIn, TakesWith, RepliesWith}
use Rattle.text.specs.Lines.{reply_line, board_line}
use Rattle.lines.specs.Text.{room}
use Rattle.lines.specs.Inside.{text_in}
use Rattle.lines.specs.declared.Line.{Line}
use Rattle.places.specs.Places.{has_list, kept_line, line_at}
use Rattle.printed.specs.Texts.{texts_of}
use Rattle.saying.specs.declared.putting.Said.{Said}

-- a text stands behind the first `at` bytes of a room, and ends at `end`; every other byte is as it was
pub record Made (room₀ : List ℕ) (at : ℕ) (text room : List ℕ) (end : ℕ) : Type 0 where
  pub place : end ≡ at + length text
  pub front : take end room ≡ take at room₀ ++ text
  pub rest : drop end room ≡ drop end room₀
  pub long : length room ≡ length room₀

-- the most that is made at once: the line of an event or of the plan test, the board, a line for each point, and the end
abbrev pub most_made : ℕ
most_made = room * (most_points + 3)

-- the lines of a board: what it is, and a line for each point that the links have
abbrev pub lines_by : Links → List ℕ → List ℕ → Board → Reply → List Line
lines_by l ponds rows b r =
    board_line b r ∷ (if has_list r.outcome then map (line_at rows ponds r) (from 0 (min l.points most_points)) else [])

-- what is made of the board that the rooms hold
pub record BoardMade (l : Links) (ponds rows out kept text : List ℕ) : Type 0 where
  pub board : Board
  pub holds : BoardIn kept board
  pub reply : Reply
  pub replies : RepliesWith l rows out kept reply
  pub lines : text ≡ texts_of (lines_by l ponds rows board reply)

-- what is made of event k, s its bytes: one line; or, in full, its number, and what the board is then
abbrev pub EventText : Bool → Links → List ℕ → List ℕ → List ℕ → ℕ → Refusal → List ℕ → List ℕ → Type 0
EventText false l ponds rows out k found kept text = text ≡ text_in (kept_line kept k found.number)
EventText true l ponds rows out k found kept text =
    (more : List ℕ) × (BoardMade l ponds rows out kept more) × (text ≡ text_in (reply_line k found.number found.place) ++ more)

pub record EventMade (full : Bool) (l : Links) (ponds rows into out ends kept₀ : List ℕ) (k : ℕ) (s kept text : List ℕ) : Type 0 where
  pub found : Refusal
  pub takes : TakesWith l rows into out ends kept₀ s found kept
  pub told : EventText full l ponds rows out k found kept text

-- some events one after the other, from the room kept₀ and the number k on, and the text of them all
pub data EventsMade (full : Bool) (l : Links) (ponds rows into out ends kept₀ : List ℕ) (k : ℕ) : List (List ℕ) → List ℕ → List ℕ → Type 0 where
  none : EventsMade full l ponds rows into out ends kept₀ k [] kept₀ []
  more : {ss : List (List ℕ)} {s kept kept' text text' : List ℕ} → EventsMade full l ponds rows into out ends kept₀ k ss kept text
      → EventMade full l ponds rows into out ends kept ((k + length ss) % 2 ^ 64) s kept' text'
      → EventsMade full l ponds rows into out ends kept₀ k (ss ++ (s ∷ [])) kept' (text ++ text')

-- ---- what the functions leave in the room of lines

-- of the board that the rooms hold
pub record BoardPut (l : Links) (ponds rows out kept lines₀ : List ℕ) (at : ℕ) (lines : List ℕ) (end : ℕ) : Type 0 where
  pub text : List ℕ
  pub board : BoardMade l ponds rows out kept text
  pub made : Made lines₀ at text lines end
  pub few : end ≤ at + room * (most_points + 1)

-- of an event
pub record EventPut (full : Bool) (l : Links) (ponds rows into out ends kept₀ : List ℕ) (k : ℕ) (s lines₀ : List ℕ) (at : ℕ) (kept lines : List ℕ) (end : ℕ) : Type 0 where
  pub text : List ℕ
  pub event : EventMade full l ponds rows into out ends kept₀ k s kept text
  pub made : Made lines₀ at text lines end
  pub few : end ≤ at + most_made

-- of the whole records of some bytes: all of them, or as many as there was room for
pub record EventsPut (full : Bool) (l : Links) (ponds rows into out ends kept₀ bytes : List ℕ) (k : ℕ) (lines₀ : List ℕ) (at : ℕ) (kept lines : List ℕ) (r : Said) : Type 0 where
  pub count : ℕ
  pub text : List ℕ
  pub used : r.used ≡ record_bytes * count
  pub within : record_bytes * count ≤ length bytes
  pub number : r.events ≡ (k + count) % 2 ^ 64
  pub events : EventsMade full l ponds rows into out ends kept₀ k (events_in count bytes) kept text
  pub made : Made lines₀ at text lines r.end
  pub stops : (count ≡ length bytes / record_bytes) ⊎ (length lines₀ < r.end + most_made)
