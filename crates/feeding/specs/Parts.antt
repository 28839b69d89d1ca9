-- What the parts of the printing programs leave in the rooms that are lent, whatever these hold. Assumes nothing.
use Rattle.std.specs.Prelude.{◌≡◌, ℕ, ◌+◌, ◌*◌, ◌/◌, ◌%◌, ◌^◌, ◌≤◌, Bool, true, false, List, [], ◌∷◌, ◌++◌, length, take, drop, ◌==◌, ◌≢◌, if◌then◌else◌}
use Rattle.plan.specs.ReplyNumbers.{Reading, number_in, place_in, plan_in}
use Rattle.plan.specs.Limits.{most_points, record_bytes}
use Rattle.plan.specs.declared.Plan.{Plan}
use Rattle.links.specs.declared.Links.{Links}
use Rattle.board.specs.Streams.{events_in}
use Rattle.board.specs.declared.Board.{Board}
use Rattle.engine.specs.Takes.{BoardIn}
use Rattle.rooms.specs.Filling.{BeginsWith}
use Rattle.rooms.specs.declared.Started.{Started}
use Rattle.vee.specs.TestOf.{test_of}
use Rattle.lines.specs.Text.{room}
use Rattle.lines.specs.Inside.{text_in}
use Rattle.text.specs.Lines.{plan_line, test_line, tail_line, end_line}
use Rattle.places.specs.Places.{ForEach, pond_at}
use Rattle.stream.specs.Buffers.{appended}
use Rattle.stream.specs.Sheets.{is_mark, read_front}
use Rattle.printed.specs.Texts.{until_mark}
use Rattle.saying.specs.Makes.{Made, BoardMade}
use Rattle.feeding.specs.declared.front.Part.{Part}
use Rattle.feeding.specs.declared.begun.Begun.{Begun}

-- ---- the plan part

-- some records behind the first n bytes of a room, each as far as it fits
pub data Fronted (room₀ : List ℕ) (n : ℕ) : List (List ℕ) → List ℕ → Type 0 where
  none : Fronted room₀ n [] room₀
  more : {ss : List (List ℕ)} {room : List ℕ} (s : List ℕ) → Fronted room₀ n ss room
      → Fronted room₀ n (ss ++ (s ∷ [])) (appended room ((n + record_bytes * length ss) % 2 ^ 64) s)

-- the whole records of a piece, up to the mark; n bytes came before
pub record PlanKept (front₀ : List ℕ) (n : ℕ) (input front : List ℕ) (r : Part) : Type 0 where
  pub count : ℕ
  pub within : record_bytes * count ≤ length input
  pub unmarked : until_mark (events_in count input) ≡ count
  pub kept : Fronted front₀ n (events_in count input) front
  pub long : r.length ≡ (n + record_bytes * count) % 2 ^ 64
  pub marked : r.marked ≡ true
      → (record_bytes * count + record_bytes ≤ length input) × (is_mark (take record_bytes (drop (record_bytes * count) input)) ≡ true) × (r.used ≡ record_bytes * count + record_bytes)
  pub all : r.marked ≡ false → (count ≡ length input / record_bytes) × (r.used ≡ record_bytes * count)

-- ---- the plan is read

-- in full, the plan test and the fresh board; else nothing
abbrev pub FirstText : Bool → Plan → Links → List ℕ → List ℕ → List ℕ → List ℕ → List ℕ → Type 0
FirstText false p l ponds rows out kept text = text ≡ []
FirstText true p l ponds rows out kept text =
    (more : List ℕ) × (BoardMade l ponds rows out kept more) × (text ≡ text_in (test_line (test_of p)) ++ more)

pub record FirstPut (full : Bool) (p : Plan) (l : Links) (ponds rows out kept lines₀ lines : List ℕ) (end : ℕ) : Type 0 where
  pub text : List ℕ
  pub first : FirstText full p l ponds rows out kept text
  pub made : Made lines₀ 0 text lines end

-- n bytes of a plan part have come, the first of which stand in the front room
pub record PlanBegun (full : Bool) (n : ℕ) (front rows₀ into₀ out₀ ends₀ kept₀ lines₀ rows into out ends kept lines : List ℕ) (r : Begun) : Type 0 where
  pub started : Started
  pub begins : BeginsWith (plan_in (read_front n front)) started rows₀ into₀ out₀ ends₀ kept₀ rows into out ends kept
  pub number : r.number ≡ number_in (read_front n front)
  pub links : r.links ≡ started.links
  pub ponds : ForEach (pond_at (plan_in (read_front n front))) 0 most_points r.ponds
  pub refused : (r.number ≢ 0) → Made lines₀ 0 (text_in (plan_line (number_in (read_front n front)) (place_in (read_front n front)))) lines r.end
  pub read : r.number ≡ 0 → FirstPut full (plan_in (read_front n front)) r.links r.ponds rows out kept lines₀ lines r.end

-- the same of what a plan part was read to: whatever bytes read to it
pub record ReadBegun (full : Bool) (reading : Reading) (rows₀ into₀ out₀ ends₀ kept₀ lines₀ rows into out ends kept lines : List ℕ) (r : Begun) : Type 0 where
  pub plan : (n : ℕ) (front : List ℕ) → reading ≡ read_front n front → PlanBegun full n front rows₀ into₀ out₀ ends₀ kept₀ lines₀ rows into out ends kept lines r

-- ---- the end

-- tail where n bytes of an unfinished record are left
abbrev pub tail_text : ℕ → List ℕ
tail_text n = if n == 0 then [] else text_in tail_line

pub record TailPut (n : ℕ) (lines₀ : List ℕ) (at : ℕ) (lines : List ℕ) (end : ℕ) : Type 0 where
  pub made : Made lines₀ at (tail_text n) lines end
  pub few : end ≤ at + room

-- and how the sheet of a plan ends
pub record EndPut (p : Plan) (kept : List ℕ) (left : ℕ) (lines₀ : List ℕ) (at : ℕ) (lines : List ℕ) (end : ℕ) : Type 0 where
  pub board : Board
  pub holds : BoardIn kept board
  pub made : Made lines₀ at (tail_text left ++ text_in (end_line p board)) lines end

-- the same of the plan that stands in the front room
pub record LastPut (n : ℕ) (front kept : List ℕ) (left : ℕ) (lines₀ : List ℕ) (at : ℕ) (lines : List ℕ) (end : ℕ) : Type 0 where
  pub board : Board
  pub holds : BoardIn kept board
  pub made : Made lines₀ at (tail_text left ++ text_in (end_line (plan_in (read_front n front)) board)) lines end
