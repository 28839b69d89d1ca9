-- What is promised of calendars beside the text itself, in the words of document 02, §10; proofs/Theorems has the proofs.
-- Definitions only; assumes nothing.
use Rattle.std.specs.Prelude.{◌≡◌, Ok, Bool, true, ◌&&◌, List, [], ◌∷◌, ◌++◌, ℕ, ◌^◌, ◌≤◌, ◌<◌, leb, pos, length, get_or, replicate}
use Rattle.numbers.specs.Fits.{All}
use Rattle.values.specs.Ascii.{ascii}
use Rattle.plan.specs.Limits.{most_points}
use Rattle.plan.specs.APlan.{points, blank, records_of}
use Rattle.plan.specs.ReplyNumbers.{check_of}
use Rattle.plan.specs.Held.{HeldPlan}
use Rattle.plan.specs.declared.Plan.{Plan}
use Rattle.records.specs.declared.Record.{Record}
use Rattle.board.specs.Boards.{minute}
use Rattle.board.specs.declared.Board.{Board}
use Rattle.verdict.specs.Verdicts.{ended_of}
use Rattle.dates.specs.Gregorian.{is_origin}
use Rattle.dates.specs.declared.Stamp.{Stamp}
use Rattle.moments.specs.Event.{line, uid_line, start_line, summary_line}
use Rattle.calendar.specs.Calendars.{moment_of, calendar_text, text_length, most_text, calendar_of}

-- "none exceeds 75 octets"
abbrev pub most_octets : ℕ
most_octets = 75

-- characters that are seen, and spaces: no line ends within
unfoldable pub all_plain : List ℕ → Bool
all_plain [] = true
all_plain (c ∷ s) = (leb 32 c && leb c 126) && all_plain s

-- one line, without its CR LF
pub record IsLine (l : List ℕ) : Type 0 where
  pub few : length l ≤ most_octets
  pub plain : all_plain l ≡ true

-- lines, each with its CR LF
unfoldable pub lines_text : List (List ℕ) → List ℕ
lines_text [] = []
lines_text (l ∷ ls) = line l ++ lines_text ls

-- the text is lines
pub record OfLines (text : List ℕ) : Type 0 where
  pub lines : List (List ℕ)
  pub each : All IsLine lines
  pub same : text ≡ lines_text lines

-- "lines end in CR LF and none exceeds 75 octets", whatever the board, the codes and the origin
abbrev pub ShortLines : Type 0
ShortLines = (rs : List Record) (b : Board) (origin : Stamp) → OfLines (calendar_text rs b origin)

-- the UIDs of one calendar are all different: the number before the hyphen says the point, whatever the moments
abbrev pub DifferentUids : Type 0
DifferentUids = (p q : ℕ) (m m' : List ℕ) → p < 2 ^ 32 → q < 2 ^ 32 → uid_line p m ≡ uid_line q m' → p ≡ q

-- the length of the whole text is what the plan alone says
abbrev pub LengthOfText : Type 0
LengthOfText = (rs : List Record) (b : Board) (origin : Stamp) → length (calendar_text rs b origin) ≡ text_length rs

-- a buffer of `most_text` bytes is enough for every sheet
abbrev pub Enough : Type 0
Enough = (p : Plan) (b : Board) (origin : Stamp) (out : List ℕ) → HeldPlan p → (ended_of p b).number ≡ 0 → is_origin origin ≡ true
    → most_text ≤ length out → calendar_of p b origin out ≡ Ok (text_length (records_of p))

-- 32 points with the longest pond codes, whose text is as long as a text can be
abbrev pub fullest : List Record
fullest = replicate most_points (record { kind = 1; a = 0; b = 0; first = pos 0; second = pos 0; code = 4_294_967_295 })

abbrev pub ReachesMost : Type 0
ReachesMost = text_length fullest ≡ most_text

-- two points that were done at different minutes never show the same DTSTART
abbrev pub DifferentStarts : Type 0
DifferentStarts = (p : Plan) (b : Board) (origin : Stamp) → (ended_of p b).number ≡ 0 → is_origin origin ≡ true
    → (i j : ℕ) → i < points (records_of p) → j < points (records_of p)
    → start_line (moment_of b origin i) ≡ start_line (moment_of b origin j) → minute b i ≡ minute b j

-- a record of point i
pub record IsPoint (r : Record) (i : ℕ) : Type 0 where
  pub kind : r.kind ≡ 1
  pub number : r.a ≡ i

-- "the pond code": a plan's first records are its points, in point order, so record i has point i's code
abbrev pub PointsFirst : Type 0
PointsFirst = (p : Plan) → (check_of p).number ≡ 0 → (i : ℕ) → i < points (records_of p) → IsPoint (get_or (records_of p) i blank) i

-- the longest line but for PRODID's, which is as long: 27 octets and CR LF
abbrev pub longest_summary : List ℕ
longest_summary = summary_line 31 4_294_967_295

abbrev pub LongestLine : Type 0
LongestLine =
    (length longest_summary ≡ 29) × (length (line (ascii "PRODID:-//Ponds//Sheets//EN")) ≡ 29)
    × ((p code : ℕ) → p < most_points → code < 2 ^ 32 → length (summary_line p code) ≤ length longest_summary)
