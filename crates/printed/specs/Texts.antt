-- Document 01, "The printing program", whole: `sheet_text`, from all bytes of the input to all bytes of the output; and `offers_text`, the same
-- for the program that prints every reply. Each line is a definition of `text`; what an event does is `take_of`, what a board is `reply_of`.
-- Assumes nothing.
use Rattle.std.specs.Prelude.{Bool, not, List, [], ◌∷◌, ◌++◌, map, ℕ, suc, ◌*◌, ◌/◌, ◌%◌, eqb, ltb, length, take, drop, get_or, Ok, Err, if◌then◌else◌}
use Rattle.points.specs.Sets.{from}
use Rattle.plan.specs.Limits.{record_bytes}
use Rattle.plan.specs.APlan.{points, blank, records_of}
use Rattle.plan.specs.ReplyNumbers.{Reading, read_of}
use Rattle.plan.specs.declared.Plan.{Plan}
use Rattle.board.specs.Boards.{fresh}
use Rattle.board.specs.Events.{take_of}
use Rattle.board.specs.Streams.{events_in, board_after_all}
use Rattle.board.specs.declared.Board.{Board}
use Rattle.replies.specs.Replies.{reply_of}
use Rattle.replies.specs.declared.Reply.{Reply}
use Rattle.vee.specs.TestOf.{test_of}
use Rattle.lines.specs.Inside.{text_in}
use Rattle.lines.specs.declared.Line.{Line}
use Rattle.text.specs.Lines.{plan_line, event_line, reply_line, test_line, board_line, point_line, tail_line, end_line}
use Rattle.places.specs.Places.{has_list, nowhere, pond_at, named_by}
use Rattle.stream.specs.Sheets.{is_mark}

-- ---- the input

-- the whole records of some bytes, sixteen bytes each
abbrev pub whole_in : List ℕ → List (List ℕ)
whole_in bytes = events_in (length bytes / record_bytes) bytes

-- the last record is unfinished
abbrev pub unfinished : List ℕ → Bool
unfinished bytes = not (eqb (length bytes % record_bytes) 0)

-- how many of some records come before the first of sixteen bytes 255; all, where none is
unfoldable pub until_mark : List (List ℕ) → ℕ
until_mark [] = 0
until_mark (r ∷ rs) = if is_mark r then 0 else suc (until_mark rs)

-- the plan file: what comes before that record, or everything
abbrev pub plan_part : List ℕ → List ℕ
plan_part bytes =
    if ltb (until_mark (whole_in bytes)) (length (whole_in bytes)) then take (record_bytes * until_mark (whole_in bytes)) bytes
    else bytes

-- the event records: what comes behind it, and nothing where there is none
abbrev pub event_part : List ℕ → List ℕ
event_part bytes = drop (record_bytes * suc (until_mark (whole_in bytes))) bytes

-- ---- the output

-- the text of some lines
unfoldable pub texts_of : List Line → List ℕ
texts_of [] = []
texts_of (l ∷ ls) = text_in l ++ texts_of ls

-- a line for each event, from number k and the board b on; the next goes on from the board that is handed back
unfoldable pub event_lines : Plan → ℕ → Board → List (List ℕ) → List Line
event_lines p k b [] = []
event_lines p k b (s ∷ ss) = event_line k (take_of p b s) ∷ event_lines p (suc k) (take_of p b s).board ss

-- tail for an unfinished last record; then how the sheet ends
abbrev pub end_lines : Plan → List ℕ → List Line
end_lines p events =
    (if unfinished events then tail_line ∷ [] else []) ++ (end_line p (board_after_all p fresh (whole_in events)) ∷ [])

-- all lines of a plan and its events
abbrev pub sheet_of : Plan → List ℕ → List Line
sheet_of p events = event_lines p 0 fresh (whole_in events) ++ end_lines p events

-- a refused plan prints only plan NUMBER RECORD; `lines` are those of a plan that is read
abbrev pub read_lines : (Plan → List ℕ → List Line) → Reading → List ℕ → List Line
read_lines lines (Ok p) events = lines p events
read_lines lines (Err x) events = plan_line x.number x.place ∷ []

abbrev pub lines_for : (Plan → List ℕ → List Line) → List ℕ → List Line
lines_for lines bytes = read_lines lines (read_of (plan_part bytes)) (event_part bytes)

-- THE PRINTING PROGRAM
abbrev pub sheet_lines : List ℕ → List Line
sheet_lines bytes = lines_for sheet_of bytes

abbrev pub sheet_text : List ℕ → List ℕ
sheet_text bytes = texts_of (sheet_lines bytes)

-- ---- every reply

-- point I, its pond, and what the reply says of it, with the record that keeps it shut
abbrev pub place_line : Plan → Reply → ℕ → Line
place_line p r i =
    point_line i (pond_at p i) (get_or r.places i nowhere) (get_or (records_of p) (named_by (get_or r.places i nowhere).state) blank)

-- what a board is, and a line for each point, where there is a list
abbrev pub reply_lines : Plan → Board → Reply → List Line
reply_lines p b r = board_line b r ∷ (if has_list r.outcome then map (place_line p r) (from 0 (points (records_of p))) else [])

abbrev pub board_lines : Plan → Board → List Line
board_lines p b = reply_lines p b (reply_of p b)

-- for each event its number and the record beside it, and what the board is that is handed back
unfoldable pub answer_lines : Plan → ℕ → Board → List (List ℕ) → List Line
answer_lines p k b [] = []
answer_lines p k b (s ∷ ss) =
    (reply_line k (take_of p b s).number (take_of p b s).place ∷ board_lines p (take_of p b s).board)
    ++ answer_lines p (suc k) (take_of p b s).board ss

-- all lines of a plan and its events: the plan test, the fresh board, each event, the end
abbrev pub offers_of : Plan → List ℕ → List Line
offers_of p events =
    test_line (test_of p) ∷ (board_lines p fresh ++ (answer_lines p 0 fresh (whole_in events) ++ end_lines p events))

-- THE PROGRAM THAT PRINTS EVERY REPLY
abbrev pub offers_lines : List ℕ → List Line
offers_lines bytes = lines_for offers_of bytes

abbrev pub offers_text : List ℕ → List ℕ
offers_text bytes = texts_of (offers_lines bytes)
