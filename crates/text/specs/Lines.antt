-- Document 01, "The printing program": each line that the programs print, from what it tells. Assumes nothing.
use Rattle.std.specs.Prelude.{List, [], ◌∷◌, ℕ, ◌+◌, eqb, ℤ, pos, negsuc, if◌then◌else◌}
use Rattle.records.specs.Records.{ordinary, wait, is}
use Rattle.records.specs.declared.Record.{Record}
use Rattle.points.specs.Sets.{count_of}
use Rattle.plan.specs.declared.Plan.{Plan}
use Rattle.replies.specs.Replies.{reply_of}
use Rattle.verdict.specs.Verdicts.{verdict_of}
use Rattle.board.specs.declared.Board.{Board}
use Rattle.board.specs.declared.Taken.{Taken}
use Rattle.replies.specs.declared.Reply.{Reply}
use Rattle.replies.specs.declared.Place.{Place}
use Rattle.replies.specs.declared.State.{State}
use Rattle.replies.specs.declared.State.TheVariants as state
use Rattle.replies.specs.declared.Outcome.{Outcome}
use Rattle.replies.specs.declared.Outcome.TheVariants as outcome
use Rattle.verdict.specs.declared.Verdict.{Verdict}
use Rattle.verdict.specs.declared.Verdict.TheVariants as verdict
use Rattle.vee.specs.declared.Answer.{Answer}
use Rattle.vee.specs.declared.Answer.TheVariants as answer
use Rattle.text.specs.Words.{plan_word, tail_word, end_word, kept_word, broken_word, stuck_word, open_word, test_word, yes_word, cycle_word, pair_word, event_word, board_word, finished_word, waiting_word, offers_word, point_word, done_word, watched_word, shut_word, held_word, offered_word, refused_word, ordinary_word, wait_word}
use Rattle.lines.specs.Text.{said}
use Rattle.lines.specs.declared.Line.{Line}
use Rattle.lines.specs.declared.Piece.{Piece}
use Rattle.lines.specs.declared.Piece.TheVariants.{Name, Number, Below}

-- plan NUMBER RECORD: a refused plan
abbrev pub plan_line : ℕ → ℕ → Line
plan_line n i = said (Name plan_word) (Number n ∷ Number i ∷ [])

-- four numbers
abbrev pub numbers_line : ℕ → ℕ → ℕ → ℕ → Line
numbers_line a b c d = said (Number a) (Number b ∷ Number c ∷ Number d ∷ [])

-- EVENT NUMBER CLOCK COUNT: the count is the number of ones in the set of the board handed back
abbrev pub event_line : ℕ → Taken → Line
event_line k t = numbers_line k t.number t.board.clock (count_of t.board.done)

-- the number of a record and what stands behind it; nothing for 0, which is no such record's
abbrev pub record_at : ℕ → List Piece → List Piece
record_at n ps = if eqb n 0 then [] else Number n ∷ ps

-- event K NUMBER, and the record that the number names
abbrev pub reply_line : ℕ → ℕ → ℕ → Line
reply_line k n i = said (Name event_word) (Number k ∷ Number n ∷ record_at i [])

-- test yes N, test cycle P, test pair P X Y, test NUMBER
abbrev pub test_line : Answer → Line
test_line (answer.Yes n) = said (Name test_word) (Name yes_word ∷ Number n ∷ [])
test_line (answer.Cycle p) = said (Name test_word) (Name cycle_word ∷ Number p ∷ [])
test_line (answer.Pair p x y) = said (Name test_word) (Name pair_word ∷ Number p ∷ Number x ∷ Number y ∷ [])
test_line (answer.Refused n i) = said (Name test_word) (Number n ∷ [])

-- what stands behind the clock and the count of a board
abbrev pub outcome_pieces : Outcome → ℕ → List Piece
outcome_pieces outcome.Finished latest = Name finished_word ∷ []
outcome_pieces outcome.Stuck latest = Name stuck_word ∷ []
outcome_pieces outcome.Waiting latest = Name waiting_word ∷ []
outcome_pieces outcome.Offers latest = Name offers_word ∷ Number latest ∷ []
outcome_pieces (outcome.Refused n i) latest = Name refused_word ∷ Number n ∷ []

-- board CLOCK COUNT and what the board is: the count is the number of ones in its set
abbrev pub board_line : Board → Reply → Line
board_line b r =
    said (Name board_word) (Number b.clock ∷ Number (count_of b.done) ∷ outcome_pieces r.outcome r.latest)

-- a signed number
abbrev pub signed_piece : ℤ → Piece
signed_piece (pos n) = Number n
signed_piece (negsuc n) = Below (n + 1)

-- a record as a listing has it: ordinary X D Y, wait V C W; no other kind keeps a point shut
abbrev pub record_pieces : Record → List Piece
record_pieces r =
    if is ordinary r then Name ordinary_word ∷ Number r.a ∷ signed_piece r.first ∷ Number r.b ∷ []
    else (if is wait r then Name wait_word ∷ Number r.a ∷ Number r.b ∷ signed_piece r.first ∷ []
    else [])

-- what a reply says of a point, which the record r keeps shut where one does
abbrev pub state_pieces : State → Record → List Piece
state_pieces (state.Done m) r = Name done_word ∷ Number m ∷ []
state_pieces state.Watched r = Name watched_word ∷ []
state_pieces (state.Shut n) r = Name shut_word ∷ record_at n (record_pieces r)
state_pieces state.Held r = Name held_word ∷ []
state_pieces (state.Offered low) r = Name offered_word ∷ Number low ∷ []

-- point I POND and that
abbrev pub point_line : ℕ → ℕ → Place → Record → Line
point_line i pond p r = said (Name point_word) (Number i ∷ Number pond ∷ state_pieces p.state r)

-- tail: an unfinished last record
abbrev pub tail_line : Line
tail_line = said (Name tail_word) []

-- end and a word
abbrev pub end_with : ℕ → Line
end_with w = said (Name end_word) (Name w ∷ [])

-- end kept, end broken N
abbrev pub verdict_line : Verdict → Line
verdict_line verdict.Kept = end_with kept_word
verdict_line (verdict.Broken n) = said (Name end_word) (Name broken_word ∷ Number n ∷ [])
verdict_line (verdict.Refused n i) = end_with open_word

-- a finished board ends by its verdict; a stuck one is stuck; any other is open
abbrev pub end_for : Outcome → Verdict → Line
end_for outcome.Finished v = verdict_line v
end_for outcome.Stuck v = end_with stuck_word
end_for outcome.Waiting v = end_with open_word
end_for outcome.Offers v = end_with open_word
end_for (outcome.Refused n i) v = end_with open_word

-- how a sheet ends
abbrev pub end_line : Plan → Board → Line
end_line p b = end_for (reply_of p b).outcome (verdict_of p b)
