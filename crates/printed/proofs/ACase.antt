-- Worked inputs, computed by the checker: document 01's case 13, whole; a refused plan; an unfinished last record; no mark. Assumes nothing.
use mathlib.Core.Path.{◌≡◌, refl}
use mathlib.Core.List.{List, [], ◌∷◌, ◌++◌}
use Prim.Native.Nat.{ℕ}
use lib.Count.{ones}
use lib.ListN.{replicate, take, drop}
use Rattle.points.specs.Sets.{member, members_of, with_of, below_of, subset_of, from, every, passing}
use Rattle.records.specs.Bytes.{bytes_of, all_bytes, entries_in}
use Rattle.plan.specs.APlan.{how_many, some, first_that, place_from}
use Rattle.plan.specs.Haul.{a_point, haul}
use Rattle.plan.specs.PlanFile.{file_of}
use Rattle.plan.specs.ReplyNumbers.{read_with, check_with, first_bad_with, number_for_with, last_kind}
use Rattle.board.specs.Calls.{numbered}
use Rattle.board.specs.Boards.{sound, each, largest}
use Rattle.board.specs.Windows.{greatest, least, least_high}
use Rattle.board.specs.Events.{take_of, event_number, board_after, mark_all}
use Rattle.board.specs.Streams.{events_in, board_after_all}
use Rattle.replies.specs.Replies.{reply_of, state_of, outcome_of}
use Rattle.verdict.specs.Verdicts.{ended_of, verdict_of, first_broken}
use Rattle.lines.specs.Text.{digits, spelled, more_text}
use Rattle.values.specs.Ascii.{ascii}
use Rattle.vee.specs.PlanTest.{spans, spread, projections, many}
use Rattle.vee.specs.TestOf.{arcs, listed, at_once, passes, first_from, judge_of, test_from, test_of}
use Rattle.printed.specs.Texts.{until_mark, texts_of, event_lines, answer_lines, sheet_text, offers_text}

-- a record of sixteen bytes 255
mark : List ℕ
mark = replicate 16 255

-- events: 0 at 0, 1 at 12, {2} at 40, 3 at 43
day : List ℕ
day =
    (0 ∷ 0 ∷ 0 ∷ 0 ∷ 0 ∷ 0 ∷ 0 ∷ 0 ∷ 0 ∷ 0 ∷ 0 ∷ 0 ∷ 0 ∷ 0 ∷ 0 ∷ 0 ∷ [])
    ++ (12 ∷ 0 ∷ 0 ∷ 0 ∷ 1 ∷ 0 ∷ 0 ∷ 0 ∷ 0 ∷ 0 ∷ 0 ∷ 0 ∷ 0 ∷ 0 ∷ 0 ∷ 0 ∷ [])
    ++ (40 ∷ 0 ∷ 0 ∷ 0 ∷ 255 ∷ 0 ∷ 0 ∷ 0 ∷ 4 ∷ 0 ∷ 0 ∷ 0 ∷ 0 ∷ 0 ∷ 0 ∷ 0 ∷ [])
    ++ (43 ∷ 0 ∷ 0 ∷ 0 ∷ 3 ∷ 0 ∷ 0 ∷ 0 ∷ 0 ∷ 0 ∷ 0 ∷ 0 ∷ 0 ∷ 0 ∷ 0 ∷ 0 ∷ [])

-- one record, of kind 5
unknown : sheet_text ((5 ∷ 0 ∷ 0 ∷ 0 ∷ 0 ∷ 0 ∷ 0 ∷ 0 ∷ 0 ∷ 0 ∷ 0 ∷ 0 ∷ 0 ∷ 0 ∷ 0 ∷ 0 ∷ []) ++ (mark ++ day)) ≡ ascii "plan 4 0\n"
unfolding mark day until_mark events_in entries_in texts_of digits spelled more_text how_many some first_that read_with first_bad_with number_for_with last_kind
unknown = refl

-- case 13
case_13 : sheet_text (file_of haul ++ (mark ++ day)) ≡ ascii "0 0 0 1\n1 0 12 2\n2 0 40 3\n3 0 43 4\nend kept\n"
unfolding mark day bytes_of all_bytes until_mark events_in entries_in texts_of event_lines digits spelled more_text ones reply_of take_of event_number board_after mark_all board_after_all sound numbered each largest state_of outcome_of greatest least least_high first_broken ended_of verdict_of member members_of with_of below_of subset_of from every passing how_many some first_that place_from read_with check_with first_bad_with number_for_with last_kind
case_13 = refl

-- its first two events and five bytes of the third
cut : sheet_text (file_of haul ++ (mark ++ take 37 day)) ≡ ascii "0 0 0 1\n1 0 12 2\ntail\nend open\n"
unfolding mark day bytes_of all_bytes until_mark events_in entries_in texts_of event_lines digits spelled more_text ones reply_of take_of event_number board_after mark_all board_after_all sound numbered each largest state_of outcome_of greatest least least_high first_broken ended_of verdict_of member members_of with_of below_of subset_of from every passing how_many some first_that place_from read_with check_with first_bad_with number_for_with last_kind
cut = refl

-- no mark: no events, and an unfinished last record is the plan's
no_mark : sheet_text (bytes_of (a_point 0) ++ (7 ∷ [])) ≡ ascii "plan 2 0\n"
unfolding bytes_of until_mark events_in entries_in texts_of digits spelled more_text how_many some first_that read_with first_bad_with number_for_with last_kind
no_mark = refl

-- every reply, of one point: an event that is refused, one that is taken, and a byte more
replies : offers_text (bytes_of (a_point 0) ++ (mark ++ (take 16 (drop 32 day) ++ (take 16 day ++ (0 ∷ []))))) ≡ ascii "test yes 1\nboard 0 0 offers 100000\npoint 0 0 offered 0\nevent 0 23\nboard 0 0 offers 100000\npoint 0 0 offered 0\nevent 1 0\nboard 0 1 finished\ntail\nend kept\n"
unfolding mark day bytes_of all_bytes until_mark events_in entries_in texts_of answer_lines digits spelled more_text ones reply_of take_of event_number board_after mark_all board_after_all sound numbered each largest state_of outcome_of greatest least least_high first_broken ended_of verdict_of member members_of with_of below_of subset_of from every passing how_many some first_that place_from read_with check_with first_bad_with number_for_with last_kind test_of test_from judge_of first_from passes at_once listed arcs spans spread projections many
replies = refl
