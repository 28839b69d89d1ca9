-- What is printed of a plan with a yes ends in `end kept` or `end open`. Assumes nothing.
use mathlib.Core.Path.{◌≡◌, refl, sym, ap, ◌∙◌}
use mathlib.Core.Bool.{Bool, true, false, not}
use mathlib.Core.Logic.{◌⊎◌, inl, inr}
use mathlib.Core.List.{List, [], ◌∷◌, ◌++◌, map, append_assoc}
use Prim.Native.Nat.{ℕ, zero, suc, ◌*◌, ◌/◌, ◌%◌}
use native.Mathlib.Omega.{arith}
use lib.Dec.{eqb, ltb}
use lib.ListN.{length, take, drop}
use borrow.Author.Tests.{eq-eqb}
use Rattle.records.proofs.Entries.{all_take, all_drop}
use Rattle.std.specs.Prelude.{Ok, Err, if◌then◌else◌}
use Rattle.records.specs.declared.Record.{Record}
use Rattle.plan.specs.Limits.{most_records, record_bytes}
use Rattle.plan.specs.APlan.{plan_of}
use Rattle.plan.specs.PlanFile.{Entry, entries_in}
use Rattle.plan.specs.Held.{All, IsByte}
use Rattle.plan.specs.ReplyNumbers.{Reading, plan_in, read_of, check_of, check_with}
use Rattle.plan.specs.declared.Plan.{Plan}
use Rattle.board.specs.Boards.{fresh}
use Rattle.board.specs.Events.{take_of}
use Rattle.board.specs.Streams.{events_in, board_after_all}
use Rattle.board.specs.declared.Board.{Board}
use Rattle.vee.specs.declared.Answer.TheVariants as answer
use Rattle.vee.specs.PlanTest.{Tested}
use Rattle.vee.specs.TestOf.{test_of}
use Rattle.vee.proofs.Executable.{computed}
use Rattle.lines.specs.declared.Line.{Line}
use Rattle.text.specs.Words.{kept_word, open_word}
use Rattle.text.specs.Lines.{end_with, end_line, tail_line, test_line}
use Rattle.promise.specs.Runs.{Run, start, Reached}
use Rattle.board.proofs.Theorems.Each.{clash}
use Rattle.promise.proofs.TestYes.{yes_accepted}
use Rattle.promise.proofs.Ends.{goes_on_lem, yes_ends}
use Rattle.printed.specs.Texts.{until_mark, whole_in, unfinished, plan_part, event_part, end_lines, event_lines, answer_lines, board_lines, sheet_of, offers_of, read_lines}
use Rattle.printed.specs.Ends.{last_or, EndsWell, YesEndsWell}

-- ---- the last line

last_behind : (xs : List Line) (y : Line) (ys : List Line) (l : Line) → last_or l (xs ++ (y ∷ ys)) ≡ last_or y ys
unfolding last_or
last_behind [] y ys l = refl
last_behind (x ∷ xs) y ys l = last_behind xs y ys x

-- ---- every board of a sheet is reached

bytes_each : (n : ℕ) (s : List ℕ) → All IsByte s → All (All IsByte) (events_in n s)
unfolding events_in
bytes_each zero s h = tt
bytes_each (suc n) s h = (all_take IsByte record_bytes s h, bytes_each n (drop record_bytes s) (all_drop IsByte record_bytes s h))

reached_on : {p : Plan} (ss : List (List ℕ)) {b : Board} → Reached p b → All (All IsByte) ss → Reached p (board_after_all p b ss)
unfolding board_after_all
reached_on [] r h = r
reached_on (s ∷ ss) r h = reached_on ss (goes_on_lem r s h.0) h.1

reached_all : (p : Plan) (events : List ℕ) → All IsByte events → Reached p (board_after_all p fresh (whole_in events))
reached_all p events h = reached_on (whole_in events) (record { events = 0; run = start }) (bytes_each (length events / record_bytes) events h)

-- ---- the end

module _ (p : Plan) (events : List ℕ) where
  abbrev ended : Line
  ended = end_line p (board_after_all p fresh (whole_in events))

  -- the end is the last line of all, whatever stands before it
  last_end : (xs : List Line) (l : Line) → last_or l (xs ++ end_lines p events) ≡ ended
  unfolding last_or
  last_end xs l = go (unfinished events)
    where
      go : (t : Bool) → last_or l (xs ++ ((if t then tail_line ∷ [] else []) ++ (ended ∷ []))) ≡ ended
      go true = last_behind xs tail_line (ended ∷ []) l
      go false = last_behind xs ended [] l

  ends_well : {j : ℕ} → Tested p (answer.Yes j) → All IsByte events → (xs : List Line) → EndsWell (xs ++ end_lines p events)
  ends_well t h xs l =
      let e = last_end xs l in
      go (yes_ends t (board_after_all p fresh (whole_in events)) (reached_all p events h))
    where
      go : (ended ≡ end_with kept_word) ⊎ (ended ≡ end_with open_word) → (last_or l (xs ++ end_lines p events) ≡ end_with kept_word) ⊎ (last_or l (xs ++ end_lines p events) ≡ end_with open_word)
      go (inl k) = inl (last_end xs l ∙ k)
      go (inr k) = inr (last_end xs l ∙ k)

  -- every reply, and the end
  offers_end : {j : ℕ} → Tested p (answer.Yes j) → All IsByte events → EndsWell (offers_of p events)
  offers_end t h =
      let front = answer_lines p 0 fresh (whole_in events) in
      rw (← append_assoc (board_lines p fresh) front (end_lines p events)) (ends_well t h (test_line (test_of p) ∷ (board_lines p fresh ++ front)))

-- ---- a refused plan has no yes

-- what reading answers where the test says yes to its plan
read_yes : (r : Reading) (j : ℕ) → test_of (plan_in r) ≡ answer.Yes j → r ≡ Ok (plan_in r)
unfolding check_with
read_yes (Ok p) j y = refl
read_yes (Err x) j y =
    let ok : (check_of (plan_of [])).number ≡ 0 = yes_accepted (rw y at (computed (plan_of []))) in
    absurd (omega (arith, ok))

-- THE LAST LINE
pub yes_ends_well : YesEndsWell
yes_ends_well bytes j h y =
    let p = plan_in (read_of (plan_part bytes)) in
    let ok = read_yes (read_of (plan_part bytes)) j y in
    let t : Tested p (answer.Yes j) = rw y at (computed p) in
    let es = all_drop IsByte (record_bytes * suc (until_mark (whole_in bytes))) bytes h in
    (rw ok (ends_well p (event_part bytes) t es (event_lines p 0 fresh (whole_in (event_part bytes)))), rw ok (offers_end p (event_part bytes) t es))
