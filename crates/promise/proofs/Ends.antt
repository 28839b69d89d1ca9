-- How the programs end on a plan to which the test says yes, whatever bytes come as events: `end kept` where all is done,
-- else `end open`. So never `end stuck`, and never `end broken N`. Assumes nothing.
use mathlib.Core.Path.{◌≡◌, refl, sym, ap, ◌∙◌}
use mathlib.Core.Bool.{Bool, true, false, not}
use mathlib.Core.Logic.{◌⊎◌, inl, inr}
use mathlib.Core.List.{List}
use Prim.Native.Nat.{ℕ, suc}
use lib.Dec.{eqb}
use borrow.Author.Tests.{eqb-true}
use Rattle.std.specs.Prelude.{if◌then◌else◌}
use Rattle.plan.specs.APlan.{records_of}
use Rattle.plan.specs.Held.{All, IsByte}
use Rattle.plan.specs.ReplyNumbers.{check_of}
use Rattle.records.specs.declared.Record.{Record}
use Rattle.plan.specs.declared.Plan.{Plan}
use Rattle.board.specs.Boards.{sound}
use Rattle.board.specs.Windows.{some_open}
use Rattle.board.specs.Stuck.{finished, stuck}
use Rattle.replies.specs.Replies.{outcome_of, reply_of}
use Rattle.board.specs.Events.{event_number, event_record, board_after, taken, take_of}
use Rattle.verdict.specs.Verdicts.{verdict_of}
use Rattle.board.specs.declared.Board.{Board}
use Rattle.replies.specs.declared.Outcome.{Outcome}
use Rattle.replies.specs.declared.Outcome.TheVariants.{Refused, Finished, Stuck, Waiting, Offers}
use Rattle.board.proofs.Theorems.Each.{clash, differ}
use Rattle.vee.specs.declared.Answer.TheVariants as answer
use Rattle.vee.specs.PlanTest.{Tested}
use Rattle.text.specs.Words.{kept_word, open_word}
use Rattle.text.specs.Lines.{end_with, verdict_line, end_for, end_line}
use Rattle.promise.specs.Runs.{Run, next, Promised, Reached}
use Rattle.promise.proofs.Executor.{outcome_is}
use Rattle.promise.proofs.TestYes.{yes_accepted, yes_promised}

-- an event that is not taken hands the same board back
pub stays : (p : Plan) (b : Board) (s : List ℕ) → eqb (take_of p b s).number 0 ≡ false → (take_of p b s).board ≡ b
unfolding take_of
stays p b s e =
    go (eqb (check_of p).number 0) (sound (records_of p) b) (eqb (event_number (records_of p) b s) 0) e
  where
    go : (x y z : Bool)
        → eqb (if not x then taken (check_of p).number (check_of p).place b else (if not y then taken 20 0 b else (if not z then taken (event_number (records_of p) b s) (event_record (records_of p) b s) b else taken 0 0 (board_after b s)))).number 0 ≡ false
        → (if not x then taken (check_of p).number (check_of p).place b else (if not y then taken 20 0 b else (if not z then taken (event_number (records_of p) b s) (event_record (records_of p) b s) b else taken 0 0 (board_after b s)))).board ≡ b
    go false y z e = refl
    go true false z e = refl
    go true true false e = refl
    go true true true e = clash e

-- Whatever bytes come as the next event, the board handed back is reached too.
pub goes_on_lem : {p : Plan} {b : Board} → Reached p b → (s : List ℕ) → All IsByte s → Reached p (take_of p b s).board
goes_on_lem {p} {b} r s h = go (eqb (take_of p b s).number 0) refl
  where
    go : (t : Bool) → eqb (take_of p b s).number 0 ≡ t → Reached p (take_of p b s).board
    go true e = record { events = suc r.events; run = next s r.run h (eqb-true (take_of p b s).number 0 e) }
    go false e = rw (stays p b s e) r

-- an outcome of finished comes of a finished board
all_done : (rs : List Record) (b : Board) → outcome_of rs b ≡ Finished → finished rs b ≡ true
unfolding outcome_of
all_done rs b e = go (finished rs b) (stuck rs b) (some_open rs b) e
  where
    go : (f s o : Bool) → (if f then Finished else (if s then Stuck else (if not o then Waiting else Offers))) ≡ Finished → f ≡ true
    go true s o e = refl
    go false true o e = differ cc
    go false false true e = differ cc
    go false false false e = differ cc

-- How the programs end.
pub yes_ends : {p : Plan} {j : ℕ} → Tested p (answer.Yes j) → (b : Board) → Reached p b
    → (end_line p b ≡ end_with kept_word) ⊎ (end_line p b ≡ end_with open_word)
yes_ends {p} t b r = go (reply_of p b).outcome refl
  where
    m : Promised p b r.events
    m = yes_promised t r.run

    go : (o : Outcome) → (reply_of p b).outcome ≡ o
        → (end_for o (verdict_of p b) ≡ end_with kept_word) ⊎ (end_for o (verdict_of p b) ≡ end_with open_word)
    go (Refused n i) e = inr refl
    go Finished e = inl (ap verdict_line (m.kept (all_done (records_of p) b (sym (outcome_is p (yes_accepted t) b m.sound) ∙ e))))
    go Stuck e = absurd (m.free e)
    go Waiting e = inr refl
    go Offers e = inr refl
