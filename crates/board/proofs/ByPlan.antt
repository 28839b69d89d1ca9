-- From an accepted plan's links and a board's windows the number of an event with the record beside it, and the event taken, are
-- those from the plan's records, and the board after it is sound. Assumes nothing.
use mathlib.Core.Path.{◌≡◌, refl, ap, ◌∙◌}
use mathlib.Core.Bool.{Bool, true, false, not}
use mathlib.Core.List.{List}
use Prim.Native.Nat.{ℕ, ◌^◌, ◌<◌}
use native.Mathlib.Omega.{arith}
use lib.Dec.{eqb}
use Rattle.std.specs.Prelude.{if◌then◌else◌}
use Rattle.plan.specs.APlan.{records_of}
use Rattle.plan.specs.declared.Plan.{Plan}
use Rattle.plan.proofs.Accepted.{Accepted, accepted_plan}
use Rattle.records.specs.declared.Record.{Record}
use Rattle.links.specs.Inside.{LinksOf}
use Rattle.links.specs.declared.Links.{Links}
use Rattle.events.specs.Fields.{event_point}
use Rattle.events.specs.Inside.{event_in}
use Rattle.windows.specs.Inside.{beside_from}
use Rattle.windows.specs.Inside as windows
use Rattle.windows.specs.declared.Windows.{Windows}
use Rattle.planless.proofs.ByPlan.{numbered}
use Rattle.taking.specs.Steps.{next_of, step_of, refused_with, step_by}
use Rattle.taking.specs.declared.Step.{Step}
use Rattle.board.specs.Boards.{sound}
use Rattle.board.specs.Calls.{next_call}
use Rattle.board.specs.Events.{event_minute, event_points, event_number, event_record, board_after, taken}
use Rattle.board.specs.Inside.{clock_at, taken_next}
use Rattle.board.specs.InsideReplies.{Ready}
use Rattle.board.specs.ByWindows.{event_by, marks_of, taken_of, taken_by, SetFits}
use Rattle.board.specs.declared.Board.{Board}
use Rattle.board.specs.declared.Taken.{Taken}
use Rattle.board.proofs.Marking.{marks_are}
use Rattle.board.proofs.Streaming.{next_sound}
use Rattle.board.proofs.Taking.{number_here, record_here}
use Rattle.board.proofs.Theorems.Soundness.{HeldBoard, few_calls}

-- what is answered of a choice
pub choice : (k : Bool) (x y : Step) → taken_of (if k then x else y) ≡ (if k then taken_of x else taken_of y)
choice true x y = refl
choice false x y = refl

module _ (rs : List Record) (ok : Accepted rs) (l : Links) (has : LinksOf rs l) (b : Board) (w : Windows)
    (ws : windows.WindowsOf rs b.clock b.done b.minutes w) (s : List ℕ) where
  -- the number of an event, and the record beside it
  pub number_same : event_by l b w s ≡ event_number rs b s
  number_same = number_here rs b s ok.few _ _ (numbered rs ok l has b.done w b.clock b.minutes s ws)

  pub record_same : beside_from l b.done w (event_point s) (event_by l b w s) ≡ event_record rs b s
  record_same = record_here rs b s ok.few _ _ (numbered rs ok l has b.done w b.clock b.minutes s ws)

  -- what is taken
  next_same : (n : ℕ) → n ≡ next_call b → taken_of (step_of n (event_in s) (marks_of b)) ≡ taken 0 0 (board_after b s)
  unfolding board_after
  next_same n e = rw e (ap (taken 0 0) (marks_are (event_minute s) (next_call b) (event_points s) (clock_at (event_minute s) b)))

  -- the event taken, on a sound board
  pub taken_same : sound rs b ≡ true → b.done < 2 ^ 32 → taken_by l b w s ≡ taken_next rs b s
  unfolding step_by taken_next
  taken_same e d =
      let next : next_of (marks_of b) ≡ next_call b = omega (arith, few_calls rs b e d) in
      choice (not (eqb (event_by l b w s) 0)) (refused_with (event_by l b w s) (beside_from l b.done w (event_point s) (event_by l b w s)) b.clock (marks_of b)) (step_of (next_of (marks_of b)) (event_in s) (marks_of b))
      ∙ (λ i. if not (eqb (number_same i) 0) then taken (number_same i) (record_same i) b else next_same (next_of (marks_of b)) next i)

module _ (p : Plan) (b : Board) (l : Links) (r : Ready p b l) (held : HeldBoard b) (w : Windows) (ws : windows.WindowsOf (records_of p) b.clock b.done b.minutes w) (s : List ℕ) where
  -- the event taken on a sound board of an accepted plan, whatever the code has for it
  pub taken_known : (t : Taken) → t ≡ taken_by l b w s → t ≡ taken_next (records_of p) b s
  taken_known t e = e ∙ taken_same (records_of p) (accepted_plan p r.accepted) l r.links b w ws s r.sound held.done

  -- the board that is handed back is sound again
  pub taken_sound : (t : Taken) → t ≡ taken_by l b w s → SetFits l b w s → sound (records_of p) t.board ≡ true
  taken_sound t e f =
      rw (taken_known t e)
      (next_sound p r.accepted b held r.sound s (λ z. f.fits (number_same (records_of p) (accepted_plan p r.accepted) l r.links b w ws s ∙ z)))
