-- The executor's theorem: what is promised of every board that accepted events reach from the fresh one, for a plan that is
-- accepted and passes. Assumes nothing of boards or events.
use mathlib.Core.Path.{◌≡◌, refl, sym, ◌∙◌}
use mathlib.Core.Bool.{Bool, true, false, not}
use mathlib.Core.List.{List, [], ◌∷◌}
use Prim.Native.Nat.{ℕ, zero, suc, ◌^◌, ◌≤◌, ◌<◌}
use native.Mathlib.Omega.{arith}
use lib.Dec.{eqb}
use lib.ListN.{get_or}
use borrow.Author.Tests.{eqb-true}
use Rattle.points.specs.Sets.{count_of}
use Rattle.points.proofs.Laws.{member_empty}
use Rattle.std.specs.Prelude.{if◌then◌else◌}
use Rattle.plan.specs.APlan.{records_of}
use Rattle.plan.specs.Held.{All, IsByte}
use Rattle.plan.specs.ReplyNumbers.{check_of}
use Rattle.records.specs.declared.Record.{Record}
use Rattle.plan.specs.declared.Plan.{Plan}
use Rattle.plan.proofs.Accepted.{Accepted, accepted_plan}
use Rattle.board.specs.Boards.{fresh, sound}
use Rattle.board.specs.Windows.{some_open}
use Rattle.board.specs.Stuck.{finished, stuck}
use Rattle.replies.specs.Replies.{outcome_of, reply_for, reply_of}
use Rattle.board.specs.Events.{event_set, event_number, event_record, board_after, taken, take_of}
use Rattle.verdict.specs.Verdicts.{first_broken, ended_of, verdict_of}
use Rattle.board.specs.declared.Board.{Board}
use Rattle.replies.specs.declared.Outcome.{Outcome}
use Rattle.replies.specs.declared.Outcome.TheVariants.{Refused, Finished, Stuck, Waiting, Offers}
use Rattle.board.proofs.Theorems.Each.{clash, differ}
use Rattle.board.proofs.Theorems.Soundness.{HeldBoard, sound_means, fresh_sound}
use Rattle.replies.proofs.Numbers.{reply_number}
use Rattle.board.proofs.Theorems.Taking.{takes, event_sound, event_marks, event_more}
use Rattle.network.proofs.Plans.{Safe}
use Rattle.network.proofs.Safety.{safe_fresh, safe_event}
use Rattle.vee.specs.PlanTest.{net_of}
use Rattle.promise.specs.Nets.{PassesPlan}
use Rattle.promise.specs.Runs.{Run, start, next, Promised}
use Rattle.promise.proofs.Nets.{rules_of}
use Rattle.promise.proofs.Boards.{says_of, event_of_lem}
use Rattle.promise.proofs.Standing.{done_few, not_stuck, verdict_kept}

-- ---- bytes

byte_at : (s : List ℕ) → All IsByte s → (i : ℕ) → get_or s i 0 < 256
byte_at [] h i = omega arith
byte_at (x ∷ s) h zero = h.0
byte_at (x ∷ s) h (suc i) = byte_at s h.1 i

-- The set of an event is one of 32 bits.
pub set_fits : (s : List ℕ) → All IsByte s → event_set s < 2 ^ 32
set_fits s h = omega (arith, byte_at s h 8, byte_at s h 9, byte_at s h 10, byte_at s h 11)

-- ---- the outcome

-- the reply to a board that is not refused has its outcome
reply_outcome : (rs : List Record) (b : Board) (o : Outcome) → (reply_for o rs b).outcome ≡ o
reply_outcome rs b (Refused n i) = refl
reply_outcome rs b Finished = refl
reply_outcome rs b Stuck = refl
reply_outcome rs b Waiting = refl
reply_outcome rs b Offers = refl

module _ (rs : List Record) (b : Board) where
  no_stuck : (finished rs b ≡ false → stuck rs b ≡ false) → outcome_of rs b ≡ Stuck → ⊥
  unfolding outcome_of
  no_stuck h e = go (finished rs b) (stuck rs b) (some_open rs b) h e
    where
      go : (f s o : Bool) → (f ≡ false → s ≡ false) → (if f then Finished else (if s then Stuck else (if not o then Waiting else Offers))) ≡ Stuck → ⊥
      go true s o h e = differ cc
      go false true o h e = clash (h refl)
      go false false true h e = differ cc
      go false false false h e = differ cc

-- what holds of the board b after k events
pub record Stands (p : Plan) (b : Board) (k : ℕ) : Type 0 where
  pub held : HeldBoard b
  pub good : sound (records_of p) b ≡ true
  pub safe : Safe (net_of (records_of p)) (says_of b)
  pub done : k ≤ count_of b.done

module _ (p : Plan) (ok : (check_of p).number ≡ 0) where
  known : Accepted (records_of p)
  known = accepted_plan p ok

  -- ---- an event that is taken

  -- What taking an event answers, for a plan that is accepted.
  pub take_is : (b : Board) (s : List ℕ) → take_of p b s
      ≡ (if not (sound (records_of p) b) then taken 20 0 b
      else (if not (eqb (event_number (records_of p) b s) 0) then taken (event_number (records_of p) b s) (event_record (records_of p) b s) b
      else taken 0 0 (board_after b s)))
  unfolding take_of
  take_is b s = rw ok

  -- An event that is taken leads to the board after it.
  pub took : (b : Board) (s : List ℕ) → sound (records_of p) b ≡ true → (take_of p b s).number ≡ 0 → (event_number (records_of p) b s ≡ 0) × ((take_of p b s).board ≡ board_after b s)
  took b s g e = rw (take_is b s, g) (go (eqb (event_number (records_of p) b s) 0) refl (rw (take_is b s, g) at e))
    where
      go : (n : Bool) → eqb (event_number (records_of p) b s) 0 ≡ n → (if not n then taken (event_number (records_of p) b s) (event_record (records_of p) b s) b else taken 0 0 (board_after b s)).number ≡ 0
          → (event_number (records_of p) b s ≡ 0) × ((if not n then taken (event_number (records_of p) b s) (event_record (records_of p) b s) b else taken 0 0 (board_after b s)).board ≡ board_after b s)
      go true f e = (eqb-true _ _ f, refl)
      go false f e = clash (rw e at f)

  -- The reply to a sound board is the first outcome that fits.
  pub outcome_is : (b : Board) → sound (records_of p) b ≡ true → (reply_of p b).outcome ≡ outcome_of (records_of p) b
  unfolding reply_of
  outcome_is b g = rw (ok, g) (reply_outcome (records_of p) b (outcome_of (records_of p) b))

  verdict_is : (b : Board) → sound (records_of p) b ≡ true → finished (records_of p) b ≡ true → verdict_of p b ≡ first_broken (records_of p) b 0 (records_of p)
  unfolding verdict_of ended_of
  verdict_is b g f = rw (ok, g, f)

  module _ (passes : PassesPlan p) where
    -- ---- from event to event

    after_event : {b : Board} {k : ℕ} (s : List ℕ) → All IsByte s → Stands p b k → event_number (records_of p) b s ≡ 0 → Stands p (board_after b s) (suc k)
    after_event {b} s h w e =
        let fits = set_fits s h in
        let m = event_marks p ok b w.held w.good s fits e in
        record {
          held = m.held;
          good = event_sound p ok b w.held w.good s fits e;
          safe = safe_event (rules_of (records_of p) known) passes (event_of_lem (records_of p) known b w.held (sound_means (records_of p) b w.good) s fits (takes (records_of p) b s e)) w.safe;
          done = omega (arith, w.done, event_more p ok b w.held w.good s fits e);
        }

    -- Between events the board is sound, and safe in the words of the network.
    pub stands : {b : Board} {k : ℕ} → Run p b k → Stands p b k
    stands start =
        record {
          held = record { room = refl; done = omega arith; calls = refl };
          good = fresh_sound (records_of p);
          safe = safe_fresh (net_of (records_of p)) (says_of fresh) member_empty;
          done = omega arith;
        }
    stands (next {b} {k} s r h e) =
        let w = stands r in
        let t = took b s w.good e in
        rw t.1 (after_event s h w t.0)

    -- What is promised of every board that accepted events reach from the fresh one.
    pub executor : {b : Board} {k : ℕ} → Run p b k → Promised p b k
    executor {b} {k} r =
        let rs = records_of p in
        let w = stands r in
        let m = sound_means rs b w.good in
        let few = done_few rs b w.held m in
        record {
          sound = w.good;
          answered = reply_number p b ∙ rw (ok, w.good);
          free = λ e. no_stuck rs b (not_stuck rs known passes b w.held m w.safe) (sym (outcome_is b w.good) ∙ e);
          done = w.done;
          events = omega (arith, w.done, few);
          clock = m.few;
          minutes = λ q l. omega (arith, m.past q l, m.few, few);
          kept = λ f. verdict_is b w.good f ∙ verdict_kept rs known passes b w.held m w.safe f;
        }
