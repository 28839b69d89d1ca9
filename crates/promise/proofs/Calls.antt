-- The numbers on a board are the places, from 1, of the accepted events that did its points: after a run of any accepted
-- events from the fresh board, whether the plan passes or not. Assumes nothing.
use mathlib.Core.Path.{◌≡◌, refl, sym, ap, ◌∙◌}
use mathlib.Core.Logic.{inl, inr}
use mathlib.Core.Bool.{Bool, true, false, ◌&&◌, ◌||◌, or-true}
use mathlib.Core.List.{List}
use Prim.Native.Nat.{ℕ, suc, ◌<◌}
use native.Mathlib.Omega.{arith}
use lib.Dec.{eqb}
use borrow.Author.Tests.{eqb-true, eq-eqb, ne_eqb}
use Rattle.points.proofs.Laws.{member_empty, members_empty}
use Rattle.plan.specs.Limits.{most_points}
use Rattle.plan.specs.APlan.{records_of}
use Rattle.plan.specs.Held.{All, IsByte}
use Rattle.plan.specs.ReplyNumbers.{check_of}
use Rattle.plan.specs.declared.Plan.{Plan}
use Rattle.plan.proofs.Accepted.{accepted_plan}
use Rattle.board.specs.Boards.{fresh, is_done, sound, largest}
use Rattle.board.specs.Calls.{call, last_call, next_call}
use Rattle.board.specs.Events.{take_of}
use Rattle.board.specs.declared.Board.{Board}
use Rattle.board.proofs.Theorems.Each.{clash, both, either}
use Rattle.board.proofs.Theorems.Soundness.{HeldBoard, sound_means}
use Rattle.board.proofs.Theorems.Marks.{names, Marks}
use Rattle.board.proofs.Theorems.Taking.{fresh_points, event_call}
use Rattle.promise.specs.Runs.{Run, start, next}
use Rattle.promise.specs.Calls.{did, WhichCall, RefusedChangesNone}
use Rattle.promise.proofs.Standing.{told}
use Rattle.promise.proofs.Executor.{set_fits, took}
use Rattle.promise.proofs.After.{take, marks, was_done, sturdy}
use Rattle.promise.proofs.Chains.{taken_by_lem}
use Rattle.promise.proofs.Ends.{stays}

-- ---- an event that is taken

module _ (p : Plan) (ok : (check_of p).number ≡ 0) {b : Board} (held : HeldBoard b) (good : sound (records_of p) b ≡ true) (s : List ℕ) (bytes : All IsByte s) (e : (take_of p b s).number ≡ 0) where
  abbrev a : Board
  a = (take_of p b s).board

  m : Marks b s a
  m = marks p ok held good s bytes e

  -- The largest number is then one more.
  pub last_after : last_call (take_of p b s).board ≡ suc (last_call b)
  last_after = let t = took p ok b s good e in rw t.1 (event_call p ok b held good s (set_fits s bytes) t.0)

  -- a point that was done before keeps its number
  keeps : (q : ℕ) → q < most_points → is_done b q ≡ true → (is_done a q ≡ true) × (call a q ≡ call b q)
  keeps q l d =
      elim (told (names s) q) [
        | inl n ↦ clash (sym d ∙ fresh_points (records_of p) (accepted_plan p ok) b held (sound_means (records_of p) b good) s (set_fits s bytes) (take p ok held good s bytes e) q l n)
        | inr n ↦ (rw (m.done q l, d), m.call_there q l n)
      ]

-- ---- runs

in_first_lem : {x y : Bool} (z : Bool) → x ≡ true → y ≡ true → ((x && y) || z) ≡ true
in_first_lem z e f = rw (e, f)

in_second : (x : Bool) {z : Bool} → z ≡ true → (x || z) ≡ true
in_second x e = rw e (or-true x)

-- On the fresh board the largest number is 0.
fresh_call : last_call fresh ≡ 0
unfolding largest
fresh_call = rw members_empty

-- After k accepted events from the fresh board the largest number is k.
pub last_of_run : {p : Plan} {b : Board} {k : ℕ} → Run p b k → last_call b ≡ k
last_of_run start = fresh_call
last_of_run {p} (next {b} {k} s r h e) =
    let ok = (taken_by_lem p b s e).0 in
    let w = sturdy p ok r in
    last_after p ok w.held w.good s h e ∙ ap suc (last_of_run r)

-- The number of a done point is the place of the event that did it.
place_of : {p : Plan} {b : Board} {k : ℕ} (r : Run p b k) (q : ℕ) → q < most_points → is_done b q ≡ true → did r (call b q) q ≡ true
unfolding did
place_of start q l d = clash (sym d ∙ member_empty q)
place_of {p} (next {b} {k} s r h e) q l d =
    let ok = (taken_by_lem p b s e).0 in
    let w = sturdy p ok r in
    let m = marks p ok w.held w.good s h e in
    elim (told (names s) q) [
      | inl n ↦ in_first_lem (did r (call (take_of p b s).board q) q) (eq-eqb _ _ (m.call_here q l n ∙ ap suc (last_of_run r))) n
      | inr n ↦
          let o = place_of r q l (was_done p ok w.held w.good s h e q d n) in
          in_second (eqb (call (take_of p b s).board q) (suc k) && names s q) (rw (m.call_there q l n) o)
    ]

-- It is the place of no other.
only_of : {p : Plan} {b : Board} {k : ℕ} (r : Run p b k) (q j : ℕ) → q < most_points → did r j q ≡ true → (is_done b q ≡ true) × (call b q ≡ j)
unfolding did
only_of start q j l d = clash (sym d)
only_of {p} (next {b} {k} s r h e) q j l d =
    let ok = (taken_by_lem p b s e).0 in
    let w = sturdy p ok r in
    let m = marks p ok w.held w.good s h e in
    elim (either (eqb j (suc k) && names s q) (did r j q) d) [
      | inl x ↦
          let y = both (eqb j (suc k)) (names s q) x in
          (rw (m.done q l, y.1) (or-true (is_done b q)), m.call_here q l y.1 ∙ ap suc (last_of_run r) ∙ sym (eqb-true _ _ y.0))
      | inr x ↦
          let o = only_of r q j l x in
          let t = keeps p ok w.held w.good s h e q l o.0 in
          (t.0, t.1 ∙ o.1)
    ]

-- What the numbers say after any run of accepted events.
pub which_call : {p : Plan} {b : Board} {k : ℕ} (r : Run p b k) → WhichCall p b k r
which_call {p} {b} {k} r =
    record {
      largest = last_of_run r;
      place = place_of r;
      only = only_of r;
      share = λ q v j l m x y. (only_of r q j l x).1 ∙ sym (only_of r v j m y).1;
      shared = λ q v l m d f c. (call b q, place_of r q l d, rw c (place_of r v m f));
    }

-- ---- an event that is refused

-- A refused event changes no number, whatever the plan, the board and the bytes.
pub refused_changes_none : (p : Plan) (b : Board) (s : List ℕ) → RefusedChangesNone p b s
refused_changes_none p b s n = ap (λ (x : Board). x.calls) (stays p b s (ne_eqb _ _ n))
