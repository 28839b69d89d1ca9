-- The loop over a stream of events: what has been said so far, and what is left to say. Assumes an accepted plan and a sound
-- board to start from; each later board is sound by `event_sound`.
use mathlib.Core.Path.{◌≡◌, refl, sym, ap, subst, ◌∙◌}
use mathlib.Core.Bool.{Bool, true, false, not}
use mathlib.Core.List.{List, [], ◌∷◌, ◌++◌, append-nil, append_assoc}
use Prim.Native.Nat.{ℕ, suc, ◌+◌, ◌-◌, ◌*◌, ◌^◌, ◌≤◌, ◌<◌}
use native.Mathlib.Omega.{arith}
use lib.Dec.{eqb}
use lib.ListN.{length, take, drop, length-drop, length-append}
use lib.Seq.{sets, sets-eq, take_at, drop-append-add, drop-drop}
use borrow.Author.Tests.{eqb-true, ne_eqb}
use Rattle.std.specs.Prelude.{if◌then◌else◌}
use Rattle.plan.specs.Limits.{record_bytes}
use Rattle.plan.specs.APlan.{records_of}
use Rattle.plan.specs.ReplyNumbers.{check_of}
use Rattle.plan.specs.declared.Plan.{Plan}
use Rattle.board.specs.Boards.{sound}
use Rattle.board.specs.Events.{taken, take_of, event_set, event_number, event_record, board_after}
use Rattle.board.specs.Streams.{events_in, said, said_numbers, said_of, board_after_all, many_in, take_all_of, said_all_of}
use Rattle.board.specs.Inside.{taken_next}
use Rattle.board.proofs.Theorems.Soundness.{HeldBoard}
use Rattle.board.proofs.Theorems.Taking.{event_sound}
use Rattle.board.specs.declared.Board.{Board}
use Rattle.board.specs.declared.Taken.{Taken}

-- on a sound board of an accepted plan, taking an event is the step that tests neither again
pub take_is_next : (p : Plan) (b : Board) (s : List ℕ) → (check_of p).number ≡ 0 → sound (records_of p) b ≡ true → take_of p b s ≡ taken_next (records_of p) b s
unfolding take_of taken_next
take_is_next p b s ok good = rw (ok, good)

-- the board that is handed back is sound
pub next_sound : (p : Plan) → (check_of p).number ≡ 0 → (b : Board) → HeldBoard b → sound (records_of p) b ≡ true → (s : List ℕ)
    → (event_number (records_of p) b s ≡ 0 → event_set s < 2 ^ 32) → sound (records_of p) (taken_next (records_of p) b s).board ≡ true
unfolding taken_next
next_sound p ok b held good s fits = go (eqb (event_number (records_of p) b s) 0) refl
  where
    go : (k : Bool) → eqb (event_number (records_of p) b s) 0 ≡ k
        → sound (records_of p) (if not k then taken (event_number (records_of p) b s) (event_record (records_of p) b s) b else taken 0 0 (board_after b s)).board ≡ true
    go true e = event_sound p ok b held good s (fits (eqb-true _ _ e)) (eqb-true _ _ e)
    go false e = good

-- ---- the loop

-- after i of n events: b is the board, out the room
pub record Went (p : Plan) (b₀ : Board) (n : ℕ) (s room : List ℕ) (i : ℕ) (b : Board) (out : List ℕ) : Type 0 where
  pub so_far : List ℕ
  pub long : length so_far ≡ said_numbers * i
  pub holds : out ≡ so_far ++ drop (said_numbers * i) room
  pub left : so_far ++ said_of p b (events_in (n - i) (drop (record_bytes * i) s)) ≡ said_of p b₀ (events_in n s)
  pub after : board_after_all p b (events_in (n - i) (drop (record_bytes * i) s)) ≡ board_after_all p b₀ (events_in n s)

module _ (p : Plan) (b₀ : Board) (n : ℕ) (s room : List ℕ) where
  pub went_none : Went p b₀ n s room 0 b₀ room
  went_none = let z : n - 0 ≡ n = omega arith in record { so_far = []; long = refl; holds = refl; left = rw z; after = rw z }

  -- the next event
  abbrev pub event : ℕ → List ℕ
  event i = take record_bytes (drop (record_bytes * i) s)

  events_left : (i : ℕ) → i < n → events_in (n - i) (drop (record_bytes * i) s) ≡ event i ∷ events_in (n - (i + 1)) (drop (record_bytes * (i + 1)) s)
  unfolding events_in
  events_left i h =
      let k : n - i ≡ suc (n - (i + 1)) = omega arith in
      let m : record_bytes * i + record_bytes ≡ record_bytes * (i + 1) = omega arith in
      rw (k, drop-drop record_bytes (record_bytes * i) s, m)

  module _ (i : ℕ) (b : Board) (out : List ℕ) (w : Went p b₀ n s room i b out) where
    pub out_long : said_numbers * i ≤ length room → length out ≡ length room
    out_long h = rw (w.holds, length-append w.so_far (drop (said_numbers * i) room), length-drop (said_numbers * i) room, w.long) (omega arith)

    more : i < n → said_numbers * n ≤ length room
        → Went p b₀ n s room (i + 1) (take_of p b (event i)).board (sets out (said_numbers * i) (said (take_of p b (event i))))
    unfolding said_of board_after_all
    more h fits =
        let t = take_of p b (event i) in
        let k : said_numbers * i + said_numbers ≡ said_numbers * (i + 1) = omega arith in
        let l = out_long (omega arith) in
        let d : drop (said_numbers * i + said_numbers) out ≡ drop (said_numbers * (i + 1)) room =
        rw w.holds (rw w.long at (drop-append-add w.so_far (drop (said_numbers * i) room) said_numbers))
        ∙ drop-drop said_numbers (said_numbers * i) room
        ∙ ap (λ (j : ℕ). drop j room) k in
        let f : take (said_numbers * i) out ≡ w.so_far = rw w.holds (take_at w.so_far (drop (said_numbers * i) room) (said_numbers * i) w.long) in
        record {
          so_far = w.so_far ++ said t;
          long = rw (length-append w.so_far (said t), w.long) (omega arith);
          holds = sets-eq (said t) out (said_numbers * i) (omega (arith, l)) ∙ rw (d, f, append_assoc w.so_far (said t) (drop (said_numbers * (i + 1)) room));
          left = append_assoc w.so_far (said t) _ ∙ (rw (events_left i h) at w.left);
          after = rw (events_left i h) at w.after;
        }

    -- a turn, whatever the code has for what taking the event answers
    pub went_more : i < n → said_numbers * n ≤ length room → (t : Taken) → take_of p b (event i) ≡ t
        → Went p b₀ n s room (i + 1) t.board (sets out (said_numbers * i) (said t))
    went_more h fits t e = subst (λ (x : Taken). Went p b₀ n s room (i + 1) x.board (sets out (said_numbers * i) (said x))) e (more h fits)

    -- after the last
    pub went_all : n ≤ i → i ≤ n → (out ≡ said_of p b₀ (events_in n s) ++ drop (said_numbers * n) room) × (b ≡ board_after_all p b₀ (events_in n s))
    unfolding said_of board_after_all events_in
    went_all g h =
        let z : n - i ≡ 0 = omega arith in
        let e : i ≡ n = omega arith in
        let l : w.so_far ≡ said_of p b₀ (events_in n s) = sym (append-nil w.so_far) ∙ (rw z at w.left) in
        (w.holds ∙ rw (l, e), rw z at w.after)

-- ---- the whole

module _ (p : Plan) (b : Board) (s room : List ℕ) where
  pub all_refused : ((check_of p).number ≡ 0 → ⊥) → (taken (check_of p).number (check_of p).place b ≡ take_all_of p b s room) × (room ≡ said_all_of p b s room)
  unfolding take_all_of said_all_of
  all_refused h = let e = ne_eqb _ _ h in (rw e, rw e)

  pub all_unsound : (check_of p).number ≡ 0 → sound (records_of p) b ≡ false → (taken 20 0 b ≡ take_all_of p b s room) × (room ≡ said_all_of p b s room)
  unfolding take_all_of said_all_of
  all_unsound h g = (rw (h, g), rw (h, g))

  pub all_taken : (check_of p).number ≡ 0 → sound (records_of p) b ≡ true
      → (taken 0 0 (board_after_all p b (events_in (many_in s room) s)) ≡ take_all_of p b s room)
      × (said_of p b (events_in (many_in s room) s) ++ drop (said_numbers * many_in s room) room ≡ said_all_of p b s room)
  unfolding take_all_of said_all_of
  all_taken h g = (rw (h, g), rw (h, g))
