-- What the board after an event holds: its points done at its minute by an event of the next number, every other point as
-- before, its minute the clock.
-- Assumes that the board has its room, and that the event's point, if it has one, is one of those that a board has room for.
use mathlib.Core.Path.{◌≡◌, refl, sym, ◌∙◌}
use mathlib.Core.Logic.{◌⊎◌, inl, inr}
use mathlib.Core.Bool.{Bool, true, false, not, ◌&&◌, ◌||◌, or-true, or-false, or_comm}
use mathlib.Core.List.{List, [], ◌∷◌}
use Prim.Native.Nat.{ℕ, ◌+◌, ◌≤◌, ◌<◌}
use native.Mathlib.Omega.{arith}
use lib.Dec.{eqb}
use lib.ListN.{length, get_or, set, length-set}
use lib.Seq.{get_or-set_same, get_or-set_other}
use borrow.Author.Tests.{eqb-true, eqb-false, eq-eqb, not-true}
use Rattle.points.specs.Sets.{member, members_of, with_of, count_of}
use Rattle.points.proofs.Laws.{member_with, with_fits, with_old, with_count}
use Rattle.std.specs.Prelude.{if◌then◌else◌}
use Rattle.plan.specs.Limits.{most_points}
use Rattle.taking.specs.Steps.{set_all}
use Rattle.board.specs.Boards.{is_done, minute}
use Rattle.board.specs.Calls.{call, next_call}
use Rattle.board.specs.Events.{event_minute, event_point, event_set, no_point, event_points, mark_all, board_after}
use Rattle.board.specs.declared.Board.{Board}
use Rattle.board.proofs.Theorems.Each.{clash, both, either, has, has_append, has_members, members_has}
use Rattle.board.proofs.Theorems.Soundness.{HeldBoard}

-- the event s names the point q, in its set or as the foreman's point
abbrev pub names : List ℕ → ℕ → Bool
names s q = member (event_set s) q || (not (eqb (event_point s) no_point) && eqb q (event_point s))

pub named_set : (s : List ℕ) (q : ℕ) → member (event_set s) q ≡ true → names s q ≡ true
named_set s q e = rw e

pub named_point : (s : List ℕ) → eqb (event_point s) no_point ≡ false → names s (event_point s) ≡ true
named_point s e = rw (e, eq-eqb (event_point s) (event_point s) refl) (or-true (member (event_set s) (event_point s)))

pub named : (s : List ℕ) (q : ℕ) → names s q ≡ true → (member (event_set s) q ≡ true) ⊎ ((eqb (event_point s) no_point ≡ false) × (q ≡ event_point s))
named s q e =
    elim (either (member (event_set s) q) _ e) [
      | inl m ↦ inl m
      | inr k ↦ let r = both (not (eqb (event_point s) no_point)) _ k in inr (not-true _ r.0, eqb-true _ _ r.1)
    ]

-- ---- some points are marked

or_rotate : (a b c : Bool) → (a || (b || c)) ≡ ((b || a) || c)
or_rotate true true c = refl
or_rotate true false c = refl
or_rotate false true c = refl
or_rotate false false c = refl

-- all points of a list are such that a board has room for them
abbrev Small : List ℕ → Type 0
Small ps = (q : ℕ) → has q ps ≡ true → q < most_points

small_head : (p : ℕ) (ps : List ℕ) → Small (p ∷ ps) → p < most_points
small_head p ps f = f p (rw (eq-eqb p p refl))

small_rest : (p : ℕ) (ps : List ℕ) → Small (p ∷ ps) → Small ps
small_rest p ps f q h = f q (rw h (or-true (eqb q p)))

set_all_at : (v : ℕ) (ps xs : List ℕ) → length xs ≡ most_points → Small ps → (q : ℕ) → get_or (set_all v ps xs) q 0 ≡ (if has q ps then v else get_or xs q 0)
set_all_at v [] xs l f q = refl
set_all_at v (p ∷ ps) xs l f q =
    set_all_at v ps (set xs p v) (simp length-set l) (small_rest p ps f) q ∙ go (has q ps) (eqb q p) refl
  where
    go : (a c : Bool) → eqb q p ≡ c → (if a then v else get_or (set xs p v) q 0) ≡ (if (c || a) then v else get_or xs q 0)
    go true true e = refl
    go true false e = refl
    go false true e = rw (eqb-true q p e) (get_or-set_same xs p v 0 (omega (arith, small_head p ps f)))
    go false false e = get_or-set_other xs p q v 0 (eqb-false q p e)

module _ (t n : ℕ) where
  abbrev marked : ℕ → Board → Board
  marked p b = record { clock = b.clock; done = with_of b.done p; minutes = set b.minutes p t; calls = set b.calls p n }

  mark_clock : (ps : List ℕ) (b : Board) → (mark_all t n ps b).clock ≡ b.clock
  unfolding mark_all
  mark_clock [] b = refl
  mark_clock (p ∷ ps) b = mark_clock ps (marked p b)

  mark_held : (ps : List ℕ) (b : Board) → HeldBoard b → HeldBoard (mark_all t n ps b)
  unfolding mark_all
  mark_held [] b h = h
  mark_held (p ∷ ps) b h =
      mark_held ps (marked p b)
      (record { room = simp length-set h.room; done = with_fits b.done p h.done; calls = simp length-set h.calls })

  mark_done : (ps : List ℕ) (b : Board) → Small ps → (q : ℕ) → is_done (mark_all t n ps b) q ≡ (has q ps || is_done b q)
  unfolding mark_all
  mark_done [] b f q = refl
  mark_done (p ∷ ps) b f q =
      mark_done ps (marked p b) (small_rest p ps f) q
      ∙ rw (member_with b.done p q (small_head p ps f)) (or_rotate (has q ps) (eqb q p) (is_done b q))

  -- the minutes and the numbers of the points are set
  mark_minutes : (ps : List ℕ) (b : Board) → (mark_all t n ps b).minutes ≡ set_all t ps b.minutes
  unfolding mark_all
  mark_minutes [] b = refl
  mark_minutes (p ∷ ps) b = mark_minutes ps (marked p b)

  mark_calls : (ps : List ℕ) (b : Board) → (mark_all t n ps b).calls ≡ set_all n ps b.calls
  unfolding mark_all
  mark_calls [] b = refl
  mark_calls (p ∷ ps) b = mark_calls ps (marked p b)

  mark_minute : (ps : List ℕ) (b : Board) → HeldBoard b → Small ps → (q : ℕ) → minute (mark_all t n ps b) q ≡ (if has q ps then t else minute b q)
  mark_minute ps b h f q = rw (mark_minutes ps b) (set_all_at t ps b.minutes h.room f q)

  mark_call : (ps : List ℕ) (b : Board) → HeldBoard b → Small ps → (q : ℕ) → call (mark_all t n ps b) q ≡ (if has q ps then n else call b q)
  mark_call ps b h f q = rw (mark_calls ps b) (set_all_at n ps b.calls h.calls f q)

  count_with : (s p : ℕ) → p < most_points → (a : Bool) → member s p ≡ a → count_of s + (if a then 0 else 1) ≡ count_of (with_of s p)
  count_with s p l true e = rw (with_old s p e) (omega arith)
  count_with s p l false e = sym (with_count s p l e)

  mark_count : (ps : List ℕ) (b : Board) → Small ps → count_of b.done ≤ count_of (mark_all t n ps b).done
  unfolding mark_all
  mark_count [] b f = omega arith
  mark_count (p ∷ ps) b f =
      omega (arith, count_with b.done p (small_head p ps f) (is_done b p) refl, mark_count ps (marked p b) (small_rest p ps f))

  -- a point that was not done makes one more
  mark_more : (ps : List ℕ) (b : Board) → Small ps → (q : ℕ) → has q ps ≡ true → is_done b q ≡ false → count_of b.done < count_of (mark_all t n ps b).done
  unfolding mark_all
  mark_more [] b f q h u = clash (sym h)
  mark_more (p ∷ ps) b f q h u =
      go (eqb q p) refl (mark_more ps (marked p b) (small_rest p ps f) q)
    where
      go : (c : Bool) → eqb q p ≡ c
          → (has q ps ≡ true → is_done (marked p b) q ≡ false → count_of (with_of b.done p) < count_of (mark_all t n ps (marked p b)).done)
          → count_of b.done < count_of (mark_all t n ps (marked p b)).done
      go true e g =
          let m : is_done b p ≡ false = rw (← eqb-true q p e) u in
          omega (arith, with_count b.done p (small_head p ps f) m, mark_count ps (marked p b) (small_rest p ps f))
      go false e g =
          let i : has q ps ≡ true = rw e at h in
          let m : is_done (marked p b) q ≡ false = rw (member_with b.done p q (small_head p ps f), e, u) in
          omega (arith, g i m, count_with b.done p (small_head p ps f) (is_done b p) refl)

-- ---- the event's points

-- the board a is b with the event s on it
pub record Marks (b : Board) (s : List ℕ) (a : Board) : Type 0 where
  pub clock : a.clock ≡ event_minute s
  pub done : (q : ℕ) → q < most_points → is_done a q ≡ (is_done b q || names s q)
  pub here : (q : ℕ) → q < most_points → names s q ≡ true → minute a q ≡ event_minute s
  pub there : (q : ℕ) → q < most_points → names s q ≡ false → minute a q ≡ minute b q
  pub call_here : (q : ℕ) → q < most_points → names s q ≡ true → call a q ≡ next_call b
  pub call_there : (q : ℕ) → q < most_points → names s q ≡ false → call a q ≡ call b q
  pub held : HeldBoard a
  pub more : (q : ℕ) → q < most_points → names s q ≡ true → is_done b q ≡ false → count_of b.done < count_of a.done

module _ (b : Board) (held : HeldBoard b) (s : List ℕ) (placed : eqb (event_point s) no_point ≡ false → event_point s < most_points) where
  abbrev start : Board
  start = record { clock = event_minute s; done = b.done; minutes = b.minutes; calls = b.calls }

  held_start : HeldBoard start
  held_start = record { room = held.room; done = held.done; calls = held.calls }

  has_point_lem : (q : ℕ) (c : Bool) → has q (if c then [] else (event_point s ∷ [])) ≡ (not c && eqb q (event_point s))
  has_point_lem q true = refl
  has_point_lem q false = or-false (eqb q (event_point s))

  has_names : (q : ℕ) → q < most_points → has q (event_points s) ≡ names s q
  has_names q l =
      rw (has_append q (members_of (event_set s)) (if eqb (event_point s) no_point then [] else (event_point s ∷ [])), has_members (event_set s) q l, has_point_lem q (eqb (event_point s) no_point))

  small : (q : ℕ) → has q (event_points s) ≡ true → q < most_points
  small q h =
      let e = sym (has_append q (members_of (event_set s)) (if eqb (event_point s) no_point then [] else (event_point s ∷ []))) ∙ h in
      elim (either (has q (members_of (event_set s))) _ e) [
        | inl m ↦ (members_has (event_set s) q m).0
        | inr k ↦
            let r = both (not (eqb (event_point s) no_point)) _ (sym (has_point_lem q (eqb (event_point s) no_point)) ∙ k) in
            omega (arith, eqb-true q (event_point s) r.1, placed (not-true _ r.0))
      ]

  -- An event marks all its points done at its minute, which becomes the clock, by the event of the next number, and changes
  -- nothing else.
  pub after_marks : Marks b s (board_after b s)
  unfolding board_after
  after_marks =
      let t = event_minute s in
      let n = next_call b in
      let ps = event_points s in
      record {
        clock = mark_clock t n ps start;
        done = λ q l. mark_done t n ps start small q ∙ rw (has_names q l) (or_comm (names s q) (is_done b q));
        here = λ q l h. mark_minute t n ps start held_start small q ∙ rw (has_names q l, h);
        there = λ q l h. mark_minute t n ps start held_start small q ∙ rw (has_names q l, h);
        call_here = λ q l h. mark_call t n ps start held_start small q ∙ rw (has_names q l, h);
        call_there = λ q l h. mark_call t n ps start held_start small q ∙ rw (has_names q l, h);
        held = mark_held t n ps start held_start;
        more = λ q l h u. mark_more t n ps start small q (has_names q l ∙ h) u;
      }
