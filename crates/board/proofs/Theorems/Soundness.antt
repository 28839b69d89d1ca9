-- When a board is sound, as facts rather than as a test, and that a fresh board is. Assumes nothing.
use mathlib.Core.Path.{◌≡◌, refl, sym, ◌∙◌}
use mathlib.Core.Logic.{◌⊎◌, inl, inr}
use mathlib.Core.Bool.{Bool, true, false, not, ◌&&◌, ◌||◌}
use mathlib.Core.List.{List}
use Prim.Native.Nat.{ℕ, ◌+◌, ◌*◌, ◌^◌, ◌≤◌, ◌<◌}
use native.Mathlib.Omega.{arith}
use lib.Dec.{eqb, leb}
use lib.ListN.{length, get_or, get_or-replicate}
use borrow.Author.Tests.{leb-true, le-leb, ltb-true, lt-ltb, eqb-true, eq-eqb, not-true}
use Rattle.points.specs.Sets.{members_of, below_of, subset_of, count_of, from, every}
use Rattle.points.proofs.Laws.{member_empty}
use Rattle.plan.specs.Limits.{most_points, farthest}
use Rattle.plan.specs.APlan.{link, is, points, watched, blank}
use Rattle.records.specs.declared.Record.{Record}
use Rattle.board.specs.Boards.{fresh, is_done, minute, shortest, longest, running, each, largest, fits, in_bounds, sound}
use Rattle.board.specs.Calls.{call, earlier, last_call}
use Rattle.calls.proofs.Laws.{Numbers, numbers_means, numbers_from, last_is, last_room, numbers_none}
use Rattle.board.specs.declared.Board.{Board}
use Rattle.board.proofs.Theorems.Each.{clash, both, and_both, unless, as_unless, every_point, point_every, has_members, members_has, each_at, at_each, subset_below, below_subset, largest_le, largest_ge, largest_at}

-- what every board that a program can hold keeps
pub record HeldBoard (b : Board) : Type 0 where
  pub room : length b.minutes ≡ most_points
  pub done : b.done < 2 ^ 32
  pub calls : length b.calls ≡ most_points

-- what a sound board says of a link
pub record SoundLink (b : Board) (l : Record) : Type 0 where
  -- a done watched point has its A done and its duration in bounds
  pub ended : is_done b l.b ≡ true
      → (is_done b l.a ≡ true) × (minute b l.a + shortest l ≤ minute b l.b) × (minute b l.b ≤ minute b l.a + longest l)
  -- a running link has A + y ≥ clock
  pub runs : is_done b l.a ≡ true → is_done b l.b ≡ false → b.clock ≤ minute b l.a + longest l

-- the numbers of a board's events are sound, and k is the largest
abbrev pub NumbersOf : List Record → Board → ℕ → Type 0
NumbersOf rs b k = Numbers (watched rs) b.done b.minutes b.calls k

-- the board b is sound for the records rs
pub record Sound (rs : List Record) (b : Board) : Type 0 where
  -- done points are in the plan
  pub inside : (p : ℕ) → p < most_points → is_done b p ≡ true → p < points rs
  -- a point not done holds 0
  pub nought : (p : ℕ) → p < most_points → is_done b p ≡ false → minute b p ≡ 0
  -- no minute is past the clock
  pub past : (p : ℕ) → p < most_points → minute b p ≤ b.clock
  -- the clock is 0 or the minute of a done point
  pub attained : (b.clock ≡ 0) ⊎ ((p : ℕ) × (p < most_points) × (is_done b p ≡ true) × (minute b p ≡ b.clock))
  pub links : (i : ℕ) → i < length rs → is link (get_or rs i blank) ≡ true → SoundLink b (get_or rs i blank)
  pub few : b.clock ≤ farthest * count_of b.done
  -- every link's start is in an earlier event than its end
  pub before : (i : ℕ) → i < length rs → is link (get_or rs i blank) ≡ true → is_done b (get_or rs i blank).a ≡ true → is_done b (get_or rs i blank).b ≡ true
      → call b (get_or rs i blank).a < call b (get_or rs i blank).b
  -- the numbers of the events are sound
  pub numbers : NumbersOf rs b (last_call b)

-- ---- links

module _ (b : Board) (l : Record) where
  link_means : in_bounds b l ≡ true → is link l ≡ true → SoundLink b l
  link_means e k =
      let f = both (not (is_done b l.b) || _) _ (unless (is link l) _ e k) in
      record {
        ended = λ d.
            let g = both (is_done b l.a) _ (unless (is_done b l.b) _ f.0 d) in
            let h = both (leb (minute b l.a + shortest l) (minute b l.b)) _ g.1 in
            (g.0, leb-true _ _ h.0, leb-true _ _ h.1);
        runs = λ d n. leb-true _ _ (unless (running b l) _ f.1 (rw (k, d, n)));
      }

  link_from : (is link l ≡ true → SoundLink b l) → in_bounds b l ≡ true
  link_from w =
      as_unless (is link l) _
      (λ k. and_both _ _
      (as_unless (is_done b l.b) _ (λ d.
      let e = (w k).ended d in
      and_both _ _ e.0 (and_both _ _ (le-leb _ _ e.1) (le-leb _ _ e.2))))
      (as_unless (running b l) _ (λ r.
      let e = both (is_done b l.a) _ (both (is link l) _ r).1 in
      le-leb _ _ ((w k).runs e.0 (not-true _ e.1)))))

  earlier_means : earlier b l ≡ true → is link l ≡ true → is_done b l.a ≡ true → is_done b l.b ≡ true → call b l.a < call b l.b
  earlier_means e k d f = ltb-true _ _ (unless (is_done b l.a && is_done b l.b) _ (unless (is link l) _ e k) (and_both _ _ d f))

  earlier_from_lem : (is link l ≡ true → is_done b l.a ≡ true → is_done b l.b ≡ true → call b l.a < call b l.b) → earlier b l ≡ true
  earlier_from_lem h =
      as_unless (is link l) _
      (λ k. as_unless (is_done b l.a && is_done b l.b) _ (λ r. let e = both (is_done b l.a) _ r in lt-ltb _ _ (h k e.0 e.1)))

-- ---- the board

module _ (rs : List Record) (b : Board) where
  abbrev clocked : Bool
  clocked = eqb b.clock (largest b.minutes (members_of b.done))

  clock_means : clocked ≡ true → (b.clock ≡ 0) ⊎ ((p : ℕ) × (p < most_points) × (is_done b p ≡ true) × (minute b p ≡ b.clock))
  clock_means e =
      let same : b.clock ≡ largest b.minutes (members_of b.done) = eqb-true _ _ e in
      elim (largest_at b.minutes (members_of b.done)) [
        | inl z ↦ inl (same ∙ z)
        | inr w ↦ let m = members_has b.done w.0 w.1 in inr (w.0, m.0, m.1, w.2 ∙ sym same)
      ]

  -- A board that the test takes for sound is sound.
  pub sound_means : sound rs b ≡ true → Sound rs b
  unfolding sound
  sound_means e =
      let s1 = both (subset_of b.done (below_of (points rs))) _ e in
      let s2 = both (every (fits b) (from 0 most_points)) _ s1.1 in
      let s3 = both clocked _ s2.1 in
      let s4 = both (each (in_bounds b) rs) _ s3.1 in
      let s5 = both (leb b.clock (farthest * count_of b.done)) _ s4.1 in
      let s6 = both (each (earlier b) rs) _ s5.1 in
      let fit : (p : ℕ) → p < most_points → ((is_done b p || eqb (minute b p) 0) ≡ true) × (leb (minute b p) b.clock ≡ true) =
      λ p l. both (is_done b p || eqb (minute b p) 0) _ (every_point (fits b) s2.0 p l) in
      record {
        inside = subset_below b.done (points rs) s1.0;
        nought = λ p l n. eqb-true _ _ (rw n at (fit p l).0);
        past = λ p l. leb-true _ _ (fit p l).1;
        attained = clock_means s3.0;
        links = λ i h k. link_means b (get_or rs i blank) (each_at (in_bounds b) rs s4.0 i h) k;
        few = leb-true _ _ s5.0;
        before = λ i h k. earlier_means b (get_or rs i blank) (each_at (earlier b) rs s6.0 i h) k;
        numbers = numbers_means (watched rs) b.done b.minutes b.calls s6.1;
      }

  module _ (w : Sound rs b) where
    clock_from : clocked ≡ true
    clock_from =
        let ps = members_of b.done in
        let above : largest b.minutes ps ≤ b.clock = largest_le b.minutes b.clock ps (λ q k. w.past q (members_has b.done q k).0) in
        let same : b.clock ≡ largest b.minutes ps = elim w.attained [
          | inl z ↦ omega arith
          | inr a ↦ omega (arith, a.3, largest_ge b.minutes ps a.0 (has_members b.done a.0 a.1 ∙ a.2))
        ] in
        eq-eqb _ _ same

    fit_from : (p : ℕ) → p < most_points → (d : Bool) → is_done b p ≡ d → ((d || eqb (minute b p) 0) && leb (minute b p) b.clock) ≡ true
    fit_from p l true e = le-leb _ _ (w.past p l)
    fit_from p l false e = and_both _ _ (eq-eqb _ _ (w.nought p l e)) (le-leb _ _ (w.past p l))

    -- A board that is sound is taken for sound by the test.
    pub sound_from : sound rs b ≡ true
    unfolding sound
    sound_from =
        and_both _ _
        (below_subset b.done (points rs) w.inside)
        (and_both _ _ (point_every (fits b) (λ p l. fit_from p l (is_done b p) refl))
        (and_both _ _ clock_from
        (and_both _ _ (at_each (in_bounds b) rs (λ i h. link_from b (get_or rs i blank) (w.links i h)))
        (and_both _ _ (le-leb _ _ w.few)
        (and_both _ _ (at_each (earlier b) rs (λ i h. earlier_from_lem b (get_or rs i blank) (w.before i h)))
        (numbers_from (watched rs) b.done b.minutes b.calls (last_call b) w.numbers))))))

  -- The largest number is the one that the numbers go up to.
  pub largest_call : {k : ℕ} → NumbersOf rs b k → last_call b ≡ k
  largest_call {k} n = last_is (watched rs) b.done b.minutes b.calls k n

  pub to_largest : {k : ℕ} → NumbersOf rs b k → NumbersOf rs b (last_call b)
  to_largest {k} n = rw (largest_call n) n

-- On a sound board the largest number is no more than there are points.
pub few_calls : (rs : List Record) (b : Board) → sound rs b ≡ true → b.done < 2 ^ 32 → last_call b ≤ most_points
few_calls rs b e f = last_room (watched rs) b.done b.minutes b.calls (last_call b) (sound_means rs b e).numbers f

-- ---- the fresh board

fresh_numbers : (rs : List Record) → NumbersOf rs fresh 0
fresh_numbers rs = numbers_none (watched rs) fresh.minutes fresh.calls (λ p l. get_or-replicate {A = ℕ} most_points p 0 0 l)

-- A fresh board is sound for any records.
pub fresh_sound : (rs : List Record) → sound rs fresh ≡ true
fresh_sound rs = sound_from rs fresh
    record {
      inside = λ p l d. clash (sym d ∙ member_empty p);
      nought = λ p l n. get_or-replicate {A = ℕ} most_points p 0 0 l;
      past = λ p l. omega (arith, get_or-replicate {A = ℕ} most_points p 0 0 l);
      attained = inl refl;
      links = λ i h k. record { ended = λ d. clash (sym d ∙ member_empty _); runs = λ d n. clash (sym d ∙ member_empty _) };
      few = omega arith;
      before = λ i h k d f. clash (sym d ∙ member_empty _);
      numbers = to_largest rs fresh (fresh_numbers rs);
    }
