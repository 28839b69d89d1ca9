-- What the numbers of events are where the test takes them for sound, as facts rather than as a test, and back; and what one
-- more event does to them. Assumes nothing.
use mathlib.Core.Path.{◌≡◌, refl, sym, ◌∙◌}
use mathlib.Core.Logic.{◌⊎◌, inl, inr}
use mathlib.Core.Bool.{Bool, true, false, not, ◌&&◌, ◌||◌, or-true, or-false}
use mathlib.Core.List.{List, [], ◌∷◌}
use Prim.Native.Nat.{ℕ, zero, suc, ◌+◌, ◌-◌, ◌^◌, ◌≤◌, ◌<◌}
use native.Mathlib.Omega.{arith}
use native.Mathlib.Nat.{eq-or-lt_of_le}
use lib.Dec.{eqb, ltb}
use borrow.Author.Tests.{eqb-true, eqb-false, eq-eqb, ne_eqb, ltb-true, ltb-false, lt-ltb, leb-true, le-leb, not-true, not-false}
use Rattle.points.specs.Sets.{member, members_of, without_of, count_of, from, every}
use Rattle.points.proofs.Laws.{member_empty, member_without, without_count, count_le}
use Rattle.plan.specs.Limits.{most_points}
use Rattle.history.specs.History.{minute_in}
use Rattle.history.proofs.Tests.{clash, both, and_both, either, unless, as_unless}
use Rattle.history.proofs.Lists.{has, every_has, every_point, point_every, has_members, members_has, every_member, member_every, largest_le, largest_ge, largest_at}
-- the cases first: a wrong rule is then an error about them
use Rattle.calls.proofs.ACase.{cases}
use Rattle.calls.specs.Calls.{call_in, unnumbered, no_gap, never_fall, same_minute, one_foreman, any_two, numbered, last_call}

-- ---- tests of some points

module _ (test : ℕ → Bool) where
  -- Where not all of a list pass, one does not, and back.
  some_fails : (ps : List ℕ) → every test ps ≡ false → (q : ℕ) × (has q ps ≡ true) × (test q ≡ false)
  unfolding every
  some_fails [] e = clash e
  some_fails (p ∷ ps) e = go (test p) refl e (some_fails ps)
    where
      go : (b : Bool) → test p ≡ b → (b && every test ps) ≡ false → (every test ps ≡ false → (q : ℕ) × (has q ps ≡ true) × (test q ≡ false))
          → (q : ℕ) × (has q (p ∷ ps) ≡ true) × (test q ≡ false)
      go true t f later = let w = later f in (w.0, rw w.1 (or-true (eqb w.0 p)), w.2)
      go false t f later = (p, rw (eq-eqb p p refl), t)

  fails_some : (ps : List ℕ) (q : ℕ) → has q ps ≡ true → test q ≡ false → every test ps ≡ false
  fails_some ps q h e = go (every test ps) refl
    where
      go : (b : Bool) → every test ps ≡ b → b ≡ false
      go true k = clash (sym (every_has test ps k q h) ∙ e)
      go false k = refl

-- Two tests that agree at each point of a list agree of all.
same_every : (f g : ℕ → Bool) (ps : List ℕ) → ((q : ℕ) → has q ps ≡ true → f q ≡ g q) → every f ps ≡ every g ps
unfolding every
same_every f g [] h = refl
same_every f g (p ∷ ps) h =
    rw (h p (rw (eq-eqb p p refl)), same_every f g ps (λ q k. h q (rw k (or-true (eqb q p)))))

module _ (so : ℕ → ℕ → Bool) (done : ℕ) where
  any_two_lem : any_two so done ≡ true → (p q : ℕ) → p < most_points → q < most_points → member done p ≡ true → member done q ≡ true → so p q ≡ true
  any_two_lem e p q l m d f =
      every_member (so p) done (every_member (λ (r : ℕ). every (so r) (members_of done)) done e p l d) q m f

  two_any : ((p q : ℕ) → p < most_points → q < most_points → member done p ≡ true → member done q ≡ true → so p q ≡ true) → any_two so done ≡ true
  two_any h =
      member_every (λ (r : ℕ). every (so r) (members_of done)) done (λ p l d. member_every (so p) done (λ q m f. h p q l m d f))

-- ---- the numbers

-- some done point has the number n
abbrev pub Held : ℕ → List ℕ → ℕ → Type 0
Held done calls n = (p : ℕ) × (p < most_points) × (member done p ≡ true) × (call_in calls p ≡ n)

-- the numbers are sound, and k is the largest
pub record Numbers (watches : ℕ → Bool) (done : ℕ) (minutes calls : List ℕ) (k : ℕ) : Type 0 where
  -- a point not done holds 0
  pub nought : (p : ℕ) → p < most_points → member done p ≡ false → call_in calls p ≡ 0
  -- a done point has one of 1 up to k
  pub least : (p : ℕ) → p < most_points → member done p ≡ true → 1 ≤ call_in calls p
  pub most : (p : ℕ) → p < most_points → member done p ≡ true → call_in calls p ≤ k
  -- without gaps
  pub each : (n : ℕ) → 1 ≤ n → n ≤ k → Held done calls n
  -- minutes never fall as numbers rise
  pub rising : (p q : ℕ) → p < most_points → q < most_points → member done p ≡ true → member done q ≡ true
      → call_in calls p < call_in calls q → minute_in minutes p ≤ minute_in minutes q
  -- the same minute for the same number
  pub same : (p q : ℕ) → p < most_points → q < most_points → member done p ≡ true → member done q ≡ true
      → call_in calls p ≡ call_in calls q → minute_in minutes p ≡ minute_in minutes q
  -- at most one foreman's point for each number
  pub one : (p q : ℕ) → p < most_points → q < most_points → member done p ≡ true → member done q ≡ true
      → call_in calls p ≡ call_in calls q → watches p ≡ false → watches q ≡ false → p ≡ q

module _ (done : ℕ) (calls : List ℕ) where
  -- what a done point without a gap below it has
  gapless : (p : ℕ) → no_gap done calls p ≡ true → (call_in calls p ≡ 1) ⊎ ((q : ℕ) × (q < most_points) × (member done q ≡ true) × (call_in calls p ≡ suc (call_in calls q)))
  gapless p e =
      let next : ℕ → Bool = λ (q : ℕ). not (eqb (call_in calls p) (suc (call_in calls q))) in
      elim (either (eqb (call_in calls p) 1) _ e) [
        | inl k ↦ inl (eqb-true _ _ k)
        | inr k ↦
            let w = some_fails next (members_of done) (not-true _ k) in
            let m = members_has done w.0 w.1 in
            inr (w.0, m.0, m.1, eqb-true _ _ (not-false _ w.2))
      ]

  module _ (none : (p : ℕ) → p < most_points → member done p ≡ true → no_gap done calls p ≡ true) where
    from_one : (p : ℕ) → p < most_points → member done p ≡ true → 1 ≤ call_in calls p
    from_one p l d = elim (gapless p (none p l d)) [ inl k ↦ omega arith | inr w ↦ omega (arith, w.3) ]

    -- all numbers from 1 up to that of a done point are held
    downwards : (n p : ℕ) → p < most_points → member done p ≡ true → call_in calls p ≡ n → (m : ℕ) → 1 ≤ m → m ≤ n → Held done calls m
    downwards zero p l d e m a b = absurd (omega arith)
    downwards (suc n) p l d e m a b =
        elim (eq-or-lt_of_le b) [
          | inl k ↦ (p, l, d, e ∙ sym k)
          | inr h ↦ elim (gapless p (none p l d)) [
            | inl z ↦ absurd (omega arith)
            | inr w ↦ downwards n w.0 w.1 w.2 (omega (arith, w.3)) m a (omega arith)
          ]
        ]

    to_last : (n : ℕ) → 1 ≤ n → n ≤ last_call done calls → Held done calls n
    to_last n a b =
        elim (largest_at calls (members_of done)) [
          | inl z ↦ absurd (omega arith)
          | inr w ↦
              let m = members_has done w.0 w.1 in
              downwards (last_call done calls) w.0 m.0 m.1 w.2 n a b
        ]

  pub under_last : (p : ℕ) → p < most_points → member done p ≡ true → call_in calls p ≤ last_call done calls
  under_last p l d = largest_ge calls (members_of done) p (has_members done p l ∙ d)

module _ (watches : ℕ → Bool) (done : ℕ) (minutes calls : List ℕ) where
  -- Numbers that the test takes for sound are sound.
  pub numbers_means : numbered watches done minutes calls ≡ true → Numbers watches done minutes calls (last_call done calls)
  unfolding numbered
  numbers_means e =
      let s1 = both (every (unnumbered done calls) (from 0 most_points)) _ e in
      let s2 = both (every (no_gap done calls) (members_of done)) _ s1.1 in
      let s3 = both (any_two (never_fall minutes calls) done) _ s2.1 in
      let s4 = both (any_two (same_minute minutes calls) done) _ s3.1 in
      let none = every_member (no_gap done calls) done s2.0 in
      record {
        nought = λ p l n. eqb-true _ _ (rw n at (every_point (unnumbered done calls) s1.0 p l));
        least = from_one done calls none;
        most = under_last done calls;
        each = to_last done calls none;
        rising = λ p q l m d f a. leb-true _ _ (unless _ _ (any_two_lem (never_fall minutes calls) done s3.0 p q l m d f) (lt-ltb _ _ a));
        same = λ p q l m d f a. eqb-true _ _ (unless _ _ (any_two_lem (same_minute minutes calls) done s4.0 p q l m d f) (eq-eqb _ _ a));
        one = λ p q l m d f a u v.
            let w : (eqb p q || (watches p || watches q)) ≡ true = unless _ _ (any_two_lem (one_foreman watches calls) done s4.1 p q l m d f) (eq-eqb _ _ a) in
            eqb-true p q (rw (u, v, or-false (eqb p q)) at w);
      }

  module _ (k : ℕ) (w : Numbers watches done minutes calls k) where
    fits_from : (p : ℕ) → p < most_points → unnumbered done calls p ≡ true
    fits_from p l = go (member done p) refl
      where
        go : (b : Bool) → member done p ≡ b → (b || eqb (call_in calls p) 0) ≡ true
        go true e = refl
        go false e = eq-eqb _ _ (w.nought p l e)

    gap_from : (p : ℕ) → p < most_points → member done p ≡ true → no_gap done calls p ≡ true
    gap_from p l d = go (eqb (call_in calls p) 1) refl
      where
        next : ℕ → Bool
        next q = not (eqb (call_in calls p) (suc (call_in calls q)))

        go : (b : Bool) → eqb (call_in calls p) 1 ≡ b → (b || not (every next (members_of done))) ≡ true
        go true e = refl
        go false e =
            let before : ℕ = call_in calls p - 1 in
            let h = w.each before (omega (arith, w.least p l d, eqb-false (call_in calls p) 1 e)) (omega (arith, w.most p l d)) in
            let s : call_in calls p ≡ suc (call_in calls h.0) = omega (arith, h.3, w.least p l d) in
            let n : next h.0 ≡ false = rw (eq-eqb _ _ s) in
            rw (fails_some next (members_of done) h.0 (has_members done h.0 h.1 ∙ h.2) n)

    one_from : (p q : ℕ) → p < most_points → q < most_points → member done p ≡ true → member done q ≡ true → one_foreman watches calls p q ≡ true
    one_from p q l m d f = as_unless (eqb (call_in calls p) (call_in calls q)) _ (λ a. go (eqb-true _ _ a) (watches p) (watches q) refl refl)
      where
        go : call_in calls p ≡ call_in calls q → (b c : Bool) → watches p ≡ b → watches q ≡ c → (eqb p q || (b || c)) ≡ true
        go a true c u v = or-true (eqb p q)
        go a false true u v = or-true (eqb p q)
        go a false false u v = rw (eq-eqb p q (w.one p q l m d f a u v))

    -- Numbers that are sound are taken for sound by the test.
    pub numbers_from : numbered watches done minutes calls ≡ true
    unfolding numbered
    numbers_from =
        and_both _ _ (point_every (unnumbered done calls) fits_from)
        (and_both _ _ (member_every (no_gap done calls) done gap_from)
        (and_both _ _
        (two_any (never_fall minutes calls) done (λ p q l m d f. as_unless _ _ (λ a. le-leb _ _ (w.rising p q l m d f (ltb-true _ _ a)))))
        (and_both _ _
        (two_any (same_minute minutes calls) done (λ p q l m d f. as_unless _ _ (λ a. eq-eqb _ _ (w.same p q l m d f (eqb-true _ _ a)))))
        (two_any (one_foreman watches calls) done one_from))))

    -- k is the largest number.
    pub last_is : last_call done calls ≡ k
    last_is =
        let above : last_call done calls ≤ k = largest_le calls k (members_of done) (λ q h. let m = members_has done q h in w.most q m.0 m.1) in
        go (ltb 0 k) refl above
      where
        go : (b : Bool) → ltb 0 k ≡ b → last_call done calls ≤ k → last_call done calls ≡ k
        go true e a =
            let h = w.each k (ltb-true 0 k e) (omega arith) in
            omega (arith, h.3, under_last done calls h.0 h.1 h.2)
        go false e a = omega (arith, ltb-false 0 k e)

    -- what is left of the done points once one for each number up to j is taken out
    left : (j : ℕ) → j ≤ k → (s : ℕ) × (count_of done ≡ count_of s + j) × ((p : ℕ) → p < most_points → member done p ≡ true → j < call_in calls p → member s p ≡ true)
    left zero a = (done, omega arith, λ p l d o. d)
    left (suc j) a =
        let before = left j (omega arith) in
        let h = w.each (suc j) (omega arith) a in
        let s = before.0 in
        let there : member s h.0 ≡ true = before.2 h.0 h.1 h.2 (omega (arith, h.3)) in (
          without_of s h.0,
          omega (arith, before.1, without_count s h.0 there),
          λ p l d o. member_without s h.0 p ∙ rw (ne_eqb p h.0 (λ e. other h.0 p h.3 o e)) (before.2 p l d (omega arith)),
        )
      where
        other : (q p : ℕ) → call_in calls q ≡ suc j → suc j < call_in calls p → p ≡ q → ⊥
        other q p c o e = let same : call_in calls p ≡ call_in calls q = rw e in omega arith

    -- There are no more numbers than done points.
    pub last_few : k ≤ count_of done
    last_few = let r = left k (omega arith) in omega (arith, r.1)

    pub last_room : done < 2 ^ 32 → k ≤ most_points
    last_room f = omega (arith, last_few, count_le done f)

-- Where nothing is done and every number is 0, the numbers are sound, and the largest is 0.
pub numbers_none : (watches : ℕ → Bool) (minutes calls : List ℕ) → ((p : ℕ) → p < most_points → call_in calls p ≡ 0) → Numbers watches 0 minutes calls 0
numbers_none watches minutes calls h =
    record {
      nought = λ p l n. h p l;
      least = λ p l d. clash (sym d ∙ member_empty p);
      most = λ p l d. clash (sym d ∙ member_empty p);
      each = λ n a b. absurd (omega arith);
      rising = λ p q l m d f a. clash (sym d ∙ member_empty p);
      same = λ p q l m d f a. clash (sym d ∙ member_empty p);
      one = λ p q l m d f a u v. clash (sym d ∙ member_empty p);
    }

-- Which points are watched is asked only of points that a board has room for.
pub numbered_by : (f g : ℕ → Bool) (done : ℕ) (minutes calls : List ℕ) → ((p : ℕ) → p < most_points → f p ≡ g p)
    → numbered f done minutes calls ≡ numbered g done minutes calls
unfolding numbered
numbered_by f g done minutes calls h = rw foremans
  where
    small : (p : ℕ) → has p (members_of done) ≡ true → f p ≡ g p
    small p k = h p (members_has done p k).0

    foremans : any_two (one_foreman f calls) done ≡ any_two (one_foreman g calls) done
    foremans =
        same_every (λ (p : ℕ). every (one_foreman f calls p) (members_of done)) (λ (p : ℕ). every (one_foreman g calls p) (members_of done)) (members_of done)
        (λ p k. same_every (one_foreman f calls p) (one_foreman g calls p) (members_of done) (λ q m. rw (small p k, small q m)))

-- ---- one more event

-- An event names some points, none of them done and at most one of them a foreman's, and does them at the minute t, which no
-- done one is past; they have the number n, and every other point has what it had.
pub record Adds (watches names : ℕ → Bool) (done : ℕ) (minutes calls : List ℕ) (t n after : ℕ) (minutes_after calls_after : List ℕ) : Type 0 where
  pub some : (p : ℕ) × (p < most_points) × (names p ≡ true)
  pub waiting : (p : ℕ) → p < most_points → names p ≡ true → member done p ≡ false
  pub late : (p : ℕ) → p < most_points → member done p ≡ true → minute_in minutes p ≤ t
  pub lone : (p q : ℕ) → p < most_points → q < most_points → names p ≡ true → names q ≡ true → watches p ≡ false → watches q ≡ false → p ≡ q
  pub marked : (p : ℕ) → p < most_points → member after p ≡ (member done p || names p)
  pub minute : (p : ℕ) → p < most_points → names p ≡ true → minute_in minutes_after p ≡ t
  pub call : (p : ℕ) → p < most_points → names p ≡ true → call_in calls_after p ≡ n
  pub other_minute : (p : ℕ) → p < most_points → names p ≡ false → minute_in minutes_after p ≡ minute_in minutes p
  pub other_call : (p : ℕ) → p < most_points → names p ≡ false → call_in calls_after p ≡ call_in calls p

module _ (watches names : ℕ → Bool) (done : ℕ) (minutes calls : List ℕ) (t k after : ℕ) (minutes_after calls_after : List ℕ)
    (w : Numbers watches done minutes calls k) (a : Adds watches names done minutes calls t (suc k) after minutes_after calls_after) where
  -- a point that was done before, as it was
  record Was (p : ℕ) : Type 0 where
    done_before : member done p ≡ true
    minute_was : minute_in minutes_after p ≡ minute_in minutes p
    call_was : call_in calls_after p ≡ call_in calls p

  -- a point that the event has done
  record Is (p : ℕ) : Type 0 where
    is_named : names p ≡ true
    minute_is : minute_in minutes_after p ≡ t
    call_is : call_in calls_after p ≡ suc k

  was_or_is : (p : ℕ) → p < most_points → member after p ≡ true → Was p ⊎ Is p
  was_or_is p l d = go (names p) refl
    where
      go : (b : Bool) → names p ≡ b → Was p ⊎ Is p
      go true e = inr record { is_named = e; minute_is = a.minute p l e; call_is = a.call p l e }
      go false e =
          inl record {
            done_before = sym (or-false (member done p)) ∙ (rw e at (sym (a.marked p l))) ∙ d;
            minute_was = a.other_minute p l e;
            call_was = a.other_call p l e;
          }

  still : (p : ℕ) → p < most_points → member done p ≡ true → names p ≡ false
  still p l d = go (names p) refl
    where
      go : (b : Bool) → names p ≡ b → b ≡ false
      go true e = clash (sym d ∙ a.waiting p l e)
      go false e = refl

  next_nought : (p : ℕ) → p < most_points → member after p ≡ false → call_in calls_after p ≡ 0
  next_nought p l n = go (member done p) (names p) refl refl
    where
      go : (b c : Bool) → member done p ≡ b → names p ≡ c → call_in calls_after p ≡ 0
      go true c d e = clash (sym (a.marked p l ∙ rw d) ∙ n)
      go false true d e = clash (sym (a.marked p l ∙ rw (d, e)) ∙ n)
      go false false d e = a.other_call p l e ∙ w.nought p l d

  next_each : (n : ℕ) → 1 ≤ n → n ≤ suc k → Held after calls_after n
  next_each n o u =
      elim (eq-or-lt_of_le u) [
        | inl e ↦
            let s = a.some in
            (s.0, s.1, a.marked s.0 s.1 ∙ rw s.2 (or-true (member done s.0)), a.call s.0 s.1 s.2 ∙ sym e)
        | inr v ↦
            let h = w.each n o (omega arith) in
            (h.0, h.1, a.marked h.0 h.1 ∙ rw h.2, a.other_call h.0 h.1 (still h.0 h.1 h.2) ∙ h.3)
      ]

  -- One more event makes one more number: its points have it, and the rest is as it was.
  pub numbers_step : Numbers watches after minutes_after calls_after (suc k)
  numbers_step =
      record {
        nought = next_nought;
        least = λ p l d. elim (was_or_is p l d) [ inl x ↦ omega (arith, x.call_was, w.least p l x.done_before) | inr x ↦ omega (arith, x.call_is) ];
        most = λ p l d. elim (was_or_is p l d) [ inl x ↦ omega (arith, x.call_was, w.most p l x.done_before) | inr x ↦ omega (arith, x.call_is) ];
        each = next_each;
        rising = λ p q l m d f c. elim (was_or_is p l d) [
          | inl x ↦ elim (was_or_is q m f) [
            | inl y ↦
                let h : call_in calls p < call_in calls q = omega (arith, x.call_was, y.call_was) in
                omega (arith, x.minute_was, y.minute_was, w.rising p q l m x.done_before y.done_before h)
            | inr y ↦ omega (arith, x.minute_was, y.minute_is, a.late p l x.done_before)
          ]
          | inr x ↦ elim (was_or_is q m f) [
            | inl y ↦ absurd (omega (arith, x.call_is, y.call_was, w.most q m y.done_before))
            | inr y ↦ absurd (omega (arith, x.call_is, y.call_is))
          ]
        ];
        same = λ p q l m d f c. elim (was_or_is p l d) [
          | inl x ↦ elim (was_or_is q m f) [
            | inl y ↦
                let h : call_in calls p ≡ call_in calls q = sym x.call_was ∙ c ∙ y.call_was in
                x.minute_was ∙ w.same p q l m x.done_before y.done_before h ∙ sym y.minute_was
            | inr y ↦ absurd (omega (arith, x.call_was, y.call_is, w.most p l x.done_before))
          ]
          | inr x ↦ elim (was_or_is q m f) [
            | inl y ↦ absurd (omega (arith, x.call_is, y.call_was, w.most q m y.done_before))
            | inr y ↦ x.minute_is ∙ sym y.minute_is
          ]
        ];
        one = λ p q l m d f c u v. elim (was_or_is p l d) [
          | inl x ↦ elim (was_or_is q m f) [
            | inl y ↦ w.one p q l m x.done_before y.done_before (sym x.call_was ∙ c ∙ y.call_was) u v
            | inr y ↦ absurd (omega (arith, x.call_was, y.call_is, w.most p l x.done_before))
          ]
          | inr x ↦ elim (was_or_is q m f) [
            | inl y ↦ absurd (omega (arith, x.call_is, y.call_was, w.most q m y.done_before))
            | inr y ↦ a.lone p q l m x.is_named y.is_named u v
          ]
        ];
      }
