-- The pass over the done points: what the slots hold of the points that were passed, what one more point does to them, why a
-- point that does not agree with them means that the numbers are not sound, and what they say when all were passed.
-- Assumes that no other point has a number.
use mathlib.Core.Path.{◌≡◌, refl, ap, sym, ◌∙◌}
use mathlib.Core.Logic.{◌⊎◌, inl, inr}
use mathlib.Core.Bool.{Bool, true, false, not, ◌&&◌, ◌||◌, or-true, and-false}
use mathlib.Core.List.{List}
use Prim.Native.Nat.{ℕ, zero, suc, ◌-◌, ◌^◌, ◌≤◌, ◌<◌}
use native.Mathlib.Omega.{arith}
use native.Mathlib.Nat.{eq-or-lt_of_le, min-eq_left}
use lib.Count.{ones}
use lib.Dec.{lit<, eqb, ltb, leb}
use lib.ListN.{length, get_or, set, length-set}
use lib.Seq.{get_or-set_same, get_or-set_other}
use borrow.Author.Tests.{eqb-true, eqb-false, eq-eqb, ltb-true, ltb-false, lt-ltb, le-ltb, leb-true, le-leb, not-true}
use Rattle.points.specs.Sets.{member, with_of, without_of, count_of, below_of, from, every}
use Rattle.points.proofs.Laws.{Turn, member_empty, member_past, member_below, below_fits, same_members, member_with, with_fits, with_past, with_count, member_without, count_le}
use Rattle.plan.specs.Limits.{most_points}
use Rattle.history.specs.History.{minute_in}
use Rattle.history.proofs.Tests.{clash, both, and_both, either, unless, as_unless}
use Rattle.history.proofs.Lists.{every_point, every_has, has_every, has_from, from_has}
use Rattle.calls.specs.Calls.{call_in, unnumbered, numbered, last_call}
use Rattle.calls.specs.Inside.{slot_of, slot_by, agrees_with, rises, in_order}
use Rattle.calls.proofs.Laws.{Numbers, numbers_means, numbers_from, last_room}

-- ---- sets

-- What a set has, it has with a point more.
with_had : (s p q : ℕ) → member s q ≡ true → member (with_of s p) q ≡ true
with_had s p q h = go (ltb p 32) refl
  where
    go : (b : Bool) → ltb p 32 ≡ b → member (with_of s p) q ≡ true
    go true e = member_with s p q (ltb-true p 32 e) ∙ rw h (or-true (eqb q p))
    go false e = ap (λ x. member x q) (with_past s p (ltb-false p 32 e)) ∙ h

below_at : (k p : ℕ) → k ≤ most_points → member (below_of k) p ≡ ltb p k
below_at k p l = member_below k p ∙ ap (λ n. ltb p n) (min-eq_left l)

below_next : (k : ℕ) → k < most_points → below_of (suc k) ≡ with_of (below_of k) k
below_next k l =
    same_members _ _ (below_fits (suc k)) (with_fits (below_of k) k (below_fits k))
    (λ p o. below_at (suc k) p (omega arith) ∙ split p (eqb p k) (ltb p k) refl refl ∙ sym (member_with (below_of k) k p l ∙ ap (λ b. eqb p k || b) (below_at k p (omega arith))))
  where
    split : (p : ℕ) (b c : Bool) → eqb p k ≡ b → ltb p k ≡ c → ltb p (suc k) ≡ (eqb p k || ltb p k)
    split p true c e f = lt-ltb p (suc k) (omega (arith, eqb-true p k e)) ∙ sym (rw e)
    split p false true e f = lt-ltb p (suc k) (omega (arith, ltb-true p k f)) ∙ sym (rw (e, f))
    split p false false e f = le-ltb p (suc k) (omega (arith, eqb-false p k e, ltb-false p k f)) ∙ sym (rw (e, f))

-- There are k points below k.
count_below : (k : ℕ) → k ≤ most_points → count_of (below_of k) ≡ k
unfolding below_of ones
count_below zero l = refl
count_below (suc k) l =
    let new : member (below_of k) k ≡ false = below_at k k (omega arith) ∙ le-ltb k k (omega arith) in
    ap count_of (below_next k l) ∙ with_count (below_of k) k l new ∙ omega (arith, count_below k (omega arith))

-- ---- the slots

module _ (watches : ℕ → Bool) (done : ℕ) (minutes calls : List ℕ) where
  -- a done point that was passed, where `rest` are left
  pub record Passed (rest p : ℕ) : Type 0 where
    pub small : p < most_points
    pub did : member done p ≡ true
    pub gone : member rest p ≡ false

  -- what the slots hold of a point
  pub record In (seen foremans : ℕ) (noted : List ℕ) (p : ℕ) : Type 0 where
    pub slot : ℕ
    pub inside : slot < most_points
    pub call : call_in calls p ≡ suc slot
    pub is_seen : member seen slot ≡ true
    pub minute : get_or noted slot 0 ≡ minute_in minutes p
    pub foreman : watches p ≡ false → member foremans slot ≡ true

  -- the slots hold the points that were passed, and nothing else
  pub record SlotsOf (rest seen foremans : ℕ) (noted : List ℕ) : Type 0 where
    pub fits : rest < 2 ^ 32
    pub seen_fits : seen < 2 ^ 32
    pub foremans_fits : foremans < 2 ^ 32
    pub room : length noted ≡ most_points
    pub left : (p : ℕ) → p < most_points → member rest p ≡ true → member done p ≡ true
    pub passed : (p : ℕ) → Passed rest p → In seen foremans noted p
    pub some : (s : ℕ) → s < most_points → member seen s ≡ true → (p : ℕ) × Passed rest p × (call_in calls p ≡ suc s)
    pub someone : (s : ℕ) → s < most_points → member foremans s ≡ true → (p : ℕ) × Passed rest p × (call_in calls p ≡ suc s) × (watches p ≡ false)
    pub one : (p q : ℕ) → Passed rest p → Passed rest q → call_in calls p ≡ call_in calls q → watches p ≡ false → watches q ≡ false → p ≡ q

  pub slots_start : (noted : List ℕ) → done < 2 ^ 32 → length noted ≡ most_points → SlotsOf done 0 0 noted
  slots_start noted f l =
      record {
        fits = f;
        seen_fits = lit< tt;
        foremans_fits = lit< tt;
        room = l;
        left = λ p o d. d;
        passed = λ p w. clash (sym w.did ∙ w.gone);
        some = λ s o h. clash (sym h ∙ member_empty s);
        someone = λ s o h. clash (sym h ∙ member_empty s);
        one = λ p q v w. clash (sym v.did ∙ v.gone);
      }

  -- ---- one more point

  module _ (rest seen foremans : ℕ) (noted : List ℕ) (inv : SlotsOf rest seen foremans noted) (p next : ℕ) (t : Turn rest p next)
      (er : next ≡ without_of rest p) (s by : ℕ) (es : s ≡ slot_of (call_in calls p)) (eb : by ≡ slot_by (watches p) s) where
    abbrev agreed : Bool
    agreed = agrees_with (call_in calls p) (minute_in minutes p) s by seen (get_or noted s 0) foremans

    is_done_lem : member done p ≡ true
    is_done_lem = inv.left p t.first.small t.first.there

    by_watched : watches p ≡ true → by ≡ most_points
    by_watched e = eb ∙ rw e

    by_foreman : watches p ≡ false → by ≡ s
    by_foreman e = eb ∙ rw e

    slot_small : s < most_points
    slot_small = omega arith

    slot_of_call : 1 ≤ call_in calls p → call_in calls p ≤ most_points → call_in calls p ≡ suc s
    slot_of_call a b = omega arith

    -- where the numbers are sound, the point agrees
    module _ (k : ℕ) (w : Numbers watches done minutes calls k) (f : done < 2 ^ 32) where
      abbrev n : ℕ
      n = call_in calls p

      n_least : 1 ≤ n
      n_least = w.least p t.first.small is_done_lem

      n_most : n ≤ most_points
      n_most = omega (arith, w.most p t.first.small is_done_lem, last_room watches done minutes calls k w f)

      same_there : member seen s ≡ true → get_or noted s 0 ≡ minute_in minutes p
      same_there h =
          let q = inv.some s slot_small h in
          let i = inv.passed q.0 q.1 in
          let e : i.slot ≡ s = omega (arith, i.call, q.2) in
          ap (λ x. get_or noted x 0) (sym e) ∙ i.minute
          ∙ w.same q.0 p q.1.small t.first.small q.1.did is_done_lem (q.2 ∙ sym (slot_of_call n_least n_most))

      lone_there : (b c : Bool) → watches p ≡ b → member foremans by ≡ c → c ≡ false
      lone_there b false e h = refl
      lone_there true true e h = clash (sym h ∙ ap (λ x. member foremans x) (by_watched e) ∙ member_past foremans most_points inv.foremans_fits (omega arith))
      lone_there false true e h =
          let q = inv.someone s slot_small (ap (λ x. member foremans x) (sym (by_foreman e)) ∙ h) in
          let same : q.0 ≡ p =
          w.one q.0 p q.1.small t.first.small q.1.did is_done_lem (q.2 ∙ sym (slot_of_call n_least n_most)) q.3 e in
          clash (sym t.first.there ∙ ap (λ x. member rest x) (sym same) ∙ q.1.gone)

      agrees_if : agreed ≡ true
      agrees_if =
          let third : not (member foremans by) ≡ true = ap not (lone_there (watches p) (member foremans by) refl refl) in
          and_both _ _ (and_both _ _ (lt-ltb 0 n n_least) (le-leb n most_points n_most))
          (and_both _ _ (as_unless (member seen s) _ (λ h. eq-eqb _ _ (same_there h))) third)

    -- A point that does not agree: the numbers are not sound.
    pub refused : done < 2 ^ 32 → (x : Bool) → x ≡ agreed → x ≡ false → false ≡ numbered watches done minutes calls
    refused f x ex e = go (numbered watches done minutes calls) refl
      where
        go : (b : Bool) → numbered watches done minutes calls ≡ b → false ≡ b
        go true h = clash (sym (agrees_if _ (numbers_means watches done minutes calls h) f) ∙ sym ex ∙ e)
        go false h = refl

    -- ---- the slots with a point that agrees

    module _ (x : Bool) (ex : x ≡ agreed) (agrees : x ≡ true) where
      ok : agreed ≡ true
      ok = sym ex ∙ agrees

      abbrev seen' : ℕ
      seen' = with_of seen s

      abbrev foremans' : ℕ
      foremans' = with_of foremans by

      abbrev noted' : List ℕ
      noted' = set noted s (minute_in minutes p)

      abbrev is_number : Bool
      is_number = ltb 0 (call_in calls p) && leb (call_in calls p) most_points

      abbrev same_minute_lem : Bool
      same_minute_lem = not (member seen s) || eqb (get_or noted s 0) (minute_in minutes p)

      is_call : call_in calls p ≡ suc s
      is_call =
          let r = both (ltb 0 (call_in calls p)) _ (both is_number _ ok).0 in
          slot_of_call (ltb-true _ _ r.0) (leb-true _ _ r.1)

      kept : member seen s ≡ true → get_or noted s 0 ≡ minute_in minutes p
      kept h = eqb-true _ _ (unless (member seen s) _ (both same_minute_lem _ (both is_number _ ok).1).0 h)

      lone : member foremans by ≡ false
      lone = not-true _ (both same_minute_lem _ (both is_number _ ok).1).1

      split : (q : ℕ) → Passed next q → (q ≡ p) ⊎ Passed rest q
      split q w = go (eqb q p) refl
        where
          go : (b : Bool) → eqb q p ≡ b → (q ≡ p) ⊎ Passed rest q
          go true e = inl (eqb-true q p e)
          go false e =
              let same : member next q ≡ member rest q = ap (λ r. member r q) er ∙ member_without rest p q ∙ rw e in
              inr record { small = w.small; did = w.did; gone = sym same ∙ w.gone }

      here : Passed next p
      here =
          record {
            small = t.first.small;
            did = is_done_lem;
            gone = ap (λ r. member r p) er ∙ member_without rest p p ∙ rw (eq-eqb p p refl);
          }

      still : (q : ℕ) → Passed rest q → Passed next q
      still q w =
          record {
            small = w.small;
            did = w.did;
            gone = ap (λ r. member r q) er ∙ member_without rest p q ∙ rw w.gone (and-false (not (eqb q p)));
          }

      in_here : In seen' foremans' noted' p
      in_here =
          record {
            slot = s;
            inside = slot_small;
            call = is_call;
            is_seen = member_with seen s s slot_small ∙ rw (eq-eqb s s refl);
            minute = get_or-set_same noted s (minute_in minutes p) 0 (omega (arith, inv.room, slot_small));
            foreman = λ e. ap (λ x. member (with_of foremans x) s) (by_foreman e) ∙ member_with foremans s s slot_small ∙ rw (eq-eqb s s refl);
          }

      in_still : (q : ℕ) → In seen foremans noted q → In seen' foremans' noted' q
      in_still q i =
          record {
            slot = i.slot;
            inside = i.inside;
            call = i.call;
            is_seen = with_had seen s i.slot i.is_seen;
            minute = go (eqb i.slot s) refl;
            foreman = λ e. with_had foremans by i.slot (i.foreman e);
          }
        where
          go : (b : Bool) → eqb i.slot s ≡ b → get_or noted' i.slot 0 ≡ minute_in minutes q
          go true e =
              let same : i.slot ≡ s = eqb-true i.slot s e in
              let was : get_or noted s 0 ≡ minute_in minutes p = kept (ap (λ x. member seen x) (sym same) ∙ i.is_seen) in
              ap (λ x. get_or noted' x 0) same ∙ get_or-set_same noted s (minute_in minutes p) 0 (omega (arith, inv.room, slot_small))
              ∙ sym was ∙ ap (λ x. get_or noted x 0) (sym same) ∙ i.minute
          go false e = get_or-set_other noted s i.slot (minute_in minutes p) 0 (eqb-false i.slot s e) ∙ i.minute

      in_next : (q : ℕ) → Passed next q → In seen' foremans' noted' q
      in_next q w = elim (split q w) [ inl e ↦ rw e in_here | inr v ↦ in_still q (inv.passed q v) ]

      some_next : (u : ℕ) → u < most_points → member seen' u ≡ true → (q : ℕ) × Passed next q × (call_in calls q ≡ suc u)
      some_next u l h =
          elim (either (eqb u s) (member seen u) (sym (member_with seen s u slot_small) ∙ h)) [
            | inl e ↦ (p, here, is_call ∙ ap suc (sym (eqb-true u s e)))
            | inr m ↦ let q = inv.some u l m in (q.0, still q.0 q.1, q.2)
          ]

      someone_next : (u : ℕ) → u < most_points → member foremans' u ≡ true → (q : ℕ) × Passed next q × (call_in calls q ≡ suc u) × (watches q ≡ false)
      someone_next u l h = go (watches p) refl
        where
          old : member foremans u ≡ true → (q : ℕ) × Passed next q × (call_in calls q ≡ suc u) × (watches q ≡ false)
          old m = let q = inv.someone u l m in (q.0, still q.0 q.1, q.2, q.3)

          go : (b : Bool) → watches p ≡ b → (q : ℕ) × Passed next q × (call_in calls q ≡ suc u) × (watches q ≡ false)
          go true e = old (sym (ap (λ x. member x u) (with_past foremans by (omega (arith, by_watched e)))) ∙ h)
          go false e =
              elim (either (eqb u s) (member foremans u) (sym (ap (λ x. member (with_of foremans x) u) (by_foreman e) ∙ member_with foremans s u slot_small) ∙ h)) [
                | inl k ↦ (p, here, is_call ∙ ap suc (sym (eqb-true u s k)), e)
                | inr m ↦ old m
              ]

      -- no foreman's point that was passed has the number of p, where p is one
      no_other : (q : ℕ) → Passed rest q → call_in calls q ≡ call_in calls p → watches q ≡ false → watches p ≡ false → q ≡ p
      no_other q v c e f =
          let i = inv.passed q v in
          let same : i.slot ≡ s = omega (arith, i.call, is_call) in
          clash (sym (i.foreman e) ∙ ap (λ x. member foremans x) (same ∙ sym (by_foreman f)) ∙ lone)

      one_next : (q r : ℕ) → Passed next q → Passed next r → call_in calls q ≡ call_in calls r → watches q ≡ false → watches r ≡ false → q ≡ r
      one_next q r v w c e f =
          elim (split q v) [
            | inl x ↦ elim (split r w) [
              | inl y ↦ x ∙ sym y
              | inr y ↦ x ∙ sym (no_other r y (sym c ∙ ap (call_in calls) x) f (ap watches (sym x) ∙ e))
            ]
            | inr x ↦ elim (split r w) [
              | inl y ↦ no_other q x (c ∙ ap (call_in calls) y) e (ap watches (sym y) ∙ f) ∙ sym y
              | inr y ↦ inv.one q r x y c e f
            ]
          ]

      -- With a point that agrees the slots hold one more.
      pub slots_turn : SlotsOf next seen' foremans' noted'
      slots_turn =
          record {
            fits = t.fits;
            seen_fits = with_fits seen s inv.seen_fits;
            foremans_fits = with_fits foremans by inv.foremans_fits;
            room = simp length-set inv.room;
            left = λ q l h. inv.left q l (both (not (eqb q p)) _ (sym (ap (λ r. member r q) er ∙ member_without rest p q) ∙ h)).1;
            passed = in_next;
            some = some_next;
            someone = someone_next;
            one = one_next;
          }

  -- ---- all were passed

  module _ (none : every (unnumbered done calls) (from 0 most_points) ≡ true) (seen foremans : ℕ) (noted : List ℕ) (inv : SlotsOf 0 seen foremans noted) where
    all : (p : ℕ) → p < most_points → member done p ≡ true → In seen foremans noted p
    all p l d = inv.passed p record { small = l; did = d; gone = member_empty p }

    -- two points of one number have one slot
    one_slot : (p q : ℕ) (i : In seen foremans noted p) (j : In seen foremans noted q) → call_in calls p ≡ call_in calls q → i.slot ≡ j.slot
    one_slot p q i j e = omega (arith, i.call, j.call)

    module _ (e : in_order seen noted ≡ true) where
      abbrev k : ℕ
      k = count_of seen

      k_small : k ≤ most_points
      k_small = count_le seen inv.seen_fits

      first_ones : (u : ℕ) → member seen u ≡ ltb u k
      first_ones u = ap (λ x. member x u) (eqb-true seen (below_of k) (both (eqb seen (below_of k)) _ e).0) ∙ below_at k u k_small

      rises_at : (u : ℕ) → suc u < k → get_or noted u 0 ≤ get_or noted (suc u) 0
      rises_at u l =
          leb-true _ _
          (every_has (rises noted) (from 0 (k - 1)) (both (eqb seen (below_of k)) _ e).1 u (has_from u (k - 1) 0 (omega arith) (omega arith)))

      climbs : (u v : ℕ) → u < v → v < k → get_or noted u 0 ≤ get_or noted v 0
      climbs u zero l h = absurd (omega arith)
      climbs u (suc v) l h =
          elim (eq-or-lt_of_le l) [
            | inl x ↦ let y : u ≡ v = omega arith in rw y (rises_at v h)
            | inr x ↦ omega (arith, climbs u v (omega arith) (omega arith), rises_at v h)
          ]

      in_order_numbers : Numbers watches done minutes calls k
      in_order_numbers =
          record {
            nought = λ p l n. eqb-true _ _ (rw n at (every_point (unnumbered done calls) none p l));
            least = λ p l d. omega (arith, (all p l d).call);
            most = λ p l d. let i = all p l d in omega (arith, i.call, ltb-true i.slot k (sym (first_ones i.slot) ∙ i.is_seen));
            each = λ n a b.
                let u : ℕ = n - 1 in
                let w = inv.some u (omega (arith, k_small)) (first_ones u ∙ lt-ltb u k (omega arith)) in
                (w.0, w.1.small, w.1.did, omega (arith, w.2));
            rising = λ p q l m d f a.
                let i = all p l d in
                let j = all q m f in
                let up = climbs i.slot j.slot (omega (arith, i.call, j.call)) (ltb-true j.slot k (sym (first_ones j.slot) ∙ j.is_seen)) in
                omega (arith, i.minute, j.minute, up);
            same = λ p q l m d f a.
                let i = all p l d in
                let j = all q m f in
                sym i.minute ∙ ap (λ x. get_or noted x 0) (one_slot p q i j a) ∙ j.minute;
            one = λ p q l m d f. inv.one p q record { small = l; did = d; gone = member_empty p } record { small = m; did = f; gone = member_empty q };
          }

    module _ (k : ℕ) (w : Numbers watches done minutes calls k) (f : done < 2 ^ 32) where
      few : k ≤ most_points
      few = last_room watches done minutes calls k w f

      -- the point of a slot that has one
      slot_held : (u : ℕ) → u < k → (p : ℕ) × (p < most_points) × (member done p ≡ true) × (call_in calls p ≡ suc u)
      slot_held u l = w.each (suc u) (omega arith) l

      seen_at : (u : ℕ) → u < k → member seen u ≡ true
      seen_at u l =
          let h = slot_held u l in
          let i = all h.0 h.1 h.2 in
          let same : i.slot ≡ u = omega (arith, i.call, h.3) in
          ap (λ x. member seen x) (sym same) ∙ i.is_seen

      noted_at : (u : ℕ) (l : u < k) → get_or noted u 0 ≡ minute_in minutes (slot_held u l).0
      noted_at u l =
          let h = slot_held u l in
          let i = all h.0 h.1 h.2 in
          let same : i.slot ≡ u = omega (arith, i.call, h.3) in
          ap (λ x. get_or noted x 0) (sym same) ∙ i.minute

      seen_is : seen ≡ below_of k
      seen_is = same_members seen (below_of k) inv.seen_fits (below_fits k) (λ u l. go u l (ltb u k) (member seen u) refl refl ∙ sym (below_at k u few))
        where
          go : (u : ℕ) → u < most_points → (b c : Bool) → ltb u k ≡ b → member seen u ≡ c → member seen u ≡ ltb u k
          go u l true c e h = seen_at u (ltb-true u k e) ∙ sym e
          go u l false true e h =
              let p = inv.some u l h in
              absurd (omega (arith, p.2, w.most p.0 p.1.small p.1.did, ltb-false u k e))
          go u l false false e h = h ∙ sym e

      count_is : count_of seen ≡ k
      count_is = ap count_of seen_is ∙ count_below k few

      up_at : (u : ℕ) → suc u < k → rises noted u ≡ true
      up_at u l =
          let a : u < k = omega arith in
          let g = slot_held u a in
          let h = slot_held (suc u) l in
          let c : call_in calls g.0 < call_in calls h.0 = omega (arith, g.3, h.3) in
          le-leb (get_or noted u 0) (get_or noted (suc u) 0) (omega (arith, noted_at u a, noted_at (suc u) l, w.rising g.0 h.0 g.1 h.1 g.2 h.2 c))

      numbers_in_order : in_order seen noted ≡ true
      numbers_in_order =
          and_both _ _ (eq-eqb seen (below_of (count_of seen)) (seen_is ∙ ap below_of (sym count_is)))
          (has_every (rises noted) (from 0 (count_of seen - 1)) (λ u h. up_at u (omega (arith, count_is, from_has u (count_of seen - 1) 0 h))))

    -- When all were passed, the numbers are sound just where the slots are in order.
    pub slots_end : done < 2 ^ 32 → in_order seen noted ≡ numbered watches done minutes calls
    slots_end f = go (in_order seen noted) (numbered watches done minutes calls) refl refl
      where
        go : (b c : Bool) → in_order seen noted ≡ b → numbered watches done minutes calls ≡ c → b ≡ c
        go true c e h = sym (numbers_from watches done minutes calls (count_of seen) (in_order_numbers e)) ∙ h
        go false true e h = clash (sym (numbers_in_order (last_call done calls) (numbers_means watches done minutes calls h) f) ∙ e)
        go false false e h = refl
