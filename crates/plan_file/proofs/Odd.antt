-- Byte 3 beside the check of a plan: what is refused first in a file is what would be if every byte 3 were zero, or the first record
-- whose byte 3 is not. Assumes nothing.
use mathlib.Core.Path.{◌≡◌, refl, sym, ap, ◌∙◌}
use mathlib.Core.Bool.{Bool, true, false, not, ◌&&◌, ◌||◌, and-false, true≢false}
use mathlib.Core.List.{List, [], ◌∷◌, ◌++◌, map}
use Prim.Native.Nat.{ℕ, suc, ◌+◌, ◌<◌, ◌≤◌}
use native.Mathlib.Nat.{add-zero, zero-add}
use native.Mathlib.Omega.{arith}
use lib.Dec.{eqb, ltb}
use lib.ListN.{length, length-append, length-map}
use borrow.Author.Tests.{eqb-true, eqb-false, eq-eqb, ne_eqb, lt-ltb, le-ltb}
use Rattle.std.specs.Prelude.{if◌then◌else◌}
use Rattle.plan.specs.Limits.{most_ordinary, most_records}
use Rattle.plan.specs.APlan.{plan_of, Kind, point, link, ordinary, wait, unknown, kind_of}
use Rattle.plan.specs.PlanFile.{Entry}
use Rattle.plan.specs.ReplyNumbers.{Before, after, is_nought, is_known, in_order, room_for_with, zeros, named, apart, joined, bounded, number_for_with, number_with, first_bad_with, first_bad, check_of, refusal}
use Rattle.rules.specs.OneRecord.{single}
use Rattle.plan.specs.Held.{plain}
use Rattle.plan.specs.Inside.{whats}
use Rattle.plan_file.specs.Inside.{first_odd, with_odd}
use Rattle.plan.proofs.Limited.{records_of_plan}
use Rattle.plan.proofs.Pairing.{check_each}
use Rattle.records.specs.declared.Record.{Record}
use Rattle.plan.specs.declared.Refusal.{Refusal}

-- ---- one record

-- it is refused, for what comes before 7
abbrev sooner : ℕ → Bool
sooner n = not (eqb n 0) && ltb n 7

record Late (n : ℕ) : Type 0 where
  pub not_sooner : sooner n ≡ false

late : (b : Bool) (x y : ℕ) → Late x → Late y → Late (if b then x else y)
late true x y f g = f
late false x y f g = g

module _ (m : ℕ) (k : Kind) (b : Before) (r : Record) where
  -- 7 and what comes after it
  abbrev others : ℕ → ℕ
  others z =
      if not (zeros k r z) then 7
      else (if not (named b k r) then 8
      else (if not (apart k r) then 9
      else (if not (single b k r) then 15
      else (if not (joined b k r) then 10
      else (if not (bounded b k r) then 11
      else 0)))))

  others_late : Late (others 0)
  others_late =
      let l : (n : ℕ) → sooner n ≡ false → Late n = λ n e. record { not_sooner = e } in
      let eleven = late (not (bounded b k r)) 11 0 (l 11 refl) (l 0 refl) in
      let ten = late (not (joined b k r)) 10 _ (l 10 refl) eleven in
      let fifteen = late (not (single b k r)) 15 _ (l 15 refl) ten in
      let nine = late (not (apart k r)) 9 _ (l 9 refl) fifteen in
      late (not (zeros k r 0)) 7 _ (l 7 refl) (late (not (named b k r)) 8 _ (l 8 refl) nine)

  -- a number with a byte 3 that is not zero: the one with zero where that comes before 7, else 7
  pub number_odd : (z : ℕ) → (z ≡ 0 → ⊥) → number_for_with m k b r z ≡ (if sooner (number_for_with m k b r 0) then number_for_with m k b r 0 else 7)
  unfolding number_for_with
  number_odd z n = go (is_known k) (in_order b r) (room_for_with m b k) refl refl refl
    where
      zeros_odd : (j : Kind) → is_known j ≡ true → zeros j r z ≡ false
      zeros_odd point e = rw (ne_eqb z 0 n, and-false (is_nought r.second), and-false (is_nought r.first), and-false (eqb r.b 0))
      zeros_odd link e = rw (ne_eqb z 0 n, and-false (eqb r.code 0))
      zeros_odd ordinary e = rw (ne_eqb z 0 n, and-false (eqb r.code 0), and-false (is_nought r.second))
      zeros_odd wait e = rw (ne_eqb z 0 n, and-false (eqb r.code 0), and-false (is_nought r.second))
      zeros_odd unknown e = absurd (true≢false (sym e))

      go : (x y w : Bool) → is_known k ≡ x → in_order b r ≡ y → room_for_with m b k ≡ w
          → number_for_with m k b r z ≡ (if sooner (number_for_with m k b r 0) then number_for_with m k b r 0 else 7)
      go false y w e f g = rw e
      go true false w e f g = rw (e, f)
      go true true false e f g = rw (e, f, g)
      go true true true e f g = rw (e, f, g, zeros_odd k e, others_late.not_sooner)

-- ---- all of a file

-- a refused record stands after those before it
later : (m : ℕ) (rs : List Record) (es : List Entry) → ((first_bad_with m rs es).number ≡ 0 → ⊥) → length rs ≤ (first_bad_with m rs es).place
unfolding first_bad_with
later m rs [] n = absurd (n refl)
later m rs (e ∷ es) n = go (eqb (number_with m (after rs) e.what e.reserved) 0) refl n (later m (rs ++ (e.what ∷ [])) es)
  where
    go : (b : Bool) → eqb (number_with m (after rs) e.what e.reserved) 0 ≡ b → ((first_bad_with m rs (e ∷ es)).number ≡ 0 → ⊥)
        → (((first_bad_with m (rs ++ (e.what ∷ [])) es).number ≡ 0 → ⊥) → length (rs ++ (e.what ∷ [])) ≤ (first_bad_with m (rs ++ (e.what ∷ [])) es).place)
        → length rs ≤ (first_bad_with m rs (e ∷ es)).place
    go true t n f = rw t (omega (arith, f (rw t at n), length-append rs (e.what ∷ [])))
    go false t n f = rw t (omega arith)

-- what is refused sooner stands, and what is not gives way to 7
module _ (odd : ℕ) (f : Refusal) where
  abbrev stays : Bool
  stays = not (eqb f.number 0) && (ltb f.place odd || (eqb f.place odd && ltb f.number 7))

  pub odd_stays : stays ≡ true → f ≡ with_odd odd f
  odd_stays e = rw e

  pub odd_seven : stays ≡ false → refusal 7 odd ≡ with_odd odd f
  odd_seven e = rw e

-- byte 3 counts where some is not zero, of n records
abbrev pub beside : ℕ → ℕ → Refusal → Refusal
beside n odd f = if eqb odd n then f else with_odd odd f

-- a refusal before the first byte 3 that is not zero stands
stands : (n odd k x : ℕ) → (x ≡ 0 → ⊥) → k < odd → refusal x k ≡ beside n odd (refusal x k)
stands n odd k x z h = go (eqb odd n) refl
  where
    go : (b : Bool) → eqb odd n ≡ b → refusal x k ≡ beside n odd (refusal x k)
    go true t = rw t
    go false t = rw (t, ne_eqb x 0 z, lt-ltb k odd h)

-- nothing is refused up to the first byte 3 that is not zero
gives_way : (odd : ℕ) (f : Refusal) → ((f.number ≡ 0 → ⊥) → odd < f.place) → refusal 7 odd ≡ with_odd odd f
gives_way odd f h = go (eqb f.number 0) refl
  where
    go : (b : Bool) → eqb f.number 0 ≡ b → refusal 7 odd ≡ with_odd odd f
    go true t = rw t
    go false t =
        let l : odd < f.place = h (eqb-false _ 0 t) in
        let e : f.place ≡ odd → ⊥ = λ e. omega arith in
        rw (t, le-ltb f.place odd (omega arith), ne_eqb f.place odd e)

-- the record itself is refused, for what comes before 7 or after
itself : (k x : ℕ) → refusal (if ltb x 7 then x else 7) k ≡ (if ltb k k || (eqb k k && ltb x 7) then refusal x k else refusal 7 k)
itself k x = rw (le-ltb k k (omega arith), eq-eqb k k refl) (go (ltb x 7))
  where
    go : (b : Bool) → refusal (if b then x else 7) k ≡ (if b then refusal x k else refusal 7 k)
    go true = refl
    go false = refl

still_refused : (b : Bool) (x : ℕ) → (x ≡ 0 → ⊥) → eqb (if b then x else 7) 0 ≡ false
still_refused true x z = ne_eqb x 0 z
still_refused false x z = refl

-- it is one of the places, or comes after them
pub odd_le : (es : List Entry) → first_odd es ≤ length es
unfolding first_odd
odd_le [] = omega arith
odd_le (e ∷ es) = go (eqb e.reserved 0) (odd_le es)
  where
    go : (b : Bool) → first_odd es ≤ length es → (if b then suc (first_odd es) else 0) ≤ suc (length es)
    go true h = omega arith
    go false h = omega arith

pub odd_first : (m : ℕ) (rs : List Record) (es : List Entry)
    → first_bad_with m rs es ≡ beside (length rs + length es) (length rs + first_odd es) (first_bad_with m rs (map plain (whats es)))
unfolding first_bad_with first_odd
odd_first m rs [] = rw (eq-eqb (length rs + 0) (length rs + 0) refl)
odd_first m rs (e ∷ es) = go (eqb e.reserved 0) (eqb number 0) refl refl (odd_first m (rs ++ (e.what ∷ [])) es)
  where
    number : ℕ
    number = number_with m (after rs) e.what 0

    rest : List Entry
    rest = map plain (whats es)

    one_more : (x : ℕ) → length (rs ++ (e.what ∷ [])) + x ≡ length rs + suc x
    one_more x = omega (arith, length-append rs (e.what ∷ []))

    go : (b c : Bool) → eqb e.reserved 0 ≡ b → eqb number 0 ≡ c
        → first_bad_with m (rs ++ (e.what ∷ [])) es ≡ beside (length (rs ++ (e.what ∷ [])) + length es) (length (rs ++ (e.what ∷ [])) + first_odd es) (first_bad_with m (rs ++ (e.what ∷ [])) rest)
        → first_bad_with m rs (e ∷ es) ≡ beside (length rs + suc (length es)) (length rs + first_odd (e ∷ es)) (first_bad_with m rs (plain e.what ∷ rest))
    go true true t u f =
        rw (eqb-true e.reserved 0 t, u, ← (one_more (length es)), ← (one_more (first_odd es))) f
    go true false t u f =
        rw (eqb-true e.reserved 0 t, u) (stands (length rs + suc (length es)) (length rs + suc (first_odd es)) (length rs) number (eqb-false number 0 u) (omega arith))
    go false true t u f =
        let k : length rs + 0 ≡ length rs + suc (length es) → ⊥ = λ k. omega arith in
        let o = number_odd m (kind_of e.what.kind) (after rs) e.what e.reserved (eqb-false e.reserved 0 t) in
        rw (t, o, u, ne_eqb _ _ k, add-zero (length rs))
        (gives_way (length rs) (first_bad_with m (rs ++ (e.what ∷ [])) rest) (λ n. omega (arith, later m (rs ++ (e.what ∷ [])) rest n, length-append rs (e.what ∷ []))))
    go false false t u f =
        let k : length rs + 0 ≡ length rs + suc (length es) → ⊥ = λ k. omega arith in
        let o = number_odd m (kind_of e.what.kind) (after rs) e.what e.reserved (eqb-false e.reserved 0 t) in
        rw (t, o, still_refused (sooner number) number (eqb-false number 0 u), u, ne_eqb _ _ k, add-zero (length rs), u) (itself (length rs) number)

-- of a file's entries es the first bad one, by the check of the plan that they make
pub odd_beside : (es : List Entry) → 1 ≤ length es → length es ≤ most_records → first_bad [] es ≡ beside (length es) (first_odd es) (check_of (plan_of (whats es)))
odd_beside es some few =
    let n : length (whats es) ≡ length es = length-map es (λ (e : Entry). e.what) in
    let c : first_bad [] (map plain (whats es)) ≡ check_of (plan_of (whats es)) =
    ap (λ (rs : List Record). first_bad [] (map plain rs)) (sym (records_of_plan (whats es))) ∙ check_each (plan_of (whats es)) (λ z. omega (arith, n)) (omega (arith, n)) in
    rw (← c, ← (zero-add (length es)), ← (zero-add (first_odd es))) (odd_first most_ordinary [] es)
