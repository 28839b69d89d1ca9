-- What is answered by what is kept of a field is what the field says. Assumes nothing.
use mathlib.Core.Path.{◌≡◌, refl, sym}
use mathlib.Core.Bool.{Bool, true, false, ◌&&◌, ◌||◌, not}
use mathlib.Core.List.{List, [], ◌∷◌}
use Prim.Native.Nat.{ℕ, zero, suc, ◌+◌, ◌*◌, ◌-◌, ◌/◌, ◌%◌, ◌^◌, ◌≤◌, ◌<◌, min}
use native.Mathlib.Omega.{arith}
use lib.Dec.{eqb, ltb}
use lib.IntN.{ℤ, pos, neg_ℤ}
use lib.ListN.{length, get_or, drop}
use lib.Signed.{mag, le_z, lt_z}
use borrow.Author.Tests.{eq-eqb, ne_eqb, eqb-true, eqb-false, lt-ltb, le-ltb, ltb-true, ltb-false, le-leb}
use Rattle.std.specs.Prelude.{if◌then◌else◌}
use Rattle.numbers.specs.Fits.{All, IsByte}
use Rattle.numbers.specs.Numbers.{signed_of}
use Rattle.values.specs.Values.{same, point_word, link_word, ordinary_word, wait_word, kind_of, is_empty, is_minus, all_digits, value_from}
use Rattle.values.specs.Values.{is_negative, unsigned, size_of, is_decimal, number_of, is_number, is_point, point_of, is_shaped, shaped_code, is_code, code_of}
use Rattle.values.specs.Inside.{word_in, kind_in, empty_in, decimal_in, point_in, number_in, value_in, byte_in, shaped_in, code_in, pond_in}
use Rattle.values.specs.declared.Seen.{Seen}
use Rattle.values.proofs.Tests.{both, and_true, and_false, or_false}
use Rattle.values.proofs.Words.{base, base_fits, same_word}
use Rattle.values.proofs.Codes.{shaped_length}
use Rattle.values.proofs.Tells.{Tells}

-- a number with its sign
abbrev signed_by : Bool → ℕ → ℤ
signed_by t v = if t then neg_ℤ (pos v) else pos v

-- two numbers that agree below 2 ^ 32 pass the same tests below it
module _ (n v : ℕ) (e : min n (2 ^ 32) ≡ min v (2 ^ 32)) where
  same_lt : (k : ℕ) → k ≤ 2 ^ 32 → ltb n k ≡ ltb v k
  same_lt k h = go (ltb v k) refl
    where
      go : (t : Bool) → ltb v k ≡ t → ltb n k ≡ t
      go true q = let l = ltb-true v k q in lt-ltb n k (omega arith)
      go false q = let l = ltb-false v k q in le-ltb n k (omega arith)

  same_eq : (k : ℕ) → k < 2 ^ 32 → eqb n k ≡ eqb v k
  same_eq k h = go (eqb v k) refl
    where
      go : (t : Bool) → eqb v k ≡ t → eqb n k ≡ t
      go true q = let l = eqb-true v k q in eq-eqb n k (omega arith)
      go false q = let l = eqb-false v k q in ne_eqb n k (λ x. l (omega arith))

point_sign : (t : Bool) (v : ℕ) → (ltb v 256 && (not t || eqb v 0)) ≡ (le_z (pos 0) (signed_by t v) && lt_z (signed_by t v) (pos 256))
point_sign false v = rw (le-leb 0 v (omega arith)) (and_true (ltb v 256))
point_sign true zero = refl
point_sign true (suc n) = rw (ne_eqb (suc n) 0 (λ e. omega arith)) (and_false (ltb (suc n) 256))

number_sign : (t : Bool) (v : ℕ) → (ltb v (2 ^ 31) || (t && eqb v (2 ^ 31))) ≡ ltb (mag (signed_by t v)) (2 ^ 31)
number_sign false v = or_false (ltb v (2 ^ 31))
number_sign true zero = refl
number_sign true (suc n) = go (ltb n (2 ^ 31)) refl
  where
    go : (u : Bool) → ltb n (2 ^ 31) ≡ u → (ltb (suc n) (2 ^ 31) || eqb (suc n) (2 ^ 31)) ≡ u
    go false q =
        let l = ltb-false n (2 ^ 31) q in
        rw (le-ltb (suc n) (2 ^ 31) (omega arith), ne_eqb (suc n) (2 ^ 31) (λ e. omega arith))
    go true q = at (ltb (suc n) (2 ^ 31)) refl
      where
        at : (w : Bool) → ltb (suc n) (2 ^ 31) ≡ w → (w || eqb (suc n) (2 ^ 31)) ≡ true
        at true r = refl
        at false r =
            let l = ltb-true n (2 ^ 31) q in
            let m = ltb-false (suc n) (2 ^ 31) r in
            eq-eqb (suc n) (2 ^ 31) (omega arith)

sign_value : (t : Bool) (v : ℕ) → mag (signed_by t v) < 2 ^ 31
    → (if t && not (eqb (v % 2 ^ 32) 0) then signed_of (4294967295 - (v % 2 ^ 32 - 1)) else signed_of (v % 2 ^ 32)) ≡ signed_by t v
sign_value false v h =
    let m : v % 2 ^ 32 ≡ v = omega arith in
    rw (m, lt-ltb v (2 ^ 31) h)
sign_value true zero h = refl
sign_value true (suc n) h =
    let m : suc n % 2 ^ 32 ≡ suc n = omega arith in
    let k : 4294967295 - (suc n - 1) ≡ 4294967295 - n = omega arith in
    let j : 4294967295 - (4294967295 - n) ≡ n = omega arith in
    rw (m, ne_eqb (suc n) 0 (λ e. omega arith), k, le-ltb (4294967295 - n) (2 ^ 31) (omega arith), j)

-- six bytes are those of their number
record Six (f : List ℕ) (w : ℕ) : Type 0 where
  b5 : byte_in w 5 ≡ get_or f 0 0
  b4 : byte_in w 4 ≡ get_or f 1 0
  b3 : byte_in w 3 ≡ get_or f 2 0
  b2 : byte_in w 2 ≡ get_or f 3 0
  b1 : byte_in w 1 ≡ get_or f 4 0
  b0 : byte_in w 0 ≡ get_or f 5 0
  value : value_from 0 (drop 2 f) ≡ 10 * (10 * (10 * (get_or f 2 0 - 48) + (get_or f 3 0 - 48)) + (get_or f 4 0 - 48)) + (get_or f 5 0 - 48)

low : (n c : ℕ) → c < 256 → (256 * n + c) % 256 ≡ c
low n c h = omega arith

high : (n c : ℕ) → c < 256 → (256 * n + c) / 256 ≡ n
high n c h = omega arith

six : (f : List ℕ) (w : ℕ) → All IsByte f → length f ≡ 6 → w ≡ base f → Six f w
unfolding value_from
six [] w q l e = absurd (omega arith)
six (a ∷ []) w q l e = absurd (omega arith)
six (a ∷ b ∷ []) w q l e = absurd (omega arith)
six (a ∷ b ∷ c ∷ []) w q l e = absurd (omega arith)
six (a ∷ b ∷ c ∷ d ∷ []) w q l e = absurd (omega arith)
six (a ∷ b ∷ c ∷ d ∷ g ∷ []) w q l e = absurd (omega arith)
six (a ∷ b ∷ c ∷ d ∷ g ∷ h ∷ i ∷ j) w q l e = absurd (omega arith)
six (a ∷ b ∷ c ∷ d ∷ g ∷ h ∷ []) w q l e =
    let n1 : ℕ = 256 * 0 + a in
    let n2 : ℕ = 256 * n1 + b in
    let n3 : ℕ = 256 * n2 + c in
    let n4 : ℕ = 256 * n3 + d in
    let n5 : ℕ = 256 * n4 + g in
    let h1 = high n5 h q.1.1.1.1.1.0 in
    let h2 = high n4 g q.1.1.1.1.0 in
    let h3 = high n3 d q.1.1.1.0 in
    let h4 = high n2 c q.1.1.0 in
    let h5 = high n1 b q.1.0 in
    record {
      b5 = rw (e, h1, h2, h3, h4, h5) (low 0 a q.0);
      b4 = rw (e, h1, h2, h3, h4) (low n1 b q.1.0);
      b3 = rw (e, h1, h2, h3) (low n2 c q.1.1.0);
      b2 = rw (e, h1, h2) (low n3 d q.1.1.1.0);
      b1 = rw (e, h1) (low n4 g q.1.1.1.1.0);
      b0 = rw e (low n5 h q.1.1.1.1.1.0);
      value = omega arith;
    }

-- no more than a minus
alone : (f : List ℕ) (s : Seen) → Tells f s → (empty_in s ≡ is_empty f) × ((is_empty f ≡ false) → (eqb s.count 1 && s.minus) ≡ is_empty (unsigned f))
unfolding is_negative unsigned
alone [] s t = (rw t.count, λ e. absurd (let z : ◌≡◌ {A = ℕ} 0 1 = cc in omega arith))
alone (c ∷ []) s t = (rw t.count, λ e. rw (t.count, t.minus) (go (is_minus c)))
  where
    go : (u : Bool) → u ≡ is_empty (if u then [] else c ∷ [])
    go true = refl
    go false = refl
alone (c ∷ d ∷ f) s t = (
  rw (ne_eqb s.count 0 (λ e. let n = t.count in omega arith), ne_eqb (length (c ∷ d ∷ f)) 0 (λ e. omega arith)),
  λ e. rw (ne_eqb s.count 1 (λ e. let n = t.count in omega arith)) (go (is_minus c)),
)
  where
    go : (u : Bool) → false ≡ is_empty (if u then d ∷ f else c ∷ d ∷ f)
    go true = sym (ne_eqb (length (d ∷ f)) 0 (λ e. omega arith))
    go false = sym (ne_eqb (length (c ∷ d ∷ f)) 0 (λ e. omega arith))

point_bytes : All IsByte point_word
point_bytes = (omega arith, (omega arith, (omega arith, (omega arith, (omega arith, tt)))))

link_bytes : All IsByte link_word
link_bytes = (omega arith, (omega arith, (omega arith, (omega arith, tt))))

ordinary_bytes : All IsByte ordinary_word
ordinary_bytes = (omega arith, (omega arith, (omega arith, (omega arith, (omega arith, (omega arith, (omega arith, (omega arith, tt))))))))

wait_bytes : All IsByte wait_word
wait_bytes = (omega arith, (omega arith, (omega arith, (omega arith, tt))))

-- a number that a byte holds
point_value : (n : ℕ) (u : Bool) (v : ℕ) → le_z (pos 0) (signed_by u v) ≡ true → lt_z (signed_by u v) (pos 256) ≡ true → min n (2 ^ 32) ≡ min v (2 ^ 32)
    → n % 256 ≡ mag (signed_by u v)
point_value n false v e h q = let l = ltb-true v 256 h in omega arith
point_value n true zero e h q = omega arith
point_value n true (suc v) e h q = absurd (let z : ◌≡◌ {A = ℕ} 0 1 = cc in omega arith)

module _ (f : List ℕ) (s : Seen) (t : Tells f s) (a : All IsByte f) where
  says_empty : empty_in s ≡ is_empty f
  says_empty = (alone f s t).0

  says_decimal : decimal_in s ≡ is_decimal f
  says_decimal = go (is_empty f) refl
    where
      go : (u : Bool) → is_empty f ≡ u → decimal_in s ≡ (u || (all_digits (unsigned f) && not (is_empty (unsigned f))))
      go true e = rw (says_empty, e)
      go false e = rw (says_empty, e, (alone f s t).1 e, t.digits)

  pub says_point : point_in s ≡ is_point f
  unfolding point_in
  says_point =
      rw (says_decimal, same_lt s.size (size_of f) t.size 256 (omega arith), same_eq s.size (size_of f) t.size 0 (omega arith), t.minus, point_sign (is_negative f) (size_of f))

  pub says_number : number_in s ≡ is_number f
  unfolding number_in
  says_number =
      rw (says_decimal, same_lt s.size (size_of f) t.size (2 ^ 31) (omega arith), same_eq s.size (size_of f) t.size (2 ^ 31) (omega arith), t.minus, number_sign (is_negative f) (size_of f))

  pub says_value : is_number f ≡ true → value_in s ≡ number_of f
  unfolding value_in
  says_value e =
      let h = ltb-true (mag (number_of f)) (2 ^ 31) (both (is_decimal f) _ e).1 in
      let n : s.size ≡ size_of f = small (is_negative f) (size_of f) h t.size in
      rw (n, t.minus) (sign_value (is_negative f) (size_of f) h)
    where
      small : (u : Bool) (v : ℕ) → mag (signed_by u v) < 2 ^ 31 → min s.size (2 ^ 32) ≡ min v (2 ^ 32) → s.size ≡ v
      small false v h e = omega arith
      small true zero h e = omega arith
      small true (suc n) h e = omega arith

  says_word : (w : List ℕ) → All IsByte w → length w ≤ 8 → word_in (length w) (base w) s ≡ same f w
  says_word w b h = rw (t.count, t.word) (same_word f w a b h)

  pub says_kind : kind_in s ≡ kind_of f
  unfolding kind_in kind_of
  says_kind =
      rw (
        says_word point_word point_bytes (omega arith),
        says_word link_word link_bytes (omega arith),
        says_word ordinary_word ordinary_bytes (omega arith),
        says_word wait_word wait_bytes (omega arith),
      )

  -- six bytes, or another length
  shaped_case : (u : Bool) → eqb (length f) 6 ≡ u → (eqb s.count 6 ≡ u) × (u ≡ true → Six f s.word)
  shaped_case true e =
      let n = eqb-true (length f) 6 e in
      let k = base_fits f a (omega arith) in
      (eq-eqb s.count 6 (let m = t.count in omega arith), λ q. six f s.word a n (let m = t.word in omega arith))
  shaped_case false e =
      let n = eqb-false (length f) 6 e in
      (ne_eqb s.count 6 (λ x. let m = t.count in n (omega arith)), λ q. absurd (let z : ◌≡◌ {A = ℕ} 0 1 = cc in omega arith))

  says_shaped : shaped_in s ≡ is_shaped f
  unfolding shaped_in is_shaped
  says_shaped = go (eqb (length f) 6) refl
    where
      go : (u : Bool) → eqb (length f) 6 ≡ u → shaped_in s ≡ is_shaped f
      go true e =
          let x = shaped_case true e in
          let y = x.1 refl in
          rw (x.0, e, y.b5, y.b4, y.b3, y.b2, y.b1, y.b0)
      go false e = rw ((shaped_case false e).0, e)

  pub says_code : code_in s ≡ is_code f
  says_code = rw (says_empty, says_shaped)

  pub says_pond : is_code f ≡ true → pond_in s ≡ code_of f
  unfolding pond_in shaped_code
  says_pond e = go (is_empty f) refl e
    where
      go : (u : Bool) → is_empty f ≡ u → (u || is_shaped f) ≡ true → pond_in s ≡ code_of f
      go true q r = rw (says_empty, q)
      go false q r =
          let y = (shaped_case true (eq-eqb (length f) 6 (shaped_length f r))).1 refl in
          rw (says_empty, q, y.value, y.b5, y.b4, y.b3, y.b2, y.b1, y.b0)

  pub says_point_value : is_point f ≡ true → s.size % 256 ≡ point_of f
  says_point_value e =
      let b = both (le_z (pos 0) (number_of f)) _ (both (is_decimal f) _ e).1 in
      point_value s.size (is_negative f) (size_of f) b.0 b.1 t.size
