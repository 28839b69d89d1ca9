-- What is kept of a field's bytes tells the field: it does at the start, a byte more keeps it so. Assumes nothing.
use mathlib.Core.Path.{◌≡◌, refl, sym, ap, ◌∙◌}
use mathlib.Core.Bool.{Bool, true, false, ◌&&◌, ◌||◌}
use mathlib.Core.List.{List, [], ◌∷◌, ◌++◌, append-nil, append_assoc}
use Prim.Native.Nat.{ℕ, suc, ◌+◌, ◌*◌, ◌-◌, ◌%◌, ◌^◌, ◌<◌, min}
use native.Mathlib.Omega.{arith}
use lib.ListN.{length, length-append}
use borrow.Author.Tests.{eq-eqb, ne_eqb, eqb-true}
use Rattle.std.specs.Prelude.{if◌then◌else◌}
use Rattle.numbers.specs.Fits.{All, IsByte}
use Rattle.values.specs.Values.{is_digit, is_minus, all_digits, value_from, is_negative, unsigned, size_of}
use Rattle.values.specs.Inside.{fresh, leads, with, with_all}
use Rattle.values.specs.declared.Seen.{Seen}
use Rattle.values.proofs.Tests.{and_true, or_false, or_true}
use Rattle.values.proofs.Words.{base, base_snoc}

pub record Tells (f : List ℕ) (s : Seen) : Type 0 where
  pub count : s.count ≡ min (length f) 9
  pub word : s.word ≡ base f % 2 ^ 64
  pub minus : s.minus ≡ is_negative f
  pub digits : s.digits ≡ all_digits (unsigned f)
  pub size : min s.size (2 ^ 32) ≡ min (size_of f) (2 ^ 32)

pub tells_none : Tells [] fresh
unfolding is_negative all_digits unsigned value_from
tells_none = record { count = refl; word = refl; minus = refl; digits = refl; size = refl }

pub digits_snoc : (f : List ℕ) (c : ℕ) → all_digits (f ++ (c ∷ [])) ≡ (all_digits f && is_digit c)
unfolding all_digits
digits_snoc [] c = and_true (is_digit c)
digits_snoc (d ∷ f) c = ap (λ (t : Bool). is_digit d && t) (digits_snoc f c) ∙ assoc (is_digit d) (all_digits f) (is_digit c)
  where
    assoc : (x y z : Bool) → (x && (y && z)) ≡ ((x && y) && z)
    assoc true y z = refl
    assoc false y z = refl

pub value_snoc : (n : ℕ) (f : List ℕ) (c : ℕ) → value_from n (f ++ (c ∷ [])) ≡ 10 * value_from n f + (c - 48)
unfolding value_from
value_snoc n [] c = refl
value_snoc n (d ∷ f) c = value_snoc (10 * n + (d - 48)) f c

unsigned_snoc : (d : ℕ) (f : List ℕ) (c : ℕ) → unsigned ((d ∷ f) ++ (c ∷ [])) ≡ unsigned (d ∷ f) ++ (c ∷ [])
unfolding unsigned
unsigned_snoc d f c = go (is_minus d)
  where
    go : (t : Bool) → (if t then f ++ (c ∷ []) else d ∷ (f ++ (c ∷ []))) ≡ (if t then f else d ∷ f) ++ (c ∷ [])
    go true = refl
    go false = refl

-- the digits and the size of a field of one byte
one_digits : (c : ℕ) (t : Bool) → is_minus c ≡ t → (is_digit c || t) ≡ all_digits (if t then [] else c ∷ [])
unfolding all_digits
one_digits c true e = or_true (is_digit c)
one_digits c false e = or_false (is_digit c) ∙ sym (and_true (is_digit c))

one_size : (c : ℕ) (t : Bool) → is_minus c ≡ t → c - 48 ≡ value_from 0 (if t then [] else c ∷ [])
unfolding value_from
one_size c true e = let h = eqb-true c 45 e in omega arith
one_size c false e = omega arith

word_more : (w b c : ℕ) → c < 256 → w ≡ b % 2 ^ 64 → w % 2 ^ 56 * 256 + c ≡ (256 * b + c) % 2 ^ 64
word_more w b c h e = omega arith

size_more : (n v c : ℕ) → min n (2 ^ 32) ≡ min v (2 ^ 32) → min (10 * min n (2 ^ 32) + c) (2 ^ 32) ≡ min (10 * v + c) (2 ^ 32)
size_more n v c e = omega arith

pub tells_more : (f : List ℕ) (s : Seen) (c : ℕ) → IsByte c → Tells f s → Tells (f ++ (c ∷ [])) (with s c)
unfolding with is_negative unsigned value_from all_digits
tells_more [] s c h t =
    let n : s.count ≡ 0 = t.count in
    let lead : leads s c ≡ is_minus c = rw (eq-eqb s.count 0 n) in
    let z : min s.size (2 ^ 32) ≡ 0 = t.size in
    let k : 10 * min s.size (2 ^ 32) + (c - 48) ≡ c - 48 = omega arith in
    record {
      count = rw n;
      word = word_more s.word 0 c h t.word;
      minus = rw (t.minus, lead);
      digits = rw (t.digits, lead) (one_digits c (is_minus c) refl);
      size = rw (k, ← (one_size c (is_minus c) refl));
    }
tells_more (d ∷ f) s c h t =
    let n : s.count ≡ min (suc (length f)) 9 = t.count in
    let lead : leads s c ≡ false = rw (ne_eqb s.count 0 (λ e. omega arith)) in
    let l : length ((d ∷ f) ++ (c ∷ [])) ≡ length (d ∷ f) + 1 = length-append (d ∷ f) (c ∷ []) in
    let v : size_of ((d ∷ f) ++ (c ∷ [])) ≡ 10 * size_of (d ∷ f) + (c - 48) = rw (unsigned_snoc d f c) (value_snoc 0 (unsigned (d ∷ f)) c) in
    record {
      count = rw (n, l) (omega arith);
      word = rw (base_snoc 0 (d ∷ f) c) (word_more s.word (base (d ∷ f)) c h t.word);
      minus = rw lead (or_false s.minus ∙ t.minus);
      digits = rw (lead, unsigned_snoc d f c, digits_snoc (unsigned (d ∷ f)) c, or_false (is_digit c), t.digits);
      size = rw v (size_more s.size (size_of (d ∷ f)) (c - 48) t.size);
    }

tells_on : (f g : List ℕ) (s : Seen) → All IsByte g → Tells f s → Tells (f ++ g) (with_all s g)
unfolding with_all
tells_on f [] s a t = rw (append-nil f) t
tells_on f (c ∷ g) s a t = rw append_assoc at (tells_on (f ++ (c ∷ [])) g (with s c) a.1 (tells_more f s c a.0 t))

-- all of a field's bytes, one after the other
pub tells_all : (f : List ℕ) → All IsByte f → Tells f (with_all fresh f)
tells_all f a = tells_on [] f fresh a tells_none
