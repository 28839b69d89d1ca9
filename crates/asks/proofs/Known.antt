-- What is known of a word's bytes tells which verb it is, and which number. Assumes nothing.
use mathlib.Core.Path.{◌≡◌, refl, ap}
use mathlib.Core.Bool.{Bool, true, false, ◌&&◌, not}
use mathlib.Core.List.{List}
use Prim.Native.Nat.{ℕ, ◌%◌, ◌^◌, ◌≤◌, min}
use native.Mathlib.Omega.{arith}
use native.Mathlib.Decide.{dec_lt}
use mathlib.Core.Logic.{by_cases}
use lib.Dec.{eqb, ltb}
use lib.ListN.{length}
use borrow.Author.Tests.{le-ltb, ne_eqb, ltb-true}
use Rattle.std.specs.Prelude.{Some, None, if◌then◌else◌}
use Rattle.numbers.specs.Fits.{All, IsByte}
use Rattle.values.specs.Values.{same, is_empty, all_digits, value_from, size_of}
use Rattle.values.specs.Inside.{fresh, with_all}
use Rattle.values.specs.declared.Seen.{Seen}
use Rattle.values.proofs.Tests.{both}
use Rattle.values.proofs.Words.{base, same_word}
use Rattle.values.proofs.Tells.{Tells, tells_all}
use Rattle.values.proofs.Digits.{digits_unsigned, no_minus}
use Rattle.asks.specs.Asks.{test_verb, worst_verb, day_verb, import_verb, close_verb, lighter_verb, pack_verb, list_verb, explain_verb, calendar_verb, is_count, alone, counted, dated, number_of}
use Rattle.asks.specs.Inside.{is_verb, count_in, typing_in, alone_in, counted_in, dated_in, number_in}
use Rattle.asks.specs.declared.Asked.TheVariants.{Day, Nothing}

module _ (f : List ℕ) (a : All IsByte f) where
  abbrev known : Seen
  known = with_all fresh f

  tells : Tells f known
  tells = tells_all f a

  -- a verb by its length and its letters
  verb : (v : List ℕ) → All IsByte v → length v ≤ 8 → is_verb (length v) (base v) known ≡ same f v
  verb v b h = rw (tells.count, tells.word) (same_word f v a b h)

  -- a number by its digits and its size
  empty : eqb known.count 0 ≡ is_empty f
  empty = rw tells.count (by_cases (dec_lt 0 (length f))
      (λ h. rw (ne_eqb (min (length f) 9) 0 (λ e. omega arith), ne_eqb (length f) 0 (λ e. omega arith)))
      (λ h. let n : length f ≡ 0 = omega arith in rw n))

  digits : (known.digits && not known.minus) ≡ all_digits f
  digits = rw (tells.digits, tells.minus) (no_minus f)

  -- where a word is all digits, it is its own size
  size : all_digits f ≡ true → size_of f ≡ value_from 0 f
  size e = ap (value_from 0) (digits_unsigned f e).0

  -- the number that a word is
  number : (t : Bool) → all_digits f ≡ t → (t && ltb known.size 4294967296) ≡ (t && ltb (value_from 0 f) (2 ^ 32))
  number false e = refl
  number true e =
      let n = tells.size in
      let v = size e in
      by_cases (dec_lt known.size 4294967296)
      (λ h. let k : known.size ≡ value_from 0 f = omega arith in rw k)
      (λ h. rw (le-ltb known.size 4294967296 (omega arith), le-ltb (value_from 0 f) (2 ^ 32) (omega arith)))

  pub count : count_in known ≡ is_count f
  count = rw (empty, digits) (ap (λ (t : Bool). not (is_empty f) && t) (number (all_digits f) refl))

  pub value : is_count f ≡ true → known.size % 4294967296 ≡ value_from 0 f
  value e =
      let b = both (all_digits f) (ltb (value_from 0 f) (2 ^ 32)) (both (not (is_empty f)) _ e).1 in
      let n = tells.size in
      let v = size b.0 in
      let l = ltb-true (value_from 0 f) (2 ^ 32) b.1 in
      omega arith

  pub alone_known : alone_in known ≡ alone f
  unfolding alone_in typing_in alone
  alone_known =
      rw (
        verb test_verb (omega arith, (omega arith, (omega arith, (omega arith, tt)))) (omega arith),
        verb worst_verb (omega arith, (omega arith, (omega arith, (omega arith, (omega arith, tt))))) (omega arith),
        verb import_verb (omega arith, (omega arith, (omega arith, (omega arith, (omega arith, (omega arith, tt)))))) (omega arith),
        verb close_verb (omega arith, (omega arith, (omega arith, (omega arith, (omega arith, tt))))) (omega arith),
        verb lighter_verb (omega arith, (omega arith, (omega arith, (omega arith, (omega arith, (omega arith, (omega arith, tt))))))) (omega arith),
        verb pack_verb (omega arith, (omega arith, (omega arith, (omega arith, tt)))) (omega arith),
        verb list_verb (omega arith, (omega arith, (omega arith, (omega arith, tt)))) (omega arith),
        verb explain_verb (omega arith, (omega arith, (omega arith, (omega arith, (omega arith, (omega arith, (omega arith, tt))))))) (omega arith),
      )

  pub dated_known : dated_in known ≡ dated f
  unfolding dated_in dated
  dated_known =
      rw (verb calendar_verb (omega arith, (omega arith, (omega arith, (omega arith, (omega arith, (omega arith, (omega arith, (omega arith, tt)))))))) (omega arith))

  pub number_known : number_in known ≡ number_of f
  unfolding number_in number_of
  number_known = rw count (go (is_count f) refl)
    where
      go : (t : Bool) → is_count f ≡ t → (if t then Some (known.size % 4294967296) else None) ≡ (if t then Some (value_from 0 f) else None)
      go true e = ap Some (value e)
      go false e = refl

pub counted_known : (f g : List ℕ) → All IsByte f → All IsByte g → counted_in (with_all fresh f) (with_all fresh g) ≡ counted f g
unfolding counted_in counted
counted_known f g a b = rw (verb f a day_verb (omega arith, (omega arith, (omega arith, tt))) (omega arith), count g b) (go (same f day_verb && is_count g) refl)
  where
    go : (t : Bool) → (same f day_verb && is_count g) ≡ t
        → (if t then Day ((with_all fresh g).size % 4294967296) else Nothing) ≡ (if t then Day (value_from 0 g) else Nothing)
    go true e = ap Day (value g b (both (same f day_verb) (is_count g) e).1)
    go false e = refl
