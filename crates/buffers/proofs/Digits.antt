-- The decimal digits of a number, one by one: how many they are, and how they are stored from the last one back. Assumes
-- nothing.
use mathlib.Core.Path.{◌≡◌, refl, sym, ap, ◌∙◌}
use mathlib.Core.List.{List, [], ◌∷◌, ◌++◌, append_assoc}
use mathlib.Core.Logic.{by_cases}
use Prim.Native.Nat.{ℕ, zero, suc, ◌+◌, ◌-◌, ◌*◌, ◌/◌, ◌%◌, ◌≤◌, ◌<◌, ◌^◌}
use mathlib.Core.Bool.{cond}
use native.Mathlib.Omega.{arith}
use lib.Dec.{eqb, ltb}
use native.Mathlib.Decide.{dec_lt}
use borrow.Author.Tests.{ne_eqb}
use lib.ListN.{length, set, length-append, length-set}
use Rattle.lines.specs.Text.{decimal, digits}
use Rattle.lines.proofs.Adding.{one_digit, more_digits}
use Rattle.buffers.specs.Inside.{laid, Room, Laid}
use Rattle.buffers.proofs.Laying.{laid_store, laid_one}

pub one_long : (n : ℕ) → n < 10 → length (decimal n) ≡ 1
one_long n h = ap length (one_digit n h)

more_than : (n : ℕ) → 10 ≤ n → n < 2 ^ 32 → decimal n ≡ decimal (n / 10) ++ ((48 + n % 10) ∷ [])
more_than n h f = more_digits n h (omega arith)

pub more_long : (n : ℕ) → 10 ≤ n → n < 2 ^ 32 → length (decimal n) ≡ length (decimal (n / 10)) + 1
more_long n h f = ap length (more_than n h f) ∙ length-append (decimal (n / 10)) ((48 + n % 10) ∷ [])

-- there is a digit at all
pub some_long : (n : ℕ) → 1 ≤ length (decimal n)
unfolding digits
some_long n = omega (arith, length-append (cond (ltb n 10) [] (digits 19 (n / 10))) ((48 + n % 10) ∷ []))

-- the digits of n are stored from `next` back, as far as those of m are left: the last of these belongs at i
pub record Stored (before : List ℕ) (at n next : ℕ) (out : List ℕ) (i m : ℕ) : Type 0 where
  pub small : m < 2 ^ 32
  pub room : next ≤ length before
  pub behind : next ≡ at + length (decimal n)
  pub long : length out ≡ length before
  pub place : i + 1 ≡ at + length (decimal m)
  pub inside : i < next
  pub left : laid out at (decimal m) ≡ laid before at (decimal n)

pub stored_start : (out : List ℕ) (at n : ℕ) → n < 2 ^ 32 → Room out at (decimal n)
    → Stored out at n (at + length (decimal n)) out (at + length (decimal n) - 1) n
stored_start out at n f r =
    let k = some_long n in
    record { small = f; room = r.fits; behind = refl; long = refl; place = omega arith; inside = omega arith; left = refl }

pub stored_turn : {before out : List ℕ} {at n next i m : ℕ} → Stored before at n next out i m → 10 ≤ m
    → Stored before at n next (set out i (48 + m % 10)) (i - 1) (m / 10)
stored_turn {before} {out} {at} {n} {next} {i} {m} s h =
    let d : ℕ = 48 + m % 10 in
    let e = more_than m h s.small in
    let k : length (decimal m) ≡ length (decimal (m / 10)) + 1 = more_long m h s.small in
    let w : i ≡ at + length (decimal (m / 10)) = omega (arith, s.place) in
    let j : 1 ≤ length (decimal (m / 10)) = some_long (m / 10) in
    record {
      small = omega (arith, s.small);
      room = s.room;
      behind = s.behind;
      long = length-set out i (48 + m % 10) ∙ s.long;
      place = omega arith;
      inside = omega (arith, s.inside);
      left =
          ap (λ (q : ℕ). laid (set out q (48 + m % 10)) at (decimal (m / 10))) w
          ∙ laid_store out at (decimal (m / 10)) (48 + m % 10) (omega (arith, s.long, s.room, s.inside))
          ∙ ap (λ (t : List ℕ). laid out at t) (sym e)
          ∙ s.left;
    }

-- and where m has more digits than one, there is a place before it
pub stored_more : {before out : List ℕ} {at n next i m : ℕ} → Stored before at n next out i m → 10 ≤ m → 1 ≤ i
stored_more {m = m} s h = omega (arith, s.place, more_long m h s.small, some_long (m / 10))

pub stored_end : {before out : List ℕ} {at n next i m : ℕ} → Stored before at n next out i m → m < 10
    → Laid before at (decimal n) (set out i (48 + m)) next
stored_end {before} {out} {at} {n} {next} {i} {m} s h =
    let w : i ≡ at = omega (arith, s.place, one_long m h) in
    record {
      fits = omega (arith, s.room, s.behind);
      bytes =
          ap (λ (q : ℕ). set out q (48 + m)) w
          ∙ laid_one out at (48 + m) (omega (arith, s.long, s.room, s.inside))
          ∙ ap (λ (t : List ℕ). laid out at t) (sym (one_digit m h))
          ∙ s.left;
      behind = s.behind;
    }

-- ---- how many digits there are at most, and that they say the number

-- a number below a power of ten has no more digits than that
pub few_below : (k n : ℕ) → n < 10 ^ suc k → n < 2 ^ 32 → length (decimal n) ≤ suc k
few_below zero n h f = omega (arith, one_long n (omega arith))
few_below (suc k) n h f =
    by_cases (dec_lt n 10) (λ l. omega (arith, one_long n l))
    (λ l. omega (arith, more_long n (omega (arith, l)) f, few_below k (n / 10) (omega arith) (omega arith)))

-- the number that the digits before a hyphen say, after those that say a
unfoldable pub to_hyphen : ℕ → List ℕ → ℕ
to_hyphen a [] = a
to_hyphen a (c ∷ s) = cond (eqb c 45) a (to_hyphen (10 * a + (c - 48)) s)

one_read : (a d : ℕ) (s : List ℕ) → d < 10 → to_hyphen a ((48 + d) ∷ s) ≡ to_hyphen (10 * a + d) s
unfolding to_hyphen
one_read a d s h =
    let e : 10 * a + (48 + d - 48) ≡ 10 * a + d = omega arith in
    rw (ne_eqb (48 + d) 45 (λ f. omega (arith, f)), e)

read_one : (n : ℕ) (s : List ℕ) → n < 10 → to_hyphen 0 (decimal n ++ s) ≡ to_hyphen n s
read_one n s l =
    let e : 10 * 0 + n ≡ n = omega arith in
    rw (one_digit n l) (one_read 0 n s l ∙ ap (λ (q : ℕ). to_hyphen q s) e)

read_more : (n : ℕ) (s : List ℕ) → 10 ≤ n → n < 2 ^ 32
    → to_hyphen 0 (decimal (n / 10) ++ ((48 + n % 10) ∷ s)) ≡ to_hyphen (n / 10) ((48 + n % 10) ∷ s) → to_hyphen 0 (decimal n ++ s) ≡ to_hyphen n s
read_more n s m f g =
    let e : 10 * (n / 10) + n % 10 ≡ n = omega arith in
    rw (more_than n m f, append_assoc (decimal (n / 10)) ((48 + n % 10) ∷ []) s)
    (g ∙ one_read (n / 10) (n % 10) s (omega arith) ∙ ap (λ (q : ℕ). to_hyphen q s) e)

read_digits : (k n : ℕ) (s : List ℕ) → n < 10 ^ suc k → n < 2 ^ 32 → to_hyphen 0 (decimal n ++ s) ≡ to_hyphen n s
read_digits zero n s h f = read_one n s (omega arith)
read_digits (suc k) n s h f =
    by_cases (dec_lt n 10) (λ l. read_one n s l)
    (λ l. read_more n s (omega (arith, l)) f (read_digits k (n / 10) ((48 + n % 10) ∷ s) (omega arith) (omega arith)))

-- the number before a hyphen can be read
pub read_back : (n : ℕ) (s : List ℕ) → n < 2 ^ 32 → to_hyphen 0 (decimal n ++ (45 ∷ s)) ≡ n
unfolding to_hyphen
read_back n s f = read_digits 9 n (45 ∷ s) (omega arith) f
