-- What holds of sets of points: which members a set has, that it stays one of 32 bits, how many it has, and that a walk by `first_of` and
-- `without_of` meets each member once, in rising order. Assumes nothing.
use mathlib.Core.Path.{◌≡◌, refl, ap, sym, ◌∙◌}
use mathlib.Core.Bool.{Bool, true, false, not, cond, ◌&&◌, ◌||◌, true≢false, and-false, and-eq-true_iff}
use mathlib.Core.List.{List, [], ◌∷◌}
use Prim.Native.Nat.{ℕ, zero, suc, ◌+◌, ◌-◌, ◌/◌, ◌%◌, ◌^◌, ◌<◌, ◌≤◌, min}
use native.Mathlib.Nat.{pow-suc, div-div-eq-div-mul, div-eq_of_lt, lt_of_lt_of_le, min-le_right, zero-add, zero-div}
use native.Mathlib.Omega.{arith}
use borrow.Author.Tests.{eqb-true, eq-eqb, ltb-true, ltb-false, lt-ltb, le-ltb, not-true}
use lib.Count.{ones, ones-le, ones_step, count_trailing_zeros, under}
use lib.Dec.{lit<, eqb, ltb}
use lib.ListN.{length}
use lib.Pow.{pow_mono}
use Rattle.points.specs.Sets.{member, with_of, without_of, count_of, below_of, from, passing, members_of, first_or, first_of, every, subset_of}
use Rattle.points.proofs.Bits.{bit, twice, member_bit, bit_one, bit_zero, add_member, add_fits, add_ones, take_bit, same_bits, low_bits}
use Rattle.points.proofs.Lists.{NoneIn, Begins, none, lowest, begins, every_within, within_every}

-- ---- which members a set has

-- No point is in the empty set.
pub member_empty : (p : ℕ) → member 0 p ≡ false
unfolding member
member_empty p = rw (zero-div (2 ^ p))

-- No point past 31 is in a set.
pub member_past : (s p : ℕ) → s < 2 ^ 32 → 32 ≤ p → member s p ≡ false
unfolding member
member_past s p f l = rw (div-eq_of_lt (lt_of_lt_of_le f (pow_mono l)))

-- A point that is in a set is below 32.
pub member_small : (s p : ℕ) → s < 2 ^ 32 → member s p ≡ true → p < 32
member_small s p f h = go (ltb p 32) refl
  where
    go : (b : Bool) → ltb p 32 ≡ b → p < 32
    go true l = ltb-true p 32 l
    go false l = absurd (true≢false (sym h ∙ member_past s p f (ltb-false p 32 l)))

-- A set is at least the bit of each of its members.
pub member_le : (s p : ℕ) → member s p ≡ true → 2 ^ p ≤ s
member_le s p h = (take_bit s p (bit_one s p h)).0

-- Two sets with the same members are the same.
pub same_members : (s t : ℕ) → s < 2 ^ 32 → t < 2 ^ 32 → ((p : ℕ) → p < 32 → member s p ≡ member t p) → s ≡ t
same_members s t f g h = same_bits 32 s t f g (λ p l. go p (member s p) refl (h p l))
  where
    go : (p : ℕ) (b : Bool) → member s p ≡ b → member s p ≡ member t p → bit s p ≡ bit t p
    go p true e k = bit_one s p e ∙ sym (bit_one t p (sym k ∙ e))
    go p false e k = bit_zero s p e ∙ sym (bit_zero t p (sym k ∙ e))

-- The members of `below_of n` are the points below n.
pub member_below : (n p : ℕ) → member (below_of n) p ≡ ltb p (min n 32)
unfolding below_of
member_below n p = member_bit (2 ^ min n 32 - 1) p ∙ low_bits (min n 32) p

-- `below_of n` fits 32 bits.
pub below_fits : (n : ℕ) → below_of n < 2 ^ 32
unfolding below_of
below_fits n = omega (arith, pow_mono (min-le_right n 32))

-- ---- a point is put in

-- A point that s lacks adds its bit.
pub with_new : (s p : ℕ) → p < 32 → member s p ≡ false → with_of s p ≡ s + 2 ^ p
unfolding with_of
with_new s p l h = rw (lt-ltb p 32 l, h)

-- A point that s has changes nothing.
pub with_old : (s p : ℕ) → member s p ≡ true → with_of s p ≡ s
unfolding with_of
with_old s p h = rw (h, and-false (ltb p 32))

-- A point past 31 changes nothing.
pub with_past : (s p : ℕ) → 32 ≤ p → with_of s p ≡ s
unfolding with_of
with_past s p l = rw (le-ltb p 32 l)

-- With a point a set has that point and what it had.
pub member_with : (s p q : ℕ) → p < 32 → member (with_of s p) q ≡ (eqb q p || member s q)
member_with s p q l = go (member s p) refl
  where
    had : member s p ≡ true → (b : Bool) → eqb q p ≡ b → member s q ≡ (b || member s q)
    had h true e = rw (eqb-true q p e) h
    had h false e = refl

    go : (b : Bool) → member s p ≡ b → member (with_of s p) q ≡ (eqb q p || member s q)
    go true h = rw (with_old s p h) (had h (eqb q p) refl)
    go false h = rw (with_new s p l h) (add_member s p q h)

-- With a point a set still fits 32 bits.
pub with_fits : (s p : ℕ) → s < 2 ^ 32 → with_of s p < 2 ^ 32
unfolding with_of
with_fits s p f = go (ltb p 32 && not (member s p)) refl
  where
    go : (b : Bool) → (ltb p 32 && not (member s p)) ≡ b → cond b (s + 2 ^ p) s < 2 ^ 32
    go true e =
        let r = (and-eq-true_iff (ltb p 32) (not (member s p))).0 e in
        add_fits 32 s p f (ltb-true p 32 r.0) (bit_zero s p (not-true (member s p) r.1))
    go false e = f

-- A point that s lacks makes one more.
pub with_count : (s p : ℕ) → p < 32 → member s p ≡ false → count_of (with_of s p) ≡ count_of s + 1
with_count s p l h = rw (with_new s p l h) (add_ones s p (bit_zero s p h))

-- ---- a point is taken out

-- A point that s has takes its bit away.
pub without_old : (s p : ℕ) → member s p ≡ true → without_of s p + 2 ^ p ≡ s
unfolding without_of
without_old s p h = rw h (omega (arith, member_le s p h))

-- A point that s lacks changes nothing.
pub without_new : (s p : ℕ) → member s p ≡ false → without_of s p ≡ s
unfolding without_of
without_new s p h = rw h

-- Without a point a set has what it had but that point.
pub member_without : (s p q : ℕ) → member (without_of s p) q ≡ (not (eqb q p) && member s q)
unfolding without_of
member_without s p q = go (member s p) refl
  where
    lacks : (t : ℕ) → member t p ≡ false → (b : Bool) → eqb q p ≡ b → member t q ≡ (not b && member t q)
    lacks t h true e = rw (eqb-true q p e) h
    lacks t h false e = refl

    but : (b m : Bool) → (not b && (b || m)) ≡ (not b && m)
    but true m = refl
    but false m = refl

    go : (b : Bool) → member s p ≡ b → member (cond b (s - 2 ^ p) s) q ≡ (not (eqb q p) && member s q)
    go true h =
        let t = s - 2 ^ p in
        let r = take_bit s p (bit_one s p h) in
        let z : member t p ≡ false = rw (member_bit t p, r.1) in
        let e : t + 2 ^ p ≡ s = omega (arith, r.0) in
        rw (rw e at (add_member t p q z), but (eqb q p) (member t q)) (lacks t z (eqb q p) refl)
    go false h = lacks s h (eqb q p) refl

-- Without a point a set still fits 32 bits.
pub without_fits : (s p : ℕ) → s < 2 ^ 32 → without_of s p < 2 ^ 32
unfolding without_of
without_fits s p f = go (member s p)
  where
    go : (b : Bool) → cond b (s - 2 ^ p) s < 2 ^ 32
    go true = omega arith
    go false = f

-- A point that s has makes one fewer.
pub without_count : (s p : ℕ) → member s p ≡ true → count_of s ≡ count_of (without_of s p) + 1
without_count s p h =
    let t = without_of s p in
    let z : member t p ≡ false = rw (member_without s p p, eq-eqb p p refl) in
    rw (without_old s p h) at (add_ones t p (bit_zero t p z))

-- ---- the members in rising order

-- the bits past p
next : (s p : ℕ) → s / 2 ^ suc p ≡ s / 2 ^ p / 2
next s p = rw (pow-suc 2 p, div-div-eq-div-mul)

trailing_from : (s n p : ℕ) → p + count_trailing_zeros n (s / 2 ^ p) ≡ first_or (p + n) (passing (member s) (from p n))
unfolding count_trailing_zeros first_or passing from member
trailing_from s zero p = refl
trailing_from s (suc n) p = go (s / 2 ^ p % 2) refl (rw (next s p) at (trailing_from s n (suc p)))
  where
    rest : List ℕ
    rest = passing (member s) (from (suc p) n)

    go : (d : ℕ) → s / 2 ^ p % 2 ≡ d → suc p + count_trailing_zeros n (s / 2 ^ p / 2) ≡ first_or (suc p + n) rest
        → p + under d (count_trailing_zeros n (s / 2 ^ p / 2)) ≡ first_or (p + suc n) (cond (eqb d 1) (p ∷ rest) rest)
    go zero e r = let m : p + suc n ≡ suc p + n = omega arith in rw m (omega arith)
    go (suc zero) e r = omega arith
    go (suc (suc d)) e r = absurd (omega arith)

-- The lowest member is what `trailing_zeros` counts.
pub trailing_first : (s : ℕ) → count_trailing_zeros 32 s ≡ first_of s
unfolding first_of members_of
trailing_first s = let e : s / 1 ≡ s = omega arith in rw (e, zero-add (count_trailing_zeros 32 s)) at (trailing_from s 32 0)

ones_from : (s n p : ℕ) → s / 2 ^ p < 2 ^ n → ones (s / 2 ^ p) ≡ length (passing (member s) (from p n))
unfolding passing from member
ones_from s zero p f = omega (arith, ones-le 0 (s / 2 ^ p) f)
ones_from s (suc n) p f =
    let f' : s / 2 ^ suc p < 2 ^ n = rw (next s p) (omega (arith, rw (twice n) at f)) in
    go (s / 2 ^ p % 2) refl (rw (next s p) at (ones_from s n (suc p) f'))
  where
    rest : List ℕ
    rest = passing (member s) (from (suc p) n)

    go : (d : ℕ) → s / 2 ^ p % 2 ≡ d → ones (s / 2 ^ p / 2) ≡ length rest → ones (s / 2 ^ p) ≡ length (cond (eqb d 1) (p ∷ rest) rest)
    go zero e r = omega (arith, ones_step (s / 2 ^ p))
    go (suc zero) e r = omega (arith, ones_step (s / 2 ^ p))
    go (suc (suc d)) e r = absurd (omega arith)

-- A set has at most 32 points.
pub count_le : (s : ℕ) → s < 2 ^ 32 → count_of s ≤ 32
count_le s f = ones-le 32 s f

-- The count of a set is how many members it has.
pub count_members : (s : ℕ) → s < 2 ^ 32 → count_of s ≡ length (members_of s)
unfolding members_of
count_members s f = let e : s / 1 ≡ s = omega arith in rw e at (ones_from s 32 0 (rw e f))

empty : (s : ℕ) → s < 2 ^ 32 → NoneIn (member s) 0 32 → s ≡ 0
empty s f h = same_members s 0 f (lit< tt) (λ p l. h p (omega arith) l ∙ sym (member_empty p))

-- The point p is the lowest of s.
pub record First (s p : ℕ) : Type 0 where
  pub small : p < 32
  pub there : member s p ≡ true
  pub lower : (q : ℕ) → q < p → member s q ≡ false

-- The first of a set that is not empty is its lowest member.
pub first_member : (s : ℕ) → 0 < s → s < 2 ^ 32 → First s (first_of s)
unfolding first_of members_of first_or
first_member s o f = go (begins (member s) 32 0)
  where
    go : {l : List ℕ} → Begins (member s) 0 32 l → First s (first_or 32 l)
    go (none h) = absurd (omega (arith, empty s f h))
    go (lowest t a b h r) = record { small = omega arith; there = t; lower = λ q l. h q (omega arith) l }

-- The empty set has no members.
pub members_empty : members_of 0 ≡ []
unfolding members_of passing from member
members_empty = refl

-- The members of a set that is not empty are its first and then the members without that one, so a walk that takes the first out until
-- the set is empty meets each member once, in rising order.
pub members_step : (s : ℕ) → 0 < s → s < 2 ^ 32 → members_of s ≡ first_of s ∷ members_of (without_of s (first_of s))
unfolding first_of members_of first_or
members_step s o f = go (begins (member s) 32 0)
  where
    go : {l : List ℕ} → Begins (member s) 0 32 l → l ≡ first_or 32 l ∷ members_of (without_of s (first_or 32 l))
    go (none h) = absurd (omega (arith, empty s f h))
    go (lowest {x = x} t a b h r) = ap (λ l. x ∷ l) (sym (r (member (without_of s x)) (member_without s x)))

-- One turn of a walk: p is the lowest of s, and `rest` is s without it.
pub record Turn (s p rest : ℕ) : Type 0 where
  pub first : First s p
  pub members : members_of s ≡ p ∷ members_of rest
  pub fits : rest < 2 ^ 32
  pub fewer : count_of s ≡ count_of rest + 1

-- What a loop that walks over a set knows at each turn, from the replies of `first` and `without`.
pub turn : (s p rest : ℕ) → 0 < s → s < 2 ^ 32 → p ≡ first_of s → rest ≡ without_of s p → Turn s p rest
turn s p rest o f e r =
    let h : First s p = rw e (first_member s o f) in
    rw r (record { first = h; members = rw e (members_step s o f); fits = without_fits s p f; fewer = without_count s p h.there })

-- ---- subsets

-- The empty set is a subset of any.
pub subset_empty : (b : ℕ) → subset_of 0 b ≡ true
unfolding subset_of every
subset_empty b = rw members_empty

-- Where its first is in b, a set is a subset of b just where the rest of it is.
pub subset_found : (a b p rest : ℕ) → Turn a p rest → member b p ≡ true → subset_of a b ≡ subset_of rest b
unfolding subset_of every
subset_found a b p rest t h = rw (t.members, h)

-- Where its first is not in b, a set is no subset of b.
pub subset_missing : (a b p rest : ℕ) → Turn a p rest → member b p ≡ false → subset_of a b ≡ false
unfolding subset_of every
subset_missing a b p rest t h = rw (t.members, h)

-- Each member of a subset of b is in b.
pub subset_member : (a b : ℕ) → subset_of a b ≡ true → (p : ℕ) → p < 32 → member a p ≡ true → member b p ≡ true
unfolding subset_of members_of
subset_member a b h p l m = every_within (member a) (member b) 32 0 h p (omega arith) (omega arith) m

-- A set each of whose members is in b is a subset of b.
pub member_subset : (a b : ℕ) → ((p : ℕ) → p < 32 → member a p ≡ true → member b p ≡ true) → subset_of a b ≡ true
unfolding subset_of members_of
member_subset a b h = within_every (member a) (member b) 32 0 (λ p o l m. h p (omega arith) m)
