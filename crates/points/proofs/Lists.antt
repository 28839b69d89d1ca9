-- The numbers of a run that pass a test, for the proofs of `Laws`: which is the lowest, and when all of them pass another test. Assumes nothing.
use mathlib.Core.Path.{◌≡◌, refl, sym, ◌∙◌}
use mathlib.Core.Logic.{inl, inr}
use mathlib.Core.Bool.{Bool, true, false, not, cond, ◌&&◌, true≢false, and-false, and-eq-true_iff}
use mathlib.Core.List.{List, [], ◌∷◌}
use Prim.Native.Nat.{ℕ, zero, suc, ◌+◌, ◌<◌, ◌≤◌}
use native.Mathlib.Nat.{eq-or-lt_of_le}
use native.Mathlib.Omega.{arith}
use borrow.Author.Tests.{eq-eqb, ne_eqb}
use lib.Dec.{eqb}
use Rattle.points.specs.Sets.{from, passing, every}

-- no number from p on and below e passes
abbrev pub NoneIn : (ℕ → Bool) → ℕ → ℕ → Type 0
NoneIn f p e = (q : ℕ) → p ≤ q → q < e → f q ≡ false

none_from : (f : ℕ → Bool) (p e : ℕ) → f p ≡ false → NoneIn f (suc p) e → NoneIn f p e
none_from f p e z h q a b = elim (eq-or-lt_of_le a) [ inl k ↦ rw (← k) z | inr l ↦ h q l b ]

same_passing : (f g : ℕ → Bool) (n p : ℕ) → ((q : ℕ) → p ≤ q → f q ≡ g q) → passing f (from p n) ≡ passing g (from p n)
unfolding passing from
same_passing f g zero p h = refl
same_passing f g (suc n) p h = rw (h p (omega arith), same_passing f g n (suc p) (λ q l. h q (omega arith)))

-- g passes what f passes but x
abbrev But : ℕ → (ℕ → Bool) → (ℕ → Bool) → Type 0
But x f g = (q : ℕ) → g q ≡ (not (eqb q x) && f q)

-- How those of n numbers from p on that pass f begin: there is none; or there is a lowest, x, and the rest are those that pass f and are not x.
pub data Begins (f : ℕ → Bool) (p n : ℕ) : List ℕ → Type 0 where
  none : NoneIn f p (p + n) → Begins f p n []
  lowest : {x : ℕ} {l : List ℕ} → f x ≡ true → p ≤ x → x < p + n → NoneIn f p x → ((g : ℕ → Bool) → But x f g → passing g (from p n) ≡ l) → Begins f p n (x ∷ l)

pub begins : (f : ℕ → Bool) (n p : ℕ) → Begins f p n (passing f (from p n))
unfolding passing from
begins f zero p = none (λ q a b. absurd (omega arith))
begins f (suc n) p = go (f p) refl (begins f n (suc p))
  where
    later : {l : List ℕ} → f p ≡ false → Begins f (suc p) n l → Begins f p (suc n) l
    later e (none h) = none (λ q a b. none_from f p (suc p + n) e h q a (omega arith))
    later e (lowest {x = x} {l = l} t a b h r) =
        lowest {x = x} {l = l} t (omega arith) (omega arith) (none_from f p x e h) (λ g k. rw (k p, e, and-false (not (eqb p x))) (r g k))

    others : (g : ℕ → Bool) → But p f g → (q : ℕ) → p < q → g q ≡ f q
    others g k q a = rw (k q, ne_eqb q p (λ e. omega arith))

    rest : List ℕ
    rest = passing f (from (suc p) n)

    go : (b : Bool) → f p ≡ b → Begins f (suc p) n rest → Begins f p (suc n) (cond b (p ∷ rest) rest)
    go true e r =
        lowest {x = p} {l = rest} e (omega arith) (omega arith) (λ q a b. absurd (omega arith))
        (λ g k. rw (k p, eq-eqb p p refl) (same_passing g f n (suc p) (others g k)))
    go false e r = later e r

-- each number from p on and below e that passes f passes g
abbrev pub Within : (ℕ → Bool) → (ℕ → Bool) → ℕ → ℕ → Type 0
Within f g p e = (q : ℕ) → p ≤ q → q < e → f q ≡ true → g q ≡ true

pub every_within : (f g : ℕ → Bool) (n p : ℕ) → every g (passing f (from p n)) ≡ true → Within f g p (p + n)
unfolding every passing from
every_within f g zero p h q a b t = absurd (omega arith)
every_within f g (suc n) p h q a b t =
    let r = go (f p) refl h in
    elim (eq-or-lt_of_le a) [ inl k ↦ rw (← k) (r.0 (rw k t)) | inr l ↦ every_within f g n (suc p) r.1 q l (omega arith) t ]
  where
    rest : List ℕ
    rest = passing f (from (suc p) n)

    go : (b : Bool) → f p ≡ b → every g (cond b (p ∷ rest) rest) ≡ true → (f p ≡ true → g p ≡ true) × (every g rest ≡ true)
    go true e k = let r = (and-eq-true_iff (g p) (every g rest)).0 k in (λ u. r.0, r.1)
    go false e k = (λ u. absurd (true≢false (sym u ∙ e)), k)

pub within_every : (f g : ℕ → Bool) (n p : ℕ) → Within f g p (p + n) → every g (passing f (from p n)) ≡ true
unfolding every passing from
within_every f g zero p h = refl
within_every f g (suc n) p h = go (f p) refl (within_every f g n (suc p) (λ q a b. h q (omega arith) (omega arith)))
  where
    rest : List ℕ
    rest = passing f (from (suc p) n)

    go : (b : Bool) → f p ≡ b → every g rest ≡ true → every g (cond b (p ∷ rest) rest) ≡ true
    go true e r = rw (h p (omega arith) (omega arith) e) r
    go false e r = r
