-- Words as numbers to the base 256: short words of bytes with the same length and the same number are the same. Assumes nothing.
use mathlib.Core.Path.{◌≡◌, refl, sym, ◌∙◌}
use mathlib.Core.Bool.{Bool, true, false, ◌&&◌}
use mathlib.Core.List.{List, [], ◌∷◌, ◌++◌}
use Prim.Native.Nat.{ℕ, ◌+◌, ◌*◌, ◌%◌, ◌^◌, ◌≤◌, ◌<◌, min}
use native.Mathlib.Omega.{arith}
use lib.Dec.{eqb}
use lib.ListN.{length}
use borrow.Author.Tests.{eq-eqb, eqb-true}
use Rattle.numbers.specs.Fits.{All, IsByte}
use Rattle.values.specs.Values.{same}
use Rattle.values.proofs.Tests.{both}

-- the bytes as a number to the base 256, n being what those before them are
abbrev pub base_from : ℕ → List ℕ → ℕ
base_from n [] = n
base_from n (c ∷ f) = base_from (256 * n + c) f

abbrev pub base : List ℕ → ℕ
base f = base_from 0 f

pub base_snoc : (n : ℕ) (f : List ℕ) (c : ℕ) → base_from n (f ++ (c ∷ [])) ≡ 256 * base_from n f + c
base_snoc n [] c = refl
base_snoc n (d ∷ f) c = base_snoc (256 * n + d) f c

-- eight bytes fit 64 bits
pub base_fits : (f : List ℕ) → All IsByte f → length f ≤ 8 → base f < 2 ^ 64
base_fits [] a h = omega arith
base_fits (a ∷ []) q h = omega (arith, q.0)
base_fits (a ∷ b ∷ []) q h = omega (arith, q.0, q.1.0)
base_fits (a ∷ b ∷ c ∷ []) q h = omega (arith, q.0, q.1.0, q.1.1.0)
base_fits (a ∷ b ∷ c ∷ d ∷ []) q h = omega (arith, q.0, q.1.0, q.1.1.0, q.1.1.1.0)
base_fits (a ∷ b ∷ c ∷ d ∷ e ∷ []) q h = omega (arith, q.0, q.1.0, q.1.1.0, q.1.1.1.0, q.1.1.1.1.0)
base_fits (a ∷ b ∷ c ∷ d ∷ e ∷ f ∷ []) q h = omega (arith, q.0, q.1.0, q.1.1.0, q.1.1.1.0, q.1.1.1.1.0, q.1.1.1.1.1.0)
base_fits (a ∷ b ∷ c ∷ d ∷ e ∷ f ∷ g ∷ []) q h =
    omega (arith, q.0, q.1.0, q.1.1.0, q.1.1.1.0, q.1.1.1.1.0, q.1.1.1.1.1.0, q.1.1.1.1.1.1.0)
base_fits (a ∷ b ∷ c ∷ d ∷ e ∷ f ∷ g ∷ i ∷ []) q h =
    omega (arith, q.0, q.1.0, q.1.1.0, q.1.1.1.0, q.1.1.1.1.0, q.1.1.1.1.1.0, q.1.1.1.1.1.1.0, q.1.1.1.1.1.1.1.0)
base_fits (a ∷ b ∷ c ∷ d ∷ e ∷ f ∷ g ∷ i ∷ j ∷ k) q h = absurd (omega arith)

-- the same length and the same number: the same bytes
base_same : (m n : ℕ) (f g : List ℕ) → All IsByte f → All IsByte g → length f ≡ length g → base_from m f ≡ base_from n g → (m ≡ n) × (f ≡ g)
base_same m n [] [] a b l e = (e, refl)
base_same m n [] (d ∷ g) a b l e = absurd (omega arith)
base_same m n (c ∷ f) [] a b l e = absurd (omega arith)
base_same m n (c ∷ f) (d ∷ g) a b l e =
    let r = base_same (256 * m + c) (256 * n + d) f g a.1 b.1 (omega arith) e in
    let k : 256 * m + c ≡ 256 * n + d = r.0 in
    let x : c ≡ d = omega (arith, a.0, b.0) in
    let y : f ≡ g = r.1 in
    (omega (arith, a.0, b.0), cc)

pub same_refl : (f : List ℕ) → same f f ≡ true
unfolding same
same_refl [] = refl
same_refl (c ∷ f) = rw (eq-eqb c c refl) (same_refl f)

pub same_true : (f g : List ℕ) → same f g ≡ true → f ≡ g
unfolding same
same_true [] [] e = refl
same_true [] (d ∷ g) e = absurd (let z : ◌≡◌ {A = ℕ} 0 1 = cc in omega arith)
same_true (c ∷ f) [] e = absurd (let z : ◌≡◌ {A = ℕ} 0 1 = cc in omega arith)
same_true (c ∷ f) (d ∷ g) e =
    let b = both (eqb c d) (same f g) e in
    let x = eqb-true c d b.0 in
    let y = same_true f g b.1 in
    cc

-- the test by length and number is the test of the bytes
pub same_word : (f w : List ℕ) → All IsByte f → All IsByte w → length w ≤ 8
    → (eqb (min (length f) 9) (length w) && eqb (base f % 2 ^ 64) (base w)) ≡ same f w
same_word f w a b h = go (same f w) refl (eqb (min (length f) 9) (length w) && eqb (base f % 2 ^ 64) (base w)) refl
  where
    go : (t : Bool) → same f w ≡ t → (u : Bool) → (eqb (min (length f) 9) (length w) && eqb (base f % 2 ^ 64) (base w)) ≡ u → u ≡ t
    go true p true q = refl
    go false p false q = refl
    go true p false q =
        let e : f ≡ w = same_true f w p in
        let n : min (length f) 9 ≡ length w = rw e (omega arith) in
        let v : base f % 2 ^ 64 ≡ base w = rw e (let k = base_fits w b h in omega arith) in
        absurd (let z : true ≡ false = sym (rw (eq-eqb _ _ n) (eq-eqb _ _ v)) ∙ q in let y : ◌≡◌ {A = ℕ} 0 1 = cc in omega arith)
    go false p true q =
        let r = both (eqb (min (length f) 9) (length w)) (eqb (base f % 2 ^ 64) (base w)) q in
        let n = eqb-true (min (length f) 9) (length w) r.0 in
        let l : length f ≡ length w = omega arith in
        let v = eqb-true (base f % 2 ^ 64) (base w) r.1 in
        let k = base_fits f a (omega arith) in
        let x : base f ≡ base w = omega arith in
        let e : f ≡ w = (base_same 0 0 f w a b l x).1 in
        absurd (let z : true ≡ false = sym (rw e (same_refl w)) ∙ p in let y : ◌≡◌ {A = ℕ} 0 1 = cc in omega arith)
