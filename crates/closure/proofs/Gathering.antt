-- Lists that are gathered: their length, the last number's part, and what stands in them. It names the worked cases, so that they are
-- checked before what is proved here and above. Assumes nothing.
use mathlib.Core.Path.{◌≡◌, refl, sym, ap, subst, ◌∙◌}
use mathlib.Core.Logic.{◌⊎◌, inl, inr}
use mathlib.Core.List.{List, [], ◌++◌, append_assoc, append-nil}
use Prim.Native.Nat.{ℕ, zero, suc, ◌+◌, ◌-◌, ◌*◌, ◌<◌, ◌≤◌}
use native.Mathlib.Omega.{arith}
use native.Mathlib.Nat.{mul-suc}
use native.Mathlib.Decide.{ℕ_discrete, dec_lt}
use lib.ListN.{length, get_or, length-append, get_or-append}
use lib.Seq.{get_or-append-add}
use Rattle.plan.specs.APlan.{Kind, blank}
use Rattle.records.specs.declared.Record.{Record}
use Rattle.vee.specs.PlanTest.{Has}
use Rattle.vee.proofs.Yes.{Every, none, join}
use Rattle.closure.specs.Closing.{gathered}

-- the part of one number more
pub gathered_more : (i k : ℕ) (f : ℕ → List Record) → gathered i (suc k) f ≡ gathered i k f ++ f (i + k)
unfolding gathered
gathered_more i zero f = let z : i + 0 ≡ i = omega arith in rw (z, append-nil (f i)) refl
gathered_more i (suc k) f =
    let z : suc i + k ≡ i + suc k = omega arith in
    ap (λ (rs : List Record). f i ++ rs) (gathered_more (suc i) k f) ∙ rw z (sym (append_assoc (f i) (gathered (suc i) k f) (f (i + suc k))))

-- no more than m of each number
pub gathered_few : (i k m : ℕ) (f : ℕ → List Record) → ((j : ℕ) → length (f j) ≤ m) → length (gathered i k f) ≤ m * k
unfolding gathered
gathered_few i zero m f h = omega arith
gathered_few i (suc k) m f h =
    omega (arith, mul-suc m k, length-append (f i) (gathered (suc i) k f), h i, gathered_few (suc i) k m f h)

-- functions that agree gather the same
pub gathered_same : (i k : ℕ) (f g : ℕ → List Record) → ((j : ℕ) → i ≤ j → j < i + k → f j ≡ g j) → gathered i k f ≡ gathered i k g
unfolding gathered
gathered_same i zero f g h = refl
gathered_same i (suc k) f g h = rw (h i (omega arith) (omega arith), gathered_same (suc i) k f g (λ j l m. h j (omega arith) (omega arith))) refl

-- what holds of each part's records holds of all
pub gathered_every : {P : Record → Type 0} (i k : ℕ) (f : ℕ → List Record) → ((j : ℕ) → Every P (f j)) → Every P (gathered i k f)
unfolding gathered
gathered_every i zero f h = none
gathered_every i (suc k) f h = join (h i) (gathered_every (suc i) k f h)

-- ---- a record of some kind

module _ {k : Kind} {r : Record} where
  pub has_front : (xs ys : List Record) → Has xs k r → Has (xs ++ ys) k r
  has_front xs ys h =
      record { place = h.place; listed = omega (arith, h.listed, length-append xs ys); here = get_or-append xs ys blank h.place h.listed ∙ h.here; kind = h.kind }

  pub has_rest : (xs ys : List Record) → Has ys k r → Has (xs ++ ys) k r
  has_rest xs ys h =
      record { place = length xs + h.place; listed = omega (arith, h.listed, length-append xs ys); here = get_or-append-add xs ys h.place blank ∙ h.here; kind = h.kind }

  pub has_either : (xs ys : List Record) → Has (xs ++ ys) k r → Has xs k r ⊎ Has ys k r
  has_either xs ys h = elim (dec_lt h.place (length xs)) [
    | yes l ↦ inl (record { place = h.place; listed = l; here = sym (get_or-append xs ys blank h.place l) ∙ h.here; kind = h.kind })
    | no l ↦
        let z : h.place ≡ length xs + (h.place - length xs) = omega arith in
        inr (record {
          place = h.place - length xs;
          listed = omega (arith, h.listed, length-append xs ys);
          here = sym (get_or-append-add xs ys (h.place - length xs) blank) ∙ ap (λ (i : ℕ). get_or (xs ++ ys) i blank) (sym z) ∙ h.here;
          kind = h.kind;
        })
  ]

  pub no_has : Has [] k r → ⊥
  no_has h = omega (arith, h.listed)

  -- a record of one part, and of all
  pub to_gathered : (i m : ℕ) (f : ℕ → List Record) (j : ℕ) → i ≤ j → j < i + m → Has (f j) k r → Has (gathered i m f) k r
  unfolding gathered
  to_gathered i zero f j l h x = absurd (omega arith)
  to_gathered i (suc m) f j l h x = elim (ℕ_discrete i j) [
    | yes e ↦ has_front (f i) (gathered (suc i) m f) (subst (λ (q : ℕ). Has (f q) k r) (sym e) x)
    | no e ↦ has_rest (f i) (gathered (suc i) m f) (to_gathered (suc i) m f j (omega arith) (omega arith) x)
  ]

  pub of_gathered : (i m : ℕ) (f : ℕ → List Record) → Has (gathered i m f) k r → (j : ℕ) × (i ≤ j) × (j < i + m) × Has (f j) k r
  unfolding gathered
  of_gathered i zero f x = absurd (no_has x)
  of_gathered i (suc m) f x = go (has_either (f i) (gathered (suc i) m f) x) (λ x. of_gathered (suc i) m f x)
    where
      go : Has (f i) k r ⊎ Has (gathered (suc i) m f) k r → (Has (gathered (suc i) m f) k r → (j : ℕ) × (suc i ≤ j) × (j < suc i + m) × Has (f j) k r)
          → (j : ℕ) × (i ≤ j) × (j < i + suc m) × Has (f j) k r
      go (inl x) rec = (i, omega arith, omega arith, x)
      go (inr x) rec = let y = rec x in (y.0, omega (arith, y.1), omega (arith, y.2), y.3)
