-- The loop that makes a table without edges. Assumes nothing.
use mathlib.Core.Path.{◌≡◌, refl, ◌∙◌}
use mathlib.Core.Logic.{◌≢◌}
use mathlib.Core.List.{List}
use Prim.Native.Nat.{ℕ, ◌+◌, ◌*◌, ◌<◌, ◌≤◌}
use native.Mathlib.Omega.{arith}
use native.Mathlib.Decide.{ℕ_discrete}
use lib.ListN.{set, replicate, length-replicate, get_or-replicate}
use lib.Seq.{get_or-set_same, get_or-set_other}
use Rattle.tables.specs.Tables.{side, room}
use Rattle.tables.specs.Entries.{middle, nowhere, raw, Sound}
use Rattle.tables.specs.Steps.{Begun}
use Rattle.tables.proofs.Rows.{stored}

emptied : Sound (replicate room nowhere)
emptied = record {
  long = length-replicate {A = ℕ} room nowhere;
  most = λ q h. omega (arith, get_or-replicate {A = ℕ} room q nowhere 0 h);
  least = λ q h. omega (arith, get_or-replicate {A = ℕ} room q nowhere 0 h);
  gap = λ q h l. absurd (omega (arith, get_or-replicate {A = ℕ} room q nowhere 0 h));
}

-- the points below i are at no distance from themselves
pub record Diagonal (i : ℕ) (t : List ℕ) : Type 0 where
  pub sound : Sound t
  pub within : i ≤ side
  pub self : (x : ℕ) → x < i → raw t x x ≡ middle
  pub other : (x y : ℕ) → x < side → y < side → x ≢ y → raw t x y ≡ nowhere

pub start : (t : List ℕ) → t ≡ replicate room nowhere → Diagonal 0 t
start t e =
    rw e
    (record {
      sound = emptied;
      within = omega arith;
      self = λ x h. absurd (omega arith);
      other = λ x y hx hy h. get_or-replicate {A = ℕ} room (x * side + y) nowhere 0 (omega arith);
    })

pub turn : (i : ℕ) (t : List ℕ) → i < side → Diagonal i t → Diagonal (i + 1) (set t (i * side + i) middle)
turn i t h d = record { sound = stored t (i * side + i) middle (omega arith) d.sound (omega arith) (omega arith) (λ _. omega arith); within = omega arith; self = self; other = other }
  where
    self : (x : ℕ) → x < i + 1 → raw (set t (i * side + i) middle) x x ≡ middle
    self x l = elim (ℕ_discrete x i) [
      | yes e ↦ rw e (get_or-set_same t (i * side + i) middle 0 (omega (arith, d.sound.long)))
      | no e ↦ get_or-set_other t (i * side + i) (x * side + x) middle 0 (omega arith) ∙ d.self x (omega arith)
    ]

    other : (x y : ℕ) → x < side → y < side → x ≢ y → raw (set t (i * side + i) middle) x y ≡ nowhere
    other x y hx hy e = get_or-set_other t (i * side + i) (x * side + y) middle 0 (omega arith) ∙ d.other x y hx hy e

pub ended : (i : ℕ) (t : List ℕ) → side ≤ i → Diagonal i t → Begun t
ended i t h d = record { sound = d.sound; self = λ x l. rw (d.self x (omega arith)) refl; other = λ x y hx hy e. rw (d.other x y hx hy e) refl }
