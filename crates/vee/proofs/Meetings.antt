-- What the three tables of the computed test say of a network: a pair is fine or bad as they have it. Assumes nothing.
use mathlib.Core.Path.{◌≡◌}
use Prim.Native.Nat.{ℕ, ◌+◌, ◌<◌, ◌≤◌}
use native.Mathlib.Omega.{arith}
use Rattle.network.specs.Walks.{Negative, NonNegative, Vee, vee}
use Rattle.network.specs.Passing.{Fine, Bad}
use Rattle.network.proofs.Laws.{over}
use Rattle.tables.specs.Tables.{Table, bias, none}
use Rattle.tables.specs.Distances.{Inside, Distances}
use Rattle.projection.proofs.Laws.{ends}

-- some M has a way down to it and up from it that is no longer than v
pub record Reached (n : ℕ) (g r : Table) (X Y v : ℕ) : Type 0 where
  pub M : ℕ
  pub inside : M < n
  pub falls : g X M < none
  pub rises : r M Y < none
  pub short : g X M + r M Y ≤ v + bias

-- the pair is no trouble: no walk joins the two, or one of negative edges and then others is as short as any
pub data Met (n : ℕ) (d g r : Table) (X Y : ℕ) : Type 0 where
  apart : none ≤ d X Y → Met n d g r X Y
  met : Reached n g r X Y (d X Y) → Met n d g r X Y

-- the pair is trouble
pub record Missed (n : ℕ) (d g r : Table) (X Y : ℕ) : Type 0 where
  pub joined : d X Y < none
  pub none_reaches : Reached n g r X Y (d X Y) → ⊥

module _ (E : ℕ → ℕ → ℕ → ℕ → Type 0) (n : ℕ) (inside : Inside E n) where
  module _ (f g r : Table) (all : Distances E n f) (falls : Distances (Negative E) n g) (rises : Distances (NonNegative E) n r) (X Y : ℕ) (hx : X < n) (hy : Y < n) where
    pub fine : Met n f g r X Y → Fine E X Y
    fine (apart h) j = absurd (omega (arith, all.least X Y j.up j.down hx j.walk))
    fine (met m) j =
        let a = falls.real X m.M hx m.inside m.falls in
        let b = rises.real m.M Y m.inside hy m.rises in
        record {
          up = a.up + b.up;
          down = a.down + b.down;
          walk = vee a.walk b.walk;
          least = λ {u} {d} w. omega (arith, all.least X Y u d hx w, a.weight, b.weight, m.short);
        }

    reached : {u d : ℕ} → Vee E X Y u d → (v c : ℕ) → f X Y + c ≡ bias + v → u + c ≤ v + d → Reached n g r X Y (f X Y)
    reached (vee {M = M} {u = u} {d = d} {u' = u'} {d' = d'} w w') v c e h =
        let m : M < n = ends E n inside hx (over (λ A B a b e. e.edge) w) in
        let a = falls.least X M u d hx w in
        let b = rises.least M Y u' d' m w' in
        record { M = M; inside = m; falls = a.0; rises = b.0; short = omega (arith, a.1, b.1) }

    pub bad : Missed n f g r X Y → Bad E X Y
    bad m =
        let a = all.real X Y hx hy m.joined in
        record {
          joined = record { up = a.up; down = a.down; walk = a.walk };
          none = λ s. m.none_reaches (reached s.walk a.up a.down a.weight (s.least a.walk));
        }
