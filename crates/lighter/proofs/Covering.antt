-- Edges F among edges E, such that for every walk over E one over F is no longer: they have the same distances, and what lies
-- between two such is good where the fewer are. Assumes nothing.
use Prim.Native.Nat.{ℕ, ◌+◌}
use native.Mathlib.Omega.{arith}
use Rattle.network.specs.Walks.{Walk, nil, step, Vee, vee}
use Rattle.network.specs.Passing.{Shortest, Good}
use Rattle.network.proofs.Laws.{append, over, vee_walk}
use Rattle.dropping.specs.Spare.{Reaches}
use Rattle.lighter.specs.Lighter.{IsDistance, SameDistances}

abbrev pub Edges : Type 1
Edges = ℕ → ℕ → ℕ → ℕ → Type 0

-- each edge of F is one of E
abbrev pub Among : Edges → Edges → Type 0
Among F E = (X Y u d : ℕ) → F X Y u d → E X Y u d

-- for every walk over E one over F is no longer
pub record Covers (E F : Edges) : Type 0 where
  pub by : {X Y u d : ℕ} → Walk E X Y u d → Reaches F X Y u d

vee_over : {E F : Edges} → Among F E → {X Y u d : ℕ} → Vee F X Y u d → Vee E X Y u d
vee_over to (vee w w') =
    vee (over (λ X Y u d e. record { edge = to X Y u d e.edge; below = e.below }) w)
    (over (λ X Y u d e. record { edge = to X Y u d e.edge; above = e.above }) w')

-- where it is so of each edge it is so of each walk
pub covers_edges : {E F : Edges} → ((X Y u d : ℕ) → E X Y u d → Reaches F X Y u d) → Covers E F
covers_edges {E} {F} h = record { by = go }
  where
    go : {X Y u d : ℕ} → Walk E X Y u d → Reaches F X Y u d
    go nil = record { up = 0; down = 0; walk = nil; short = omega arith }
    go (step e w) =
        let a = h _ _ _ _ e in
        let b = go w in
        record { up = a.up + b.up; down = a.down + b.down; walk = append F a.walk b.walk; short = omega (arith, a.short, b.short) }

pub covers_trans : {E F G : Edges} → Covers E F → Covers F G → Covers E G
covers_trans c d = record { by = λ w. let a = c.by w in let b = d.by a.walk in record { up = b.up; down = b.down; walk = b.walk; short = omega (arith, a.short, b.short) } }

module _ {E F : Edges} (among : Among F E) where
  pub covers_same : Covers E F → SameDistances E F
  covers_same c = record { same = λ X Y u d. (to, from) }
    where
      to : {X Y u d : ℕ} → IsDistance E X Y u d → IsDistance F X Y u d
      to a = let b = c.by a.path in record { up' = b.up; down' = b.down; path = b.walk; sum = omega (arith, a.sum, b.short, a.least (over among b.walk)); least = λ w. a.least (over among w) }

      from : {X Y u d : ℕ} → IsDistance F X Y u d → IsDistance E X Y u d
      from a = record { up' = a.up'; down' = a.down'; path = over among a.path; sum = a.sum; least = λ w. let b = c.by w in omega (arith, b.short, a.least b.walk) }

-- the same distances say so, where there are distances
distance : {E : Edges} {X Y : ℕ} (s : Shortest E X Y) → IsDistance E X Y s.up s.down
distance {E} s = record { up' = s.up; down' = s.down; path = vee_walk E s.walk; sum = omega arith; least = s.least }

pub same_covers : {E F : Edges} → Good E → SameDistances E F → Covers E F
same_covers g s = record {
  by = λ {X} {Y} {u} {d} w.
      let b = g.dispatchable.best X Y (record { up = u; down = d; walk = w }) in
      let k = (s.same X Y b.up b.down).0 (distance b) in
      record { up = k.up'; down = k.down'; walk = k.path; short = omega (arith, k.sum, b.least w) };
}

-- What lies between edges and fewer that cover them, and are good, is good and covers them too.
pub between : {E F G : Edges} → Among G F → Among F E → Covers E G → Good G → Good F × Covers E F
between {E} {F} {G} low high c g = (
  record {
    consistent = record { round = λ {X} {u} {d} w. let k = c.by (over high w) in omega (arith, k.short, g.consistent.round k.walk) };
    dispatchable = record {
      best = λ X Y j.
          let k = c.by (over high j.walk) in
          let s = g.dispatchable.best X Y (record { up = k.up; down = k.down; walk = k.walk }) in
          record { up = s.up; down = s.down; walk = vee_over low s.walk; least = λ w. let q = c.by (over high w) in omega (arith, q.short, s.least q.walk) };
    };
  },
  record { by = λ w. let k = c.by w in record { up = k.up; down = k.down; walk = over low k.walk; short = k.short } },
)
