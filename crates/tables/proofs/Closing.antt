-- Closing a table that has every edge gives the distances, or a cycle of negative sum. Assumes nothing.
use mathlib.Core.Path.{◌≡◌, subst}
use mathlib.Core.Logic.{⊎_elim}
use mathlib.Core.Bool.{true, false}
use Prim.Native.Nat.{ℕ, ◌+◌, ◌*◌, ◌^◌, ◌<◌, ◌≤◌}
use native.Mathlib.Omega.{arith}
use native.Mathlib.Decide.{dec_lt}
use native.Mathlib.Nat.{pow-suc}
use native.Mathlib.Numerals.{add-one}
use lib.Pow.{pow_mono}
use Rattle.network.specs.Walks.{Walk, nil, step}
use Rattle.plan.specs.Limits.{farthest}
use Rattle.network.specs.Passing.{Cycle, Consistent}
use Rattle.network.proofs.Laws.{append}
use Rattle.tables.specs.Tables.{Table, bias, none, half, side, Passed, Closing, Closed, Within, Near}
use Rattle.tables.specs.Tables.Closing.{first, next}
use Rattle.tables.specs.Tables.Closed.{calm, below}
use Rattle.tables.specs.Distances.{Attained, Inside, Drawn, Distances}

-- magnitudes at most double at each pass
two : (k : ℕ) → 2 ^ (k + 1) ≡ 2 ^ k + 2 ^ k
two k = rw (add-one, pow-suc) (omega arith)

bounded : (k : ℕ) → k ≤ side → farthest * 2 ^ k ≤ half
bounded k h = omega (arith, pow_mono h)

within_next : {n k w : ℕ} {f g : Table} → w ≤ half → k < n → Passed n k f g → Within w n f → Within (w + w) n g
within_next small pivot p h x y hx hy e =
    let c = p.cell x y hx hy in
    ⊎_elim (λ i. omega (arith, h x y hx hy (omega arith))) (λ i. omega (arith, h x _ hx pivot i.0, h _ y pivot hy i.1)) c.from

pub within : {n : ℕ} {f : Table} {k : ℕ} {g : Table} → n ≤ side → Within farthest n f → Closing n f k g → (k ≤ n) × Within (farthest * 2 ^ k) n g
within few h first = (omega arith, λ x y hx hy e. omega (arith, h x y hx hy e))
within few h (next {k} c p s passed) =
    let r = within few h c in
    let b : farthest * 2 ^ k ≤ half = bounded k (omega arith) in
    (omega arith, λ x y hx hy e. omega (arith, two k, within_next b p passed r.1 x y hx hy e))

pub near : {n k : ℕ} {f g : Table} → n ≤ side → Within farthest n f → Closing n f k g → Near n g
near {k = k} few h c x y hx hy e = let r = within few h c in omega (arith, r.1 x y hx hy e, bounded k (omega arith))

module _ (E : ℕ → ℕ → ℕ → ℕ → Type 0) where
  -- a walk whose inner points are below k
  pub data Through (k : ℕ) : ℕ → ℕ → ℕ → ℕ → Type 0 where
    stay : {X : ℕ} → Through k X X 0 0
    one : {X Y u d : ℕ} → E X Y u d → Through k X Y u d
    more : {X Z Y u d u' d' : ℕ} → E X Z u d → Z < k → Through k Z Y u' d' → Through k X Y (u + u') (d + d')

  -- a walk with inner points up to k, as walks with inner points below k that weigh no more
  data Split (k X Y u d : ℕ) : Type 0 where
    direct : (v e : ℕ) → Through k X Y v e → v + d ≤ u + e → Split k X Y u d
    via : (v e f g : ℕ) → Through k X k v e → Through k k Y f g → v + f + d ≤ u + e + g → Split k X Y u d

  module _ (n k : ℕ) (inside : Inside E n) (f : Table) (bound : (X Y u d : ℕ) → X < n → Through k X Y u d → (f X Y < none) × (f X Y + d ≤ bias + u)) (pivot : k < n) (calm_k : bias ≤ f k k) where
    -- an edge to a point below k goes in front of the first walk; after one to k a closed walk at k can be left out
    prepend : {X Z Y u d u' d' : ℕ} → E X Z u d → Z < k + 1 → Split k Z Y u' d' → Split k X Y (u + u') (d + d')
    prepend {X} {Z} {Y} {u} {d} {u'} {d'} e l s = elim (dec_lt Z k) [
      | yes h ↦ far h s
      | no h ↦
          let q : Z ≡ k = omega arith in
          at_k (subst (λ (a : ℕ). E X a u d) q e) (subst (λ (a : ℕ). Split k a Y u' d') q s)
    ]
      where
        far : Z < k → Split k Z Y u' d' → Split k X Y (u + u') (d + d')
        far h (direct a b w i) = direct (u + a) (d + b) (more e h w) (omega arith)
        far h (via a b v c w w' i) = via (u + a) (d + b) v c (more e h w) w' (omega arith)

        at_k : E X k u d → Split k k Y u' d' → Split k X Y (u + u') (d + d')
        at_k e' (direct a b w i) = via u d a b (one e') w (omega arith)
        at_k e' (via a b v c w w' i) = via u d v c (one e') w' (omega (arith, bound k k a b pivot w))

    split : {X Y u d : ℕ} → Through (k + 1) X Y u d → Split k X Y u d
    split stay = direct 0 0 stay (omega arith)
    split (one e) = direct _ _ (one e) (omega arith)
    split (more e l w) = prepend e l (split w)

    bound_next : (g : Table) (b : ℕ) → b ≤ half → Within b n f → Passed n k f g → (X Y u d : ℕ) → X < n → Y < n → Split k X Y u d → (g X Y < none) × (g X Y + d ≤ bias + u)
    bound_next g b small h p X Y u d hx hy (direct v e w i) = omega (arith, bound X Y v e hx w, (p.cell X Y hx hy).low)
    bound_next g b small h p X Y u d hx hy (via v e v' e' w w' i) =
        let s = bound X k v e hx w in
        let t = bound k Y v' e' pivot w' in
        omega (arith, (p.cell X Y hx hy).via s.0 t.0, h X k hx pivot s.0, h k Y pivot hy t.0)

  module _ (n : ℕ) (inside : Inside E n) where
    ends : {k X Y u d : ℕ} → X < n → Through k X Y u d → Y < n
    ends h stay = h
    ends h (one e) = (inside _ _ _ _ e).1
    ends h (more e l w) = ends (inside _ _ _ _ e).1 w

    -- every walk is one whose inner points are below n
    all : {X Y u d : ℕ} → Walk E X Y u d → Through n X Y u d
    all nil = stay
    all (step e w) = more e (inside _ _ _ _ e).1 (all w)

    -- what holds before the pass at k
    pub record Shut (k : ℕ) (g : Table) : Type 0 where
      pub bound : (X Y u d : ℕ) → X < n → Through k X Y u d → (g X Y < none) × (g X Y + d ≤ bias + u)
      pub real : (X Y : ℕ) → X < n → Y < n → g X Y < none → Attained E X Y (g X Y)

    module _ (few : n ≤ side) (f : Table) (drawn : Drawn E n f) where
      begin : Shut 0 f
      begin = record { bound = go; real = drawn.real }
        where
          go : (X Y u d : ℕ) → X < n → Through 0 X Y u d → (f X Y < none) × (f X Y + d ≤ bias + u)
          go X Y u d h stay = omega (arith, drawn.self X h)
          go X Y u d h (one e) = drawn.edge X Y u d e
          go X Y u d h (more e l w) = absurd (omega arith)

      turn : {k : ℕ} {g h : Table} → Closing n f k g → k < n → bias ≤ g k k → Passed n k g h → Shut k g → Shut (k + 1) h
      turn {k} {g} {h} c p s passed ih = record { bound = bound'; real = real' }
        where
          bound' : (X Y u d : ℕ) → X < n → Through (k + 1) X Y u d → (h X Y < none) × (h X Y + d ≤ bias + u)
          bound' X Y u d hx w =
              bound_next
              n
              k
              inside
              g
              ih.bound
              p
              s
              h
              (farthest * 2 ^ k)
              (bounded k (omega arith))
              (within few drawn.within c).1
              passed
              X
              Y
              u
              d
              hx
              (ends hx w)
              (split n k inside g ih.bound p s w)

          new : {X Y : ℕ} → Attained E X k (g X k) → Attained E k Y (g k Y) → h X Y + bias ≡ g X k + g k Y → Attained E X Y (h X Y)
          new a b e = record { up = a.up + b.up; down = a.down + b.down; walk = append E a.walk b.walk; weight = omega arith }

          real' : (X Y : ℕ) → X < n → Y < n → h X Y < none → Attained E X Y (h X Y)
          real' X Y hx hy e =
              ⊎_elim (λ i. rw i (ih.real X Y hx hy (omega arith))) (λ i. new (ih.real X k hx p i.0) (ih.real k Y p hy i.1) i.2) (passed.cell X Y hx hy).from

      pub shut : {k : ℕ} {g : Table} → Closing n f k g → Shut k g
      shut first = begin
      shut (next c p s passed) = turn c p s passed (shut c)

      -- the distances, and no cycle of negative sum; or one
      outside : {X Y u d : ℕ} → (X < n → ⊥) → Walk E X Y u d → d ≤ u
      outside h nil = omega arith
      outside h (step e w) = absurd (h (inside _ _ _ _ e).0)

      pub distances : {g : Table} → Closed n f true g → Distances E n g × Consistent E
      distances (calm {g} c s) = (record { least = least; real = sh.real }, record { round = round })
        where
          sh : Shut n g
          sh = shut c

          least : (X Y u d : ℕ) → X < n → Walk E X Y u d → (g X Y < none) × (g X Y + d ≤ bias + u)
          least X Y u d h w = sh.bound X Y u d h (all w)

          round : {X u d : ℕ} → Walk E X X u d → d ≤ u
          round {X} {u} {d} w = elim (dec_lt X n) [
            | yes h ↦ omega (arith, least X X u d h w, s X h)
            | no h ↦ outside h w
          ]

      pub cycle : {g : Table} → Closed n f false g → Cycle E
      cycle (below {k} {x} c h l) =
          let a = (shut c).real x x h h (omega arith) in
          record { at = x; up = a.up; down = a.down; walk = a.walk; below = omega arith }
