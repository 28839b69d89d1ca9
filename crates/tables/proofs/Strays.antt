-- No entry of a table that is being closed is far from zero: of the points passed none is below zero from itself to itself, so what a
-- walk goes round among them can be left out. Assumes nothing.
use mathlib.Core.Path.{◌≡◌, refl}
use mathlib.Core.Logic.{◌⊎◌, inl, inr, ⊎_elim}
use mathlib.Core.List.{List}
use Prim.Native.Nat.{ℕ, ◌+◌, ◌-◌, ◌*◌, ◌<◌, ◌≤◌}
use native.Mathlib.Omega.{arith}
use native.Mathlib.Decide.{dec_lt, ℕ_discrete}
use native.Mathlib.Nat.{zero-add, add_assoc}
use Rattle.network.specs.Walks.{Walk, nil, step}
use Rattle.network.specs.Passing.{Cycle}
use Rattle.network.proofs.Laws.{over}
use Rattle.plan.specs.Limits.{farthest}
use Rattle.tables.specs.Tables.{Table, bias, none, side, Closing, Within}
use Rattle.tables.specs.Tables.Closing.{first, next}
use Rattle.tables.specs.Distances.{Inside, Drawn}
use Rattle.tables.proofs.Closing.{Through, stay, one, more, shut, within}
use Rattle.tables.proofs.Ranges.{Among, below, below_long, is_below_lem, below_is, Only, Short, short}

-- ---- walks whose inner points are below k

module _ (E : ℕ → ℕ → ℕ → ℕ → Type 0) where
  weaken : {k X Y u d : ℕ} → Through E k X Y u d → Through E (k + 1) X Y u d
  weaken stay = stay
  weaken (one e) = one e
  weaken (more e l w) = more e (omega arith) (weaken w)

  join : {k X Z Y u d u' d' : ℕ} → Z ≡ k → Through E k X Z u d → Through E k Z Y u' d' → Through E (k + 1) X Y (u + u') (d + d')
  join q stay v = simp zero-add (weaken v)
  join q (one e) v = more e (omega arith) (weaken v)
  join q (more e l w) v = simp add_assoc (more e (omega arith) (join q w v))

  -- two walks that meet at a point below k
  chain : {k X Z Y u d u' d' : ℕ} → Z < k → Through E k X Z u d → Through E k Z Y u' d' → Through E k X Y (u + u') (d + d')
  chain h stay v = simp zero-add v
  chain h (one e) v = more e h v
  chain h (more e l w) v = simp add_assoc (more e l (chain h w v))

  -- from a point below k: a walk among those, and perhaps an edge more
  data Last (k Z Y u d : ℕ) : Type 0 where
    inner : Walk (Only E (below k)) Z Y u d → Last k Z Y u d
    outer : (W a b f g : ℕ) → Walk (Only E (below k)) Z W f g → E W Y a b → f + a ≡ u → g + b ≡ d → Last k Z Y u d

  last : {k Z Y u d : ℕ} → Through E k Z Y u d → Last k Z Y u d
  last stay = inner nil
  last {u = u} {d = d} (one e) = outer _ u d 0 0 nil e (omega arith) (omega arith)
  last {k} (more {X = X} {Z = Z} {Y = Y} {u = u} {d = d} {u' = u'} {d' = d'} e l w) = go (last w)
    where
      go : Last k Z Y u' d' → Last k X Y (u + u') (d + d')
      go (inner v) = inner (step (record { edge = e; to = is_below_lem k Z l }) v)
      go (outer W a b f g v e' h i) = outer W a b (u + f) (d + g) (step (record { edge = e; to = is_below_lem k Z l }) v) e' (omega arith) (omega arith)

  through : {k Z Y u d : ℕ} → Walk (Only E (below k)) Z Y u d → Through E k Z Y u d
  through nil = stay
  through {k} (step e w) = more e.edge (below_is k _ e.to) (through w)

  -- a walk to some points ends at one of them
  landed : {ps : List ℕ} {X Y u d : ℕ} → Among X ps → Walk (Only E ps) X Y u d → Among Y ps
  landed a nil = a
  landed a (step e w) = landed e.to w

  and_then : {k Z W Y u d a b : ℕ} → Walk (Only E (below k)) Z W u d → E W Y a b → Through E k Z Y (u + a) (d + b)
  and_then nil e = simp zero-add (one e)
  and_then {k} (step e w) e' = simp add_assoc (more e.edge (below_is k _ e.to) (and_then w e'))

  -- a walk no heavier, of which no weight is above w
  record Lighter (w k X Y u d : ℕ) : Type 0 where
    up : ℕ
    down : ℕ
    walk : Through E k X Y up down
    less : up + d ≤ u + down
    most : up ≤ w
    least : down ≤ w

  module _ (c : ℕ) (light : (X Y u d : ℕ) → E X Y u d → (u ≤ c) × (d ≤ c)) where
    -- from a point below k, among those: a short walk, or a cycle of negative sum there
    among : (k : ℕ) {Z Y u d : ℕ} → Z < k → Walk (Only E (below k)) Z Y u d → Cycle (Only E (below k)) ⊎ Short (Only E (below k)) (below k) c k Z Y u d
    among k {Z} l v = short (Only E (below k)) c (λ X Y u d e. light X Y u d e.edge) k (below k) (below_long k) (is_below_lem k Z l) (over (λ X Y u d e. record { edge = e; to = e.to }) v)

    walked : {k Z Y u d : ℕ} (s : Short (Only E (below k)) (below k) c k Z Y u d) → Walk (Only E (below k)) Z Y s.up s.down
    walked s = over (λ X Y u d e. e.edge) s.walk

    lighter : {k X Y u d : ℕ} → Through E k X Y u d → Cycle (Only E (below k)) ⊎ Lighter (k * c + (c + c)) k X Y u d
    lighter stay = inr (record { up = 0; down = 0; walk = stay; less = omega arith; most = omega arith; least = omega arith })
    lighter {u = u} {d = d} (one e) = let l = light _ _ u d e in inr (record { up = u; down = d; walk = one e; less = omega arith; most = omega arith; least = omega arith })
    lighter {k} (more {X = X} {Z = Z} {Y = Y} {u = u} {d = d} {u' = u'} {d' = d'} e l w) = go (last w)
      where
        start : (u ≤ c) × (d ≤ c)
        start = light X Z u d e

        go : Last k Z Y u' d' → Cycle (Only E (below k)) ⊎ Lighter (k * c + (c + c)) k X Y (u + u') (d + d')
        go (inner v) = ⊎_elim inl
            (λ s. inr (record { up = u + s.up; down = d + s.down; walk = more e l (through (walked s)); less = omega (arith, s.less); most = omega (arith, s.most, start); least = omega (arith, s.least, start) }))
            (among k l v)
        go (outer W a b f g v e' h i) =
            let t = light W Y a b e' in
            ⊎_elim inl
            (λ s. inr (record { up = u + (s.up + a); down = d + (s.down + b); walk = more e l (and_then (walked s) e'); less = omega (arith, s.less); most = omega (arith, s.most, start); least = omega (arith, s.least, start) }))
            (among k l v)

-- ---- the table's own entries as edges

record Entry (n : ℕ) (f : Table) (X Y u d : ℕ) : Type 0 where
  from : X < n
  to : Y < n
  there : f X Y < none
  weight : f X Y + d ≡ bias + u
  up : u ≤ farthest
  down : d ≤ farthest

module _ (n : ℕ) (few : n ≤ side) (f : Table) (self : (X : ℕ) → X < n → f X X ≤ bias) (edges : Within farthest n f) where
  abbrev T : ℕ → ℕ → ℕ → ℕ → Type 0
  T = Entry n f

  in_T : Inside T n
  in_T X Y u d e = (e.from, e.to)

  edge_of : (X Y : ℕ) → X < n → Y < n → f X Y < none → (u : ℕ) × (d : ℕ) × T X Y u d
  edge_of X Y hx hy h =
      let w = edges X Y hx hy h in
      elim (dec_lt (f X Y) bias) [
        | yes l ↦ (0, bias - f X Y, record { from = hx; to = hy; there = h; weight = omega arith; up = omega arith; down = omega arith })
        | no l ↦ (f X Y - bias, 0, record { from = hx; to = hy; there = h; weight = omega arith; up = omega arith; down = omega arith })
      ]

  drawn_T : Drawn T n f
  drawn_T = record {
    self = self;
    edge = λ X Y u d e. (e.there, omega (arith, e.weight));
    real = λ X Y hx hy h. let e = edge_of X Y hx hy h in record { up = e.0 + 0; down = e.1 + 0; walk = step e.2 nil; weight = omega (arith, e.2.weight) };
    within = edges;
  }

  -- each entry is the weight of a walk through points below k
  record Held (k X Y v : ℕ) : Type 0 where
    up : ℕ
    down : ℕ
    walk : Through T k X Y up down
    weight : v + down ≡ bias + up

  held : {k : ℕ} {g : Table} → Closing n f k g → (X Y : ℕ) → X < n → Y < n → g X Y < none → Held k X Y (g X Y)
  held first X Y hx hy h = let e = edge_of X Y hx hy h in record { up = e.0; down = e.1; walk = one e.2; weight = e.2.weight }
  held (next {k} {g} {h} c p s passed) X Y hx hy fin = ⊎_elim
      (λ i. old (held c X Y hx hy (omega arith)) i)
      (λ i. new (held c X k hx p i.0) (held c k Y p hy i.1) i.2)
      (passed.cell X Y hx hy).from
    where
      old : Held k X Y (g X Y) → h X Y ≡ g X Y → Held (k + 1) X Y (h X Y)
      old a i = record { up = a.up; down = a.down; walk = weaken T a.walk; weight = omega (arith, a.weight) }

      new : Held k X k (g X k) → Held k k Y (g k Y) → h X Y + bias ≡ g X k + g k Y → Held (k + 1) X Y (h X Y)
      new a b i = record { up = a.up + b.up; down = a.down + b.down; walk = join T refl a.walk b.walk; weight = omega (arith, a.weight, b.weight) }

  -- none of the points passed is below zero from itself to itself: by the point k it would come back to k below zero
  passed_calm : {k : ℕ} {g : Table} → Closing n f k g → (x : ℕ) → x < k → bias ≤ g x x
  passed_calm first x l = absurd (omega arith)
  passed_calm (next {k} {g} {h} c p s passed) x l = elim (ℕ_discrete x k) [
    | yes e ↦ rw e (⊎_elim (λ i. omega (arith, s)) (λ i. omega (arith, s, i.2)) (passed.cell k k p p).from)
    | no e ↦
        let hx : x < n = omega arith in
        let lx : x < k = omega arith in
        ⊎_elim
        (λ i. omega (arith, passed_calm c x lx))
        (λ i. back lx (held c x k hx p i.0) (held c k x p hx i.1) i.2)
        (passed.cell x x hx hx).from
  ]
    where
      back : x < k → Held k x k (g x k) → Held k k x (g k x) → h x x + bias ≡ g x k + g k x → bias ≤ h x x
      back lx a b i = omega (arith, a.weight, b.weight, s, ((shut T n in_T few f drawn_T c).bound k k (b.up + a.up) (b.down + a.down) p (chain T lx b.walk a.walk)).1)

  -- so there is no cycle of negative sum among them
  no_cycle : {k : ℕ} {g : Table} → Closing n f k g → Cycle (Only T (below k)) → ⊥
  no_cycle {k} {g} c z = go z.walk refl z.below
    where
      in_n : k ≤ n
      in_n = (within few edges c).0

      go : {x y u d : ℕ} → Walk (Only T (below k)) x y u d → x ≡ y → u < d → ⊥
      go nil q l = omega arith
      go {x} {y} {u} {d} (step e w) q l =
          let ly = below_is k y (landed T e.to w) in
          let b = ((shut T n in_T few f drawn_T c).bound x y u d (omega (arith, in_n)) (through T (step e w))).1 in
          omega (arith, passed_calm c y ly, rw q at b)

  -- No entry is far from zero.
  pub never_far : {k : ℕ} {g : Table} → Closing n f k g → (X Y : ℕ) → X < n → Y < n → g X Y < none → (bias ≤ g X Y + (side + 2) * farthest) × (g X Y ≤ bias + (side + 2) * farthest)
  never_far {k} {g} c X Y hx hy h =
      let a = held c X Y hx hy h in
      let few_k = (within few edges c).0 in
      ⊎_elim
      (λ z. absurd (no_cycle c z))
      (λ s. let b = (shut T n in_T few f drawn_T c).bound X Y s.up s.down hx s.walk in
      (omega (arith, a.weight, s.less, s.least), omega (arith, b.1, s.most)))
      (lighter T farthest (λ A B u d e. (e.up, e.down)) a.walk)
