-- A table that is closed keeps its numbers near zero, or its edges have a cycle of negative sum: a walk between n points that is
-- longer than n edges comes back to a point, and what it went round can be left out. Assumes nothing.
use mathlib.Core.Path.{◌≡◌, refl, subst, ap}
use mathlib.Core.Logic.{◌⊎◌, ◌≢◌, inl, inr, ⊎_elim}
use mathlib.Core.List.{List, [], ◌∷◌}
use Prim.Native.Nat.{ℕ, zero, suc, ◌+◌, ◌*◌, ◌<◌, ◌≤◌}
use native.Mathlib.Omega.{arith}
use native.Mathlib.Decide.{dec_lt, ℕ_discrete}
use native.Mathlib.Nat.{suc-mul}
use lib.ListN.{length}
use Rattle.network.specs.Walks.{Walk, nil, step}
use Rattle.network.specs.Passing.{Cycle}
use Rattle.network.proofs.Laws.{over}

-- ---- some points, and those that are left without one of them

pub data Among (p : ℕ) : List ℕ → Type 0 where
  here : {ps : List ℕ} → Among p (p ∷ ps)
  later : {a : ℕ} {ps : List ℕ} → Among p ps → Among p (a ∷ ps)

pub record Without (x : ℕ) (ps : List ℕ) : Type 0 where
  pub others : List ℕ
  pub fewer : length ps ≡ suc (length others)
  pub keeps : (p : ℕ) → Among p ps → p ≢ x → Among p others
  pub has : (p : ℕ) → Among p others → Among p ps

module _ (x a : ℕ) (ps : List ℕ) (w : Without x ps) where
  also_keeps : (p : ℕ) → Among p (a ∷ ps) → p ≢ x → Among p (a ∷ w.others)
  also_keeps p here n = here
  also_keeps p (later l) n = later (w.keeps p l n)

  also_has : (p : ℕ) → Among p (a ∷ w.others) → Among p (a ∷ ps)
  also_has p here = here
  also_has p (later l) = later (w.has p l)

  also : Without x (a ∷ ps)
  also = record { others = a ∷ w.others; fewer = ap suc w.fewer; keeps = also_keeps; has = also_has }

pub without : {x : ℕ} {ps : List ℕ} → Among x ps → Without x ps
without {x} (here {ps}) = record { others = ps; fewer = refl; keeps = keeps; has = λ p m. later m }
  where
    keeps : (p : ℕ) → Among p (x ∷ ps) → p ≢ x → Among p ps
    keeps p here n = absurd (n refl)
    keeps p (later m) n = m
without {x} (later {a} {ps} m) = also x a ps (without m)

-- the points below k
pub below : ℕ → List ℕ
below zero = []
below (suc k) = k ∷ below k

pub below_long : (k : ℕ) → length (below k) ≡ k
unfolding below
below_long zero = refl
below_long (suc k) = ap suc (below_long k)

pub is_below_lem : (k p : ℕ) → p < k → Among p (below k)
unfolding below
is_below_lem zero p h = absurd (omega arith)
is_below_lem (suc k) p h = elim (ℕ_discrete p k) [
  | yes e ↦ rw e here
  | no e ↦ later (is_below_lem k p (omega arith))
]

pub below_is : (k p : ℕ) → Among p (below k) → p < k
unfolding below
below_is zero p x' = elim x' [ ]
below_is (suc k) p here = omega arith
below_is (suc k) p (later m) = omega (arith, below_is k p m)

module _ (E : ℕ → ℕ → ℕ → ℕ → Type 0) where
  -- an edge to one of these points
  pub record Only (ps : List ℕ) (X Y u d : ℕ) : Type 0 where
    pub edge : E X Y u d
    pub to : Among Y ps

  plain : {ps : List ℕ} {X Y u d : ℕ} → Walk (Only ps) X Y u d → Walk E X Y u d
  plain w = over (λ X Y u d e. e.edge) w

  -- a walk, and where it last came to x
  module _ {x : ℕ} {ps : List ℕ} (rest : Without x ps) where
    data Left (W Y u d : ℕ) : Type 0 where
      never : Walk (Only rest.others) W Y u d → Left W Y u d
      last : (a b f g : ℕ) → Walk E W x a b → Walk (Only rest.others) x Y f g → a + f ≡ u → b + g ≡ d → Left W Y u d

    leave : {W Y u d : ℕ} → Walk (Only ps) W Y u d → Left W Y u d
    leave nil = never nil
    leave (step {X = W} {Z = Z} {Y = Y} {u = u} {d = d} {u' = u'} {d' = d'} e w) = go (leave w)
      where
        go : Left Z Y u' d' → Left W Y (u + u') (d + d')
        go (last a b f g p q h k) = last (u + a) (d + b) f g (step e.edge p) q (omega arith) (omega arith)
        go (never v) = elim (ℕ_discrete Z x) [
          | yes z ↦ last (u + 0) (d + 0) u' d' (subst (λ (p : ℕ). Walk E W p (u + 0) (d + 0)) z (step e.edge nil)) (subst (λ (p : ℕ). Walk (Only rest.others) p Y u' d') z v) (omega arith) (omega arith)
          | no z ↦ never (step (record { edge = e.edge; to = rest.keeps Z e.to z }) v)
        ]

  -- a walk no heavier, of which no weight is above m times c
  pub record Short (ps : List ℕ) (c m X Y u d : ℕ) : Type 0 where
    pub up : ℕ
    pub down : ℕ
    pub walk : Walk (Only ps) X Y up down
    pub less : up + d ≤ u + down
    pub most : up ≤ m * c
    pub least : down ≤ m * c

  module _ (c : ℕ) (light : (X Y u d : ℕ) → E X Y u d → (u ≤ c) × (d ≤ c)) where
    -- from x on to other points alone: no edge, or one and then a walk among the others
    onward : {ps : List ℕ} {x Y u d : ℕ} (rest : Without x ps) (m : ℕ) → ((Z a b : ℕ) → Among Z rest.others → Walk (Only rest.others) Z Y a b → Cycle E ⊎ Short rest.others c m Z Y a b) → Walk (Only rest.others) x Y u d → Cycle E ⊎ Short ps c (suc m) x Y u d
    onward rest m again nil = inr (record { up = 0; down = 0; walk = nil; less = omega arith; most = omega arith; least = omega arith })
    onward {ps} {x} {Y} rest m again (step {Z = Z} {u = u} {d = d} {u' = u'} {d' = d'} e w) = ⊎_elim inl (λ s. inr (longer s)) (again Z u' d' e.to w)
      where
        longer : Short rest.others c m Z Y u' d' → Short ps c (suc m) x Y (u + u') (d + d')
        longer s =
            let l = light x Z u d e.edge in
            record {
              up = u + s.up;
              down = d + s.down;
              walk = step (record { edge = e.edge; to = rest.has Z e.to }) (over (λ A B a b k. record { edge = k.edge; to = rest.has B k.to }) s.walk);
              less = omega (arith, s.less);
              most = rw (suc-mul m c) (omega (arith, s.most));
              least = rw (suc-mul m c) (omega (arith, s.least));
            }

    shorter : {ps : List ℕ} {x Y u d : ℕ} (rest : Without x ps) (m : ℕ) → ((Z a b : ℕ) → Among Z rest.others → Walk (Only rest.others) Z Y a b → Cycle E ⊎ Short rest.others c m Z Y a b) → Left rest x Y u d → Cycle E ⊎ Short ps c (suc m) x Y u d
    shorter rest m again (never v) = onward rest m again v
    shorter {ps} {x} {Y} {u} {d} rest m again (last a b f g p q h k) = elim (dec_lt a b) [
      | yes l ↦ inl (record { at = x; up = a; down = b; walk = p; below = l })
      | no l ↦ ⊎_elim inl (λ s. inr (record { up = s.up; down = s.down; walk = s.walk; less = omega (arith, s.less); most = s.most; least = s.least })) (onward rest m again q)
    ]

    pub short : (m : ℕ) (ps : List ℕ) → length ps ≡ m → {X Y u d : ℕ} → Among X ps → Walk (Only ps) X Y u d → Cycle E ⊎ Short ps c m X Y u d
    short zero ps e {X} m w = absurd (omega (arith, (without m).fewer))
    short (suc m) ps e {X} {Y} {u} {d} a w =
        let rest = without a in
        shorter rest m (λ Z f g b v. short m rest.others (omega (arith, rest.fewer)) b v) (leave rest w)
