-- The list of a projection's edges that the computed test goes by: it has the edges of the plan, and its table is drawn right.
-- Assumes nothing.
use mathlib.Core.Path.{◌≡◌, refl, sym}
use mathlib.Core.Logic.{◌⊎◌, inl, inr, ⊎_elim}
use mathlib.Core.Bool.{Bool, true, false, ◌&&◌}
use mathlib.Core.List.{List, [], ◌∷◌, ◌++◌}
use Prim.Native.Nat.{ℕ, zero, suc, min, ◌+◌, ◌-◌, ◌<◌, ◌≤◌}
use native.Mathlib.Omega.{arith}
use native.Mathlib.Decide.{ℕ_discrete, dec_lt}
use lib.Dec.{eqb}
use lib.ListN.{length, get_or}
use borrow.Author.Tests.{ne_eqb, eq-eqb}
use Rattle.plan.specs.Limits.{farthest}
use Rattle.plan.specs.APlan.{link_to, blank, gap_of}
use Rattle.records.specs.declared.Record.{Record}
use Rattle.tables.specs.declared.table.Part.{Part}
use Rattle.tables.specs.Tables.{bias}
use Rattle.tables.specs.Steps.{takes_of, PartOf}
use Rattle.tables.specs.Distances.{Drawn}
use Rattle.rows.specs.Sheet.{by}
use Rattle.vee.specs.TestOf.{Arc, arc, arcs_of, arcs, at_once}
use Rattle.tables.proofs.Offers.{Plus, old, new, same, OffersAt, plus_part, begun}
use Rattle.vee.proofs.Edges.{Gives, ordinary_gives, there_gives, back_gives, wait_gives, Given}

-- an edge is one of the list
pub data In : List Arc → ℕ → ℕ → ℕ → ℕ → Type 0 where
  here : {e : Arc} {es : List Arc} {X Y u d : ℕ} → X ≡ e.from → Y ≡ e.to → u ≡ e.up → d ≡ e.down → In (e ∷ es) X Y u d
  later : {e : Arc} {es : List Arc} {X Y u d : ℕ} → In es X Y u d → In (e ∷ es) X Y u d

module _ {X Y u d : ℕ} where
  in_front_lem : (es fs : List Arc) → In es X Y u d → In (es ++ fs) X Y u d
  in_front_lem [] fs x' = elim x' [ ]
  in_front_lem (e ∷ es) fs (here a b f g) = here a b f g
  in_front_lem (e ∷ es) fs (later m) = later (in_front_lem es fs m)

  in_rest : (es : List Arc) {fs : List Arc} → In fs X Y u d → In (es ++ fs) X Y u d
  in_rest [] m = m
  in_rest (e ∷ es) m = later (in_rest es m)

  in_either : (es : List Arc) {fs : List Arc} → In (es ++ fs) X Y u d → In es X Y u d ⊎ In fs X Y u d
  in_either [] m = inr m
  in_either (e ∷ es) (here a b f g) = inl (here a b f g)
  in_either (e ∷ es) (later m) = ⊎_elim (λ m. inl (later m)) (λ m. inr m) (in_either es m)

module _ (rs : List Record) (w : List ℕ) {X Y u d : ℕ} where
  -- the edges of a record are those that it gives
  given_arc : (r : Record) → Gives rs w r X Y u d → In (arcs_of rs w r) X Y u d
  given_arc r (ordinary_gives k a b f g) = rw k (here a b f g)
  given_arc r (there_gives k a b f g) = rw k (here a b f g)
  given_arc r (back_gives k a b f g) = rw k (later (here a b f g))
  given_arc r (wait_gives k a b f g) = rw k (here a b f g)

  arc_given : (r : Record) → In (arcs_of rs w r) X Y u d → Gives rs w r X Y u d
  arc_given r m = elim (ℕ_discrete r.kind 3) [
    | yes k ↦ of_ordinary k (rw k at m)
    | no k3 ↦ elim (ℕ_discrete r.kind 2) [
      | yes k ↦ of_link k (rw k at m)
      | no k2 ↦ elim (ℕ_discrete r.kind 4) [
        | yes k ↦ of_wait k (rw k at m)
        | no k4 ↦ nothing (rw (ne_eqb r.kind 3 k3, ne_eqb r.kind 2 k2, ne_eqb r.kind 4 k4) at m)
      ]
    ]
  ]
    where
      of_ordinary : r.kind ≡ 3 → In (arc r.a r.b (gap_of r.first).up (gap_of r.first).down ∷ []) X Y u d → Gives rs w r X Y u d
      of_ordinary k (here a b f g) = ordinary_gives k a b f g
      of_ordinary k (later m) = elim m [ ]

      of_link : r.kind ≡ 2 → In (arc r.a r.b (by w r.b) 0 ∷ arc r.b r.a 0 (by w r.b) ∷ []) X Y u d → Gives rs w r X Y u d
      of_link k (here a b f g) = there_gives k a b f g
      of_link k (later (here a b f g)) = back_gives k a b f g
      of_link k (later (later m)) = elim m [ ]

      of_wait : r.kind ≡ 4 → In (arc r.a (link_to rs r.b).a 0 (min (gap_of r.first).up (by w r.b)) ∷ []) X Y u d → Gives rs w r X Y u d
      of_wait k (here a b f g) = wait_gives k a b f g
      of_wait k (later m) = elim m [ ]

      nothing : In [] X Y u d → Gives rs w r X Y u d
      nothing m = elim m [ ]

  in_arcs : (more : List Record) (q : ℕ) → q < length more → Gives rs w (get_or more q blank) X Y u d → In (arcs rs w more) X Y u d
  unfolding arcs
  in_arcs [] q h g = absurd (omega arith)
  in_arcs (r ∷ more) zero h g = in_front_lem (arcs_of rs w r) (arcs rs w more) (given_arc r g)
  in_arcs (r ∷ more) (suc q) h g = in_rest (arcs_of rs w r) (in_arcs more q (omega arith) g)

  of_arcs : (more : List Record) → In (arcs rs w more) X Y u d → (q : ℕ) × (q < length more) × Gives rs w (get_or more q blank) X Y u d
  unfolding arcs
  of_arcs [] m = elim m [ ]
  of_arcs (r ∷ more) m = go (in_either (arcs_of rs w r) m) (λ m. of_arcs more m)
    where
      go : In (arcs_of rs w r) X Y u d ⊎ In (arcs rs w more) X Y u d → (In (arcs rs w more) X Y u d → (q : ℕ) × (q < length more) × Gives rs w (get_or more q blank) X Y u d)
          → (q : ℕ) × (q < length (r ∷ more)) × Gives rs w (get_or (r ∷ more) q blank) X Y u d
      go (inl m) rec = (0, omega arith, arc_given r m)
      go (inr m) rec = let f = rec m in (suc f.0, omega (arith, f.1), f.2)

module _ (rs : List Record) (w : List ℕ) where
  pub given_in : (X Y u d : ℕ) → Given rs w X Y u d → In (arcs rs w rs) X Y u d
  given_in X Y u d g = in_arcs rs w rs g.place g.listed g.gives

  pub in_given : (X Y u d : ℕ) → In (arcs rs w rs) X Y u d → Given rs w X Y u d
  in_given X Y u d m = let g = of_arcs rs w rs m in record { place = g.0; listed = g.1; gives = g.2 }

-- ---- the table of the edges

-- the edges are between n points, and their weights are small
abbrev pub Small : ℕ → List Arc → Type 0
Small n es = (X Y u d : ℕ) → In es X Y u d → (X < n) × (Y < n) × (u ≤ farthest) × (d ≤ farthest)

-- an edge more is one offer more
module _ (b : Part) (n : ℕ) (e : Arc) (es : List Arc) (hd : e.down ≤ farthest) where
  elsewhere : (x y : ℕ) → ((x ≡ e.from) × (y ≡ e.to) → ⊥) → eqb e.from x && eqb e.to y ≡ false
  elsewhere x y h = elim (ℕ_discrete e.from x) [
    | yes p ↦ elim (ℕ_discrete e.to y) [
      | yes q ↦ absurd (h (sym p, sym q))
      | no q ↦ rw (eq-eqb e.from x p, ne_eqb e.to y q) refl
    ]
    | no p ↦ rw (ne_eqb e.from x p) refl
  ]

  offers : (c : Bool) → takes_of b e.up e.down ≡ c → OffersAt c n e.from e.to e.up e.down (at_once b es) (at_once b (e ∷ es))
  unfolding at_once
  offers false t = λ x y hx hy. rw t refl
  offers true t = record { low = rw it (omega arith); via = rw it (omega arith); from = rw it least; rest = λ x y hx hy h. rw (t, elsewhere x y h) refl }
    where
      it : at_once b (e ∷ es) e.from e.to ≡ min (bias + e.up - e.down) (at_once b es e.from e.to)
      it = rw (t, eq-eqb e.from e.from refl, eq-eqb e.to e.to refl) refl

      least : (min (bias + e.up - e.down) (at_once b es e.from e.to) ≡ at_once b es e.from e.to) ⊎ (min (bias + e.up - e.down) (at_once b es e.from e.to) + e.down ≡ bias + e.up)
      least = elim (dec_lt (bias + e.up - e.down) (at_once b es e.from e.to)) [
        | yes l ↦ inr (omega arith)
        | no l ↦ inl (omega arith)
      ]

pub drawn : (b : Part) (n : ℕ) (es : List Arc) → Small n es → Drawn (PartOf b (In es)) n (at_once b es)
unfolding at_once
drawn b n [] s = begun (PartOf b (In [])) n (at_once b []) (λ X Y u d p. elim p.edge [ ]) (record { self = λ x h. rw (eq-eqb x x refl) refl; other = λ x y hx hy e. rw (ne_eqb x y e) refl })
drawn b n (e ∷ es) s =
    let k = s e.from e.to e.up e.down (here refl refl refl refl) in
    same
    to
    from
    (plus_part
    b
    (In es)
    n
    (at_once b es)
    (at_once b (e ∷ es))
    (drawn b n es (λ X Y u d m. s X Y u d (later m)))
    (λ X Y u d m. let k = s X Y u d (later m) in (k.0, k.1))
    e.from
    e.to
    e.up
    e.down
    k.0
    k.1
    k.2
    k.3
    (takes_of b e.up e.down)
    refl
    (offers b n e es k.3 (takes_of b e.up e.down) refl))
  where
    to : (X Y u d : ℕ) → PartOf b (Plus (In es) e.from e.to e.up e.down) X Y u d → PartOf b (In (e ∷ es)) X Y u d
    to X Y u d p = record { edge = go p.edge; taken = p.taken }
      where
        go : Plus (In es) e.from e.to e.up e.down X Y u d → In (e ∷ es) X Y u d
        go (old m) = later m
        go (new a b f g) = here a b f g

    from : (X Y u d : ℕ) → PartOf b (In (e ∷ es)) X Y u d → PartOf b (Plus (In es) e.from e.to e.up e.down) X Y u d
    from X Y u d p = record { edge = go p.edge; taken = p.taken }
      where
        go : In (e ∷ es) X Y u d → Plus (In es) e.from e.to e.up e.down X Y u d
        go (here a b f g) = new a b f g
        go (later m) = old m
