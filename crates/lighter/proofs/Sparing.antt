-- An ordinary record may go exactly where the code finds that it is not needed: in each projection the rest is good and reaches
-- from its first point to its second in no more than it says. Assumes nothing.
use mathlib.Core.Path.{◌≡◌, refl, sym, ap, ◌∙◌}
use mathlib.Core.Logic.{◌⊎◌, inl, inr}
use mathlib.Core.Bool.{Bool}
use mathlib.Core.List.{List, [], ◌∷◌, ◌++◌}
use Prim.Native.Nat.{ℕ, suc, ◌+◌, ◌<◌}
use native.Mathlib.Omega.{arith}
use lib.ListN.{length, get_or}
use Rattle.plan.specs.APlan.{gap_of}
use Rattle.plan.specs.APlan.Kind.{ordinary as an_ordinary_lem}
use Rattle.records.specs.declared.Record.{Record}
use Rattle.network.specs.Projection.{InBounds, Edge, ordinary, there, back}
use Rattle.network.specs.Projection.Edge.{wait as waits}
use Rattle.network.specs.Walks.{nil, step}
use Rattle.network.specs.Passing.{Passes}
use Rattle.network.proofs.Laws.{over}
use Rattle.rows.specs.Sheet.{by}
use Rattle.vee.specs.PlanTest.{Has, LinkIn, WaitIn, net_of, spans, projections, unset, edges_of}
use Rattle.vee.proofs.Rules.{Valid}
use Rattle.vee.proofs.Yes.{Every, none, also, carry, agree_good, stands_for, each_in_bounds}
use Rattle.vee.proofs.Walks.{as_many}
use Rattle.vee.proofs.Numbered.{every_at}
use Rattle.dropping.specs.Spare.{Told, told_yes, told_no, Reaches, Enough, Spare}
use Rattle.lighter.specs.Lighter.{MayGo}
use Rattle.lighter.proofs.Skips.{has_less, has_it, link_more, edge_more, other}
use Rattle.lighter.proofs.Covering.{Covers, covers_edges, covers_same, same_covers}

-- what holds at each place of a list holds of each of it
every_of : {A : Type 0} {P : A → Type 0} (d : A) (xs : List A) → ((i : ℕ) → i < length xs → P (get_or xs i d)) → Every P xs
every_of d [] h = none
every_of d (x ∷ xs) h = also (h 0 (omega arith)) (every_of d xs (λ i l. h (suc i) (omega arith)))

module _ (ks : List Record) (r : Record) (more : List Record) (kind : r.kind ≡ 3) where
  abbrev up : ℕ
  up = (gap_of r.first).up

  abbrev down : ℕ
  down = (gap_of r.first).down

  -- ---- the records with it and without it

  link_less : {A x y C : ℕ} → LinkIn (ks ++ (r ∷ more)) A x y C → LinkIn (ks ++ more) A x y C
  link_less l = record { what = l.what; has = other ks r more (rw kind refl) l.has; from = l.from; to = l.to; least = l.least; most = l.most }

  wait_less : {B C w : ℕ} → WaitIn (ks ++ (r ∷ more)) B C w → WaitIn (ks ++ more) B C w
  wait_less l = record { what = l.what; has = other ks r more (rw kind refl) l.has; holds = l.holds; until = l.until; long = l.long }

  -- the durations are in the same bounds
  pub bounds_less : {ω : ℕ → ℕ} → InBounds (net_of (ks ++ (r ∷ more))) ω → InBounds (net_of (ks ++ more)) ω
  bounds_less b = record { within = λ l. b.within (link_more ks r more l) }

  pub bounds_more : {ω : ℕ → ℕ} → InBounds (net_of (ks ++ more)) ω → InBounds (net_of (ks ++ (r ∷ more))) ω
  bounds_more b = record { within = λ l. b.within (link_less l) }

  module _ (ω : ℕ → ℕ) where
    its_edge : Edge (net_of (ks ++ (r ∷ more))) ω r.a r.b up down
    its_edge = ordinary (record { what = r; has = has_it ks r more an_ordinary_lem (rw kind refl); from = refl; to = refl; up = refl; down = refl })

    -- each edge is one of the rest, or its own
    module _ (h : Reaches (Edge (net_of (ks ++ more)) ω) r.a r.b up down) where
      reaches_edge : (X Y u d : ℕ) → Edge (net_of (ks ++ (r ∷ more))) ω X Y u d → Reaches (Edge (net_of (ks ++ more)) ω) X Y u d
      reaches_edge X Y u d (ordinary o) = go (has_less r more ks o.has)
        where
          go : (o.what ≡ r) ⊎ Has (ks ++ more) an_ordinary_lem o.what → Reaches (Edge (net_of (ks ++ more)) ω) X Y u d
          go (inl e) =
              let a : X ≡ r.a = sym o.from ∙ ap (λ (x : Record). x.a) e in
              let b : Y ≡ r.b = sym o.to ∙ ap (λ (x : Record). x.b) e in
              let f : u ≡ up = sym o.up ∙ ap (λ (x : Record). (gap_of x.first).up) e in
              let g : d ≡ down = sym o.down ∙ ap (λ (x : Record). (gap_of x.first).down) e in
              rw (a, b, f, g) h
          go (inr g) = one (ordinary (record { what = o.what; has = g; from = o.from; to = o.to; up = o.up; down = o.down }))
            where
              one : Edge (net_of (ks ++ more)) ω X Y u d → Reaches (Edge (net_of (ks ++ more)) ω) X Y u d
              one e = record { up = u + 0; down = d + 0; walk = step e nil; short = omega arith }
      reaches_edge X Y u d (there l) = record { up = ω Y + 0; down = 0 + 0; walk = step (there (link_less l)) nil; short = omega arith }
      reaches_edge X Y u d (back l) = record { up = 0 + 0; down = ω X + 0; walk = step (back (link_less l)) nil; short = omega arith }
      reaches_edge X Y u d (waits l w) = let e = waits (link_less l) (wait_less w) in record { up = u + 0; down = d + 0; walk = step e nil; short = omega arith }

      pub its_cover : Covers (Edge (net_of (ks ++ (r ∷ more))) ω) (Edge (net_of (ks ++ more)) ω)
      its_cover = covers_edges reaches_edge

  -- ---- not needed, and may go

  module _ (v : Valid [] (ks ++ more)) (passes : Passes (net_of (ks ++ (r ∷ more)))) where
    -- what is found of the listed projections holds of all that are in bounds
    enough : Spare (ks ++ more) r → (ω : ℕ → ℕ) → InBounds (net_of (ks ++ more)) ω → Enough (Edge (net_of (ks ++ more)) ω) r.a r.b up down
    enough s ω b =
        let all = every_of [] (projections (spans (ks ++ more)) unset) (λ i l. s.each i (omega (arith, as_many (spans (ks ++ more)) unset))) in
        let w = stands_for (ks ++ more) v {P = λ w. Enough (edges_of (ks ++ more) w) r.a r.b up down} all ω b in
        let k = w.1.reaches in
        record {
          good = agree_good (net_of (ks ++ more)) w.2 w.1.good;
          reaches = record { up = k.up; down = k.down; walk = over (carry (net_of (ks ++ more)) w.2) k.walk; short = k.short };
        }

    spare_may : Spare (ks ++ more) r → MayGo ks r more
    spare_may s =
        record {
          ordinary = s.is;
          passes = record { each = λ ω b. (enough s ω b).good };
          same = record { each = λ ω b. covers_same (edge_more ks r more) (its_cover ω (enough s ω (bounds_less b)).reaches) };
        }

    may_spare : MayGo ks r more → Spare (ks ++ more) r
    may_spare m =
        record {
          is = m.ordinary;
          each = λ i l.
              let w = get_or (projections (spans (ks ++ more)) unset) i [] in
              let b = every_at [] (each_in_bounds (ks ++ more) v) i (omega (arith, as_many (spans (ks ++ more)) unset)) in
              let c = same_covers (passes.each (by w) (bounds_more b)) (m.same.each (by w) (bounds_more b)) in
              let k = c.by (step (its_edge (by w)) nil) in
              record { good = m.passes.each (by w) b; reaches = record { up = k.up; down = k.down; walk = k.walk; short = omega (arith, k.short) } };
        }

    -- What the code is told of the one holds of the other.
    pub told_may : {b : Bool} → Told (Spare (ks ++ more) r) b → Told (MayGo ks r more) b
    told_may (told_yes s) = told_yes (spare_may s)
    told_may (told_no n) = told_no (λ m. n (may_spare m))
