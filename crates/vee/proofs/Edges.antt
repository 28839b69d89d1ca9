-- The edges of a plan that is not refused, record by record: between its points, and of no large weight. Assumes nothing.
use mathlib.Core.Path.{◌≡◌, refl, sym, ap, ◌∙◌}
use mathlib.Core.Bool.{true}
use mathlib.Core.List.{List, []}
use Prim.Native.Nat.{ℕ, min, ◌<◌, ◌≤◌}
use native.Mathlib.Omega.{arith}
use lib.IntN.{pos}
use lib.ListN.{length, get_or}
use borrow.Author.Tests.{eqb-true}
use Rattle.plan.specs.Limits.{farthest}
use Rattle.plan.specs.APlan.{Kind, point, link, ordinary, wait, is, how_many, watched, link_to, blank, gap_of}
use Rattle.records.specs.declared.Record.{Record}
use Rattle.network.specs.Projection.Edge.{ordinary as e_ordinary, there as e_there, back as e_back, wait as e_wait}
use Rattle.rows.specs.Sheet.{by}
use Rattle.vee.specs.PlanTest.{Has, LinkIn, WaitIn, edges_of}
use Rattle.vee.proofs.Rules.{Valid}
use Rattle.vee.proofs.Plans.{Whole, w_point, w_link, w_ordinary, w_wait, whole, Linked, linked, the_link, link_of, gap_up}

-- the edges of the record r of rs at the durations w
pub data Gives (rs : List Record) (w : List ℕ) (r : Record) (X Y u d : ℕ) : Type 0 where
  ordinary_gives : r.kind ≡ 3 → X ≡ r.a → Y ≡ r.b → u ≡ (gap_of r.first).up → d ≡ (gap_of r.first).down → Gives rs w r X Y u d
  there_gives : r.kind ≡ 2 → X ≡ r.a → Y ≡ r.b → u ≡ by w r.b → d ≡ 0 → Gives rs w r X Y u d
  back_gives : r.kind ≡ 2 → X ≡ r.b → Y ≡ r.a → u ≡ 0 → d ≡ by w r.b → Gives rs w r X Y u d
  wait_gives : r.kind ≡ 4 → X ≡ r.a → Y ≡ (link_to rs r.b).a → u ≡ 0 → d ≡ min (gap_of r.first).up (by w r.b) → Gives rs w r X Y u d

-- the edges of all records
pub record Given (rs : List Record) (w : List ℕ) (X Y u d : ℕ) : Type 0 where
  pub place : ℕ
  pub listed : place < length rs
  pub gives : Gives rs w (get_or rs place blank) X Y u d

-- what is known of a wait
as_wait : {rs : List Record} {r : Record} → r.kind ≡ 4 → Whole rs r → (watched rs r.b ≡ true) × ((w : ℕ) × (r.first ≡ pos w)) × (r.a < how_many (is point) rs)
as_wait e (w_point k _) = absurd (omega arith)
as_wait e (w_link k _ _ _ _ _ _ _) = absurd (omega arith)
as_wait e (w_ordinary k _ _ _ _) = absurd (omega arith)
as_wait e (w_wait {w} k a b h f l) = (h, (w, f), a)

module _ (rs : List Record) (v : Valid [] rs) (w : List ℕ) where
  -- every edge of the plan is one of a record
  given : {k : Kind} {r : Record} {X Y u d : ℕ} → Has rs k r → Gives rs w r X Y u d → Given rs w X Y u d
  given h g = record { place = h.place; listed = h.listed; gives = rw h.here g }

  pub to_given : (X Y u d : ℕ) → edges_of rs w X Y u d → Given rs w X Y u d
  to_given X Y u d (e_ordinary o) = given o.has (ordinary_gives (eqb-true o.what.kind 3 o.has.kind) (sym o.from) (sym o.to) (sym o.up) (sym o.down))
  to_given X Y u d (e_there l) = given l.has (there_gives (eqb-true l.what.kind 2 l.has.kind) (sym l.from) (sym l.to) (ap (by w) (sym l.to)) refl)
  to_given X Y u d (e_back l) = given l.has (back_gives (eqb-true l.what.kind 2 l.has.kind) (sym l.to) (sym l.from) refl (ap (by w) (sym l.to)))
  to_given X Y u d (e_wait l t) =
      let h = l.has in
      let o : Linked rs l.what = linked (eqb-true l.what.kind 2 h.kind) (rw (← h.here) (whole rs v h.place h.listed)) in
      let b : t.what.b ≡ l.what.b = t.until ∙ sym l.to in
      let a : (link_to rs t.what.b).a ≡ Y = rw b (ap (λ (r : Record). r.a) o.alone ∙ l.from) in
      given t.has (wait_gives (eqb-true t.what.kind 4 t.has.kind) (sym t.holds) (sym a) refl (rw (gap_up t.long, t.until) refl))

  module _ (q : ℕ) (h : q < length rs) where
    has : (k : Kind) → is k (get_or rs q blank) ≡ true → Has rs k (get_or rs q blank)
    has k e = record { place = q; listed = h; here = refl; kind = e }

    link_in : (get_or rs q blank).kind ≡ 2 → (x : ℕ) × (y : ℕ) × LinkIn rs (get_or rs q blank).a x y (get_or rs q blank).b
    link_in k = let l = linked k (whole rs v q h) in (l.x, l.y, record { what = get_or rs q blank; has = has link (rw k refl); from = refl; to = refl; least = l.least; most = l.most })

    wait_in : (get_or rs q blank).kind ≡ 4 → {z : ℕ} → (get_or rs q blank).first ≡ pos z → WaitIn rs (get_or rs q blank).a (get_or rs q blank).b z
    wait_in k e = record { what = get_or rs q blank; has = has wait (rw k refl); holds = refl; until = refl; long = e }

    the_link_in : (C : ℕ) → watched rs C ≡ true → (x : ℕ) × (y : ℕ) × LinkIn rs (link_to rs C).a x y C
    the_link_in C i =
        let t = the_link rs C i in
        let g = link_of rs v C i in
        (g.x, g.y, record { what = link_to rs C; has = record { place = t.place; listed = t.listed; here = t.here; kind = rw t.kind refl }; from = refl; to = t.end; least = g.least; most = g.most })

    -- and every edge of a record one of the plan
    back_to : (X Y u d : ℕ) → Gives rs w (get_or rs q blank) X Y u d → edges_of rs w X Y u d
    back_to X Y u d (ordinary_gives k a b f g) = e_ordinary (record { what = get_or rs q blank; has = has ordinary (rw k refl); from = sym a; to = sym b; up = sym f; down = sym g })
    back_to X Y u d (there_gives k a b f g) = rw (a, b, f, g) (e_there (link_in k).2)
    back_to X Y u d (back_gives k a b f g) = rw (a, b, f, g) (e_back (link_in k).2)
    back_to X Y u d (wait_gives k a b f g) =
        let t = as_wait k (whole rs v q h) in
        let l = the_link_in (get_or rs q blank).b t.0 in
        rw (a, b, f, g, gap_up t.1.1) (e_wait l.2 (wait_in k t.1.1))

    -- an edge of a record is between points of the plan, and its weight is small
    small : ((C : ℕ) → by w C ≤ farthest) → (X Y u d : ℕ) → Gives rs w (get_or rs q blank) X Y u d
        → (X < how_many (is point) rs) × (Y < how_many (is point) rs) × (u ≤ farthest) × (d ≤ farthest)
    small lasts X Y u d g = go (whole rs v q h) g
      where
        go : Whole rs (get_or rs q blank) → Gives rs w (get_or rs q blank) X Y u d → (X < how_many (is point) rs) × (Y < how_many (is point) rs) × (u ≤ farthest) × (d ≤ farthest)
        go (w_ordinary _ x y f g) (ordinary_gives k a b i j) = omega arith
        go (w_point k' _) (ordinary_gives k a b i j) = absurd (omega arith)
        go (w_link k' _ _ _ _ _ _ _) (ordinary_gives k a b i j) = absurd (omega arith)
        go (w_wait k' _ _ _ _ _) (ordinary_gives k a b i j) = absurd (omega arith)
        go o (there_gives k a b i j) = let l = linked k o in omega (arith, l.from, l.to, lasts (get_or rs q blank).b)
        go o (back_gives k a b i j) = let l = linked k o in omega (arith, l.from, l.to, lasts (get_or rs q blank).b)
        go o (wait_gives k a b i j) =
            let t = as_wait k o in
            omega (arith, t.2, (link_of rs v (get_or rs q blank).b t.0).from, lasts (get_or rs q blank).b)

  pub from_given : (X Y u d : ℕ) → Given rs w X Y u d → edges_of rs w X Y u d
  from_given X Y u d g = back_to g.place g.listed X Y u d g.gives

  pub small_given : ((C : ℕ) → by w C ≤ farthest) → (X Y u d : ℕ) → Given rs w X Y u d → (X < how_many (is point) rs) × (Y < how_many (is point) rs) × (u ≤ farthest) × (d ≤ farthest)
  small_given lasts X Y u d g = small g.place g.listed lasts X Y u d g.gives
