-- The walk over the open points, and which points are open, from the tables. Assumes nothing.
use mathlib.Core.Path.{◌≡◌, refl}
use mathlib.Core.Bool.{Bool, true, false, not, ◌&&◌}
use mathlib.Core.List.{List, [], ◌∷◌}
use Prim.Native.Nat.{ℕ, ◌≤◌, ◌<◌, min}
use native.Mathlib.Omega.{arith}
use lib.Dec.{eqb, ltb}
use borrow.Author.Tests.{ltb-true}
use Rattle.std.specs.Prelude.{if◌then◌else◌}
use lib.ListN.{get_or}
use Rattle.points.specs.Sets.{member, below_of}
use Rattle.points.proofs.Laws.{member_below}
use Rattle.plan.specs.Limits.{most_points}
use Rattle.plan.specs.APlan.{some, points, watched}
use Rattle.records.specs.declared.Record.{Record}
use Rattle.lowhigh.specs.Rules.{shuts, never, is_open, holder, beside}
use Rattle.lowhigh.proofs.Firsts.{nothing_so}
use Rattle.links.specs.Inside.{LinksOf}
use Rattle.links.specs.declared.Links.{Links}
use Rattle.windows.specs.Inside.{Minus, least_at, WindowsOf, beside_from}
use Rattle.windows.specs.declared.Windows.{Windows}

-- ---- the walk over the open points

pub least_at_le : (highs : List ℕ) (ps : List ℕ) → least_at highs ps ≤ never
unfolding least_at
least_at_le highs [] = omega arith
least_at_le highs (p ∷ ps) = omega (arith, least_at_le highs ps)

module _ (highs : List ℕ) (n : ℕ) {left : List ℕ} where
  -- with the next of the points that are left
  pub least_more : {p : ℕ} {rest : List ℕ} → left ≡ p ∷ rest → min n (least_at highs left) ≡ min (min n (get_or highs p 0)) (least_at highs rest)
  unfolding least_at
  least_more e = rw e (omega arith)

  -- none is left
  pub least_none : n ≤ never → left ≡ [] → n ≡ min n (least_at highs left)
  unfolding least_at
  least_none h e = rw e (omega arith)

-- ---- the open points from the tables

module _ (rs : List Record) (done : ℕ) (few : points rs ≤ most_points) (watches : ℕ) (links : (q : ℕ) → q < most_points → member watches q ≡ watched rs q)
    (shut : ℕ) (shut_by_lem : (q : ℕ) → q < most_points → member shut q ≡ some (shuts rs done q) rs)
    (x y opens : ℕ) (one : Minus (below_of (points rs)) watches x) (two : Minus x done y) (three : Minus y shut opens) where
  pub opens_here : (q : ℕ) → q < most_points → member opens q ≡ is_open rs done q
  opens_here q h =
      let m : min (points rs) 32 ≡ points rs = omega arith in
      rw (three.members q, two.members q, one.members q, member_below (points rs) q, m, links q h, shut_by_lem q h, nothing_so 0 (shuts rs done q) rs)
      (regroup (ltb q (points rs)) (not (watched rs q)) (not (member done q)) (not (some (shuts rs done q) rs)))
    where
      regroup : (a b c d : Bool) → (((a && b) && c) && d) ≡ ((a && (b && c)) && d)
      regroup true b c d = refl
      regroup false b c d = refl

-- ---- the record beside an event's number

module _ (rs : List Record) (clock done : ℕ) (minutes : List ℕ) (few : points rs ≤ most_points) (l : Links) (links : LinksOf rs l) (w : Windows) (ws : WindowsOf rs clock done minutes w) where
  pub beside_here : (q n : ℕ) → beside_from l done w q n ≡ beside rs done q n
  beside_here q n = rw links.points (go (eqb n 28) (ltb q (points rs)) refl)
    where
      go : (t u : Bool) → ltb q (points rs) ≡ u
          → (if t && (u && (not (member l.watched q) && not (member done q))) then get_or w.holders q 0 else 0)
          ≡ (if t && (u && (not (watched rs q) && not (member done q))) then holder rs done q else 0)
      go false u e = refl
      go true false e = refl
      go true true e =
          let h : q < most_points = omega (arith, ltb-true q (points rs) e) in
          rw (links.watches q h, ws.holders q h)
