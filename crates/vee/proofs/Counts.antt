-- The count of the projections, from the last link to the first. Assumes nothing.
use mathlib.Core.Path.{◌≡◌, refl}
use mathlib.Core.List.{List}
use Prim.Native.Nat.{ℕ, zero, suc, ◌+◌, ◌-◌, ◌*◌, ◌<◌, ◌≤◌}
use native.Mathlib.Omega.{arith}
use native.Mathlib.Nat.{suc-mul, mul-le-mul}
use native.Mathlib.Numerals.{add-one}
use Rattle.plan.specs.Limits.{farthest}
use mir.Syntax.{w64}
use mir.Val.{Fits}
use Rattle.rows.specs.declared.sheet.Row.{Row}
use Rattle.rows.specs.Sheet.{first_at, second_at, row_at}
use Rattle.vee.specs.PlanTest.{many, most_projections}
use Rattle.vee.specs.Walked.{spans_in, RowsReady, CountedAs}

-- the last k links have total projections
pub record Counting (s : List ℕ) (past links k total : ℕ) : Type 0 where
  pub ready : RowsReady s past links
  pub within : k ≤ links
  pub few : total ≤ most_projections
  pub so_far : total ≡ many (spans_in s past k)

pub none_counted : {s : List ℕ} {past links : ℕ} → RowsReady s past links → Counting s past links 0 1
unfolding spans_in many
none_counted r = record { ready = r; within = omega arith; few = omega arith; so_far = refl }

-- a link more
one_more : (s : List ℕ) (past k : ℕ) → many (spans_in s past (k + 1)) ≡ (second_at s (past - (k + 1)) + 1 - first_at s (past - (k + 1))) * many (spans_in s past k)
unfolding spans_in many
one_more s past k =
    let e : suc (second_at s (past - suc k)) ≡ second_at s (past - suc k) + 1 = omega arith in
    rw (add-one k, ← e) refl

grows : (a m : ℕ) → 0 < a → m ≤ a * m
grows zero m h = absurd (omega arith)
grows (suc a) m h = rw suc-mul (omega arith)

module _ {s : List ℕ} {past links : ℕ} (r : RowsReady s past links) where
  more : (k : ℕ) → k < links → many (spans_in s past k) ≤ many (spans_in s past (k + 1))
  more k h =
      let q = r.some (past - (k + 1)) (omega (arith, r.before)) (omega (arith, r.before)) in
      rw (one_more s past k) (grows (second_at s (past - (k + 1)) + 1 - first_at s (past - (k + 1))) (many (spans_in s past k)) (omega arith))

  -- the links from the last k on have no more projections than all
  all_more : (j k : ℕ) → k + j ≡ links → many (spans_in s past k) ≤ many (spans_in s past links)
  all_more zero k e = let z : k ≡ links = omega arith in rw z (omega arith)
  all_more (suc j) k e = omega (arith, more k (omega arith), all_more j (k + 1) (omega arith))

module _ {s : List ℕ} {past links k total : ℕ} (c : Counting s past links k total) where
  -- the next link, by its row as the code reads it
  module _ {r : Row} (e : r ≡ row_at s (past - (k + 1))) where
    pub last_in : k < links → (r.first ≤ r.second) × (r.second ≤ farthest)
    last_in h =
        let d = c.ready in
        rw e (d.some (past - (k + 1)) (omega (arith, d.before)) (omega (arith, d.before)), d.short (past - (k + 1)) (omega (arith, d.before)) (omega (arith, d.before)))

    abbrev product : ℕ
    product = (r.second + 1 - r.first) * total

    pub product_fits : k < links → Fits w64 product
    product_fits h =
        let l = last_in h in
        let a : r.second + 1 - r.first ≤ farthest + 1 = omega arith in
        let b : product ≤ (farthest + 1) * most_projections = mul-le-mul a c.few in
        record { fits = omega arith }

    same : product ≡ many (spans_in s past (k + 1))
    same = rw (e, one_more s past k, c.so_far) refl

    pub over_many : k < links → most_projections < product → CountedAs s past links product
    over_many h l = record { few = λ g. absurd (omega arith); many_more = λ _. omega (arith, same, all_more c.ready (links - (k + 1)) (k + 1) (omega arith)) }

    pub counted_on : k < links → product ≤ most_projections → Counting s past links (k + 1) product
    counted_on h l = record { ready = c.ready; within = omega arith; few = l; so_far = same }

  pub counted_all : links ≤ k → CountedAs s past links total
  counted_all h =
      let e : k ≡ links = omega (arith, c.within) in
      record { few = λ _. rw (← e) c.so_far; many_more = λ l. absurd (omega (arith, c.few)) }
