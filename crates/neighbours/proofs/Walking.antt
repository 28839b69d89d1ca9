-- What a walk along a list has ahead, and what its steps do: what is ahead gives the whole answer. Assumes nothing.
use mathlib.Core.Path.{◌≡◌, refl, ◌∙◌, ap}
use mathlib.Core.Bool.{Bool, true, false}
use mathlib.Core.List.{List, [], ◌∷◌}
use Prim.Native.Nat.{ℕ, zero, suc, ◌+◌, ◌-◌, ◌<◌, ◌≤◌, max}
use native.Mathlib.Omega.{arith}
use borrow.Author.Tests.{lt-ltb, le-ltb, ltb-true}
use lib.Dec.{ltb}
use lib.ListN.{get_or, length}
use Rattle.plan.specs.Limits.{most_records}
use Rattle.neighbours.specs.Lists.{buckets, chain, still_ahead, over, top_at, first_at}
use Rattle.neighbours.specs.declared.Walk.{Walk}

-- a walk that has not ended has its place in front
pub chain_step : (left : ℕ) (list : List ℕ) (i : ℕ) → i < most_records → 0 < left → chain left list i ≡ i ∷ chain (left - 1) list (get_or list (buckets + i) 0)
unfolding chain
chain_step zero list i h l = absurd (omega arith)
chain_step (suc f) list i h l = let e : suc f - 1 ≡ f = omega arith in rw (lt-ltb i most_records h, e)

-- one that may give no more has none, and neither has one behind the last record
pub chain_none : (left : ℕ) (list : List ℕ) (i : ℕ) → left ≡ 0 → chain left list i ≡ []
unfolding chain
chain_none left list i e = rw e

pub chain_end : (left : ℕ) (list : List ℕ) (i : ℕ) → most_records ≤ i → chain left list i ≡ []
unfolding chain
chain_end zero list i h = refl
chain_end (suc f) list i h = rw (le-ltb i most_records h)

-- every record that is ahead is one of the plan's
chain_small : (left : ℕ) (list : List ℕ) (at i : ℕ) (is : List ℕ) → chain left list at ≡ i ∷ is → i < most_records
unfolding chain
chain_small zero list at i is e = absurd (omega (arith, ap length e))
chain_small (suc f) list at i is e = go (ltb at most_records) refl
  where
    go : (b : Bool) → ltb at most_records ≡ b → i < most_records
    go true u =
        let first : at ∷ chain f list (get_or list (buckets + at) 0) ≡ i ∷ is = rw u at e in
        let same : at ≡ i = ap (λ l. get_or l 0 0) first in
        omega (arith, same, ltb-true at most_records u)
    go false u =
        let none : [] ≡ i ∷ is = rw u at e in
        absurd (omega (arith, ap length none))

pub ahead_small : (w : Walk) {i : ℕ} {is : List ℕ} → still_ahead w ≡ i ∷ is → i < most_records
ahead_small w e = chain_small w.left w.list.now w.at _ _ e

-- ---- a change for each record

pub over_turn : (by : List ℕ → ℕ → List ℕ) {kept kept' whole ahead is : List ℕ} {i : ℕ} → over by kept ahead ≡ whole → ahead ≡ i ∷ is → kept' ≡ by kept i → over by kept' is ≡ whole
unfolding over
over_turn by a e f = rw f (rw e at a)

pub over_end : (by : List ℕ → ℕ → List ℕ) {kept whole ahead : List ℕ} → over by kept ahead ≡ whole → ahead ≡ [] → kept ≡ whole
unfolding over
over_end by a e = rw e at a

-- ---- the largest of what the records give

pub top_turn : (val : ℕ → ℕ) (top : ℕ) {top' whole i : ℕ} {ahead is : List ℕ} → max top (top_at val ahead) ≡ whole → ahead ≡ i ∷ is → top' ≡ max top (val i) → max top' (top_at val is) ≡ whole
unfolding top_at
top_turn val top {top'} {whole} {i} {ahead} {is} a e f =
    let r : max top (max (val i) (top_at val is)) ≡ whole = rw e at a in
    let three : max (max top (val i)) (top_at val is) ≡ max top (max (val i) (top_at val is)) = omega arith in
    rw f (three ∙ r)

pub top_end : (val : ℕ → ℕ) (top : ℕ) {whole : ℕ} {ahead : List ℕ} → max top (top_at val ahead) ≡ whole → ahead ≡ [] → top ≡ whole
unfolding top_at
top_end val top {whole} a e = let r : max top 0 ≡ whole = rw e at a in omega (arith, r)

-- ---- the first record that is so

pub seek_turn : (so : ℕ → Bool) {whole i : ℕ} {ahead is : List ℕ} → first_at so ahead ≡ whole → ahead ≡ i ∷ is → so i ≡ false → first_at so is ≡ whole
unfolding first_at
seek_turn so a e f = rw (e, f) at a

pub seek_found : (so : ℕ → Bool) {whole i : ℕ} {ahead is : List ℕ} → first_at so ahead ≡ whole → ahead ≡ i ∷ is → so i ≡ true → i ≡ whole
unfolding first_at
seek_found so a e f = rw (e, f) at a

pub seek_end : (so : ℕ → Bool) {whole : ℕ} {ahead : List ℕ} → first_at so ahead ≡ whole → ahead ≡ [] → 0 ≡ whole
unfolding first_at
seek_end so a e = rw e at a
