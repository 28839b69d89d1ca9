-- A row lowered by another, and the sum of a table, which falls with it. Assumes nothing.
use mathlib.Core.Path.{◌≡◌, refl, ap, ◌∙◌}
use mathlib.Core.Logic.{◌⊎◌, ◌≢◌, inl, inr, ⊎_elim}
use mathlib.Core.List.{List, [], ◌∷◌}
use Prim.Native.Nat.{ℕ, suc, ◌+◌, ◌*◌, ◌<◌, ◌≤◌}
use native.Mathlib.Omega.{arith}
use native.Mathlib.Decide.{dec_lt, ℕ_discrete}
use native.Mathlib.Numerals.{add-one}
use lib.ListN.{length, get_or, set, drop, length-set, drop_of_length-le}
use lib.Seq.{get_or-set_same, get_or-set_other, drop-cons}
use Rattle.tables.specs.Tables.{side, room}
use Rattle.tables.specs.Entries.{nowhere, small, wide, raw, Lesser}
use Rattle.tables.proofs.Widths.{wide_in, wide_out, wide_there, wide_mono}
use Rattle.rounds.specs.Ways.{Shorter, sum, Capped, Down, Dropped, DroppedRow, RowReady, RowLowered, LowerReady}

-- ---- the sum

pub record Summing (t : List ℕ) (q all : ℕ) : Type 0 where
  pub within : q ≤ room
  pub left : all + sum (drop q t) ≡ sum t
  pub most : all ≤ q * nowhere

pub sum_turn : (t : List ℕ) (q all : ℕ) → Capped t → q < room → Summing t q all → Summing t (q + 1) (all + get_or t q 0)
unfolding sum
sum_turn t q all c h g =
    let e : sum (drop q t) ≡ get_or t q 0 + sum (drop (suc q) t) = ap sum (drop-cons t q 0 (omega (arith, c.long))) in
    record { within = omega arith; left = rw (add-one q) (omega (arith, g.left, e)); most = omega (arith, g.most, c.most q h) }

pub sum_ended : (t : List ℕ) (q all : ℕ) → Capped t → room ≤ q → Summing t q all → all ≡ sum t
unfolding sum
sum_ended t q all c h g =
    let l : length t ≤ q = omega (arith, c.long) in
    let d : drop q t ≡ [] = drop_of_length-le t l in
    let e : sum (drop q t) ≡ 0 = ap sum d in
    omega (arith, g.left, e)

sums : (t t' : List ℕ) → length t' ≡ length t → ((q : ℕ) → q < length t → get_or t' q 0 ≤ get_or t q 0) → sum t' ≤ sum t
unfolding sum
sums [] [] e h = omega arith
sums [] (b ∷ t') e h = absurd (omega arith)
sums (a ∷ t) [] e h = absurd (omega arith)
sums (a ∷ t) (b ∷ t') e h = let k : b ≤ a = h 0 (omega arith) in omega (arith, k, sums t t' (omega arith) (λ q l. h (suc q) (omega arith)))

same_list : (t t' : List ℕ) → length t' ≡ length t → ((q : ℕ) → q < length t → get_or t' q 0 ≤ get_or t q 0) → sum t ≤ sum t' → t' ≡ t
unfolding sum
same_list [] [] e h s = refl
same_list [] (b ∷ t') e h s = absurd (omega arith)
same_list (a ∷ t) [] e h s = absurd (omega arith)
same_list (a ∷ t) (b ∷ t') e h s =
    let k : b ≤ a = h 0 (omega arith) in
    let l = sums t t' (omega arith) (λ q m. h (suc q) (omega arith)) in
    let x : b ≡ a = omega arith in
    rw x (ap (λ (r : List ℕ). a ∷ r) (same_list t t' (omega arith) (λ q m. h (suc q) (omega arith)) (omega arith)))

-- nothing fell where the sum did not
pub unchanged : (t t' : List ℕ) → Capped t → Capped t' → Down t t' → sum t ≤ sum t' → t' ≡ t
unchanged t t' c c' d s = same_list t t' (omega (arith, c.long, c'.long)) (λ q h. d q (omega (arith, c.long))) s

-- ---- one row

-- row x before its entry j: t₀ is the table before the row
pub record Lowering (x : ℕ) (l t₀ : List ℕ) (j : ℕ) (t : List ℕ) : Type 0 where
  pub capped : Capped t
  pub within : j ≤ side
  pub done : (y : ℕ) → y < j → Lesser (get_or l y 0) (raw t₀ x y) (raw t x y)
  pub rest : (v y : ℕ) → y < side → (v ≢ x) ⊎ (j ≤ y) → raw t v y ≡ raw t₀ v y
  pub down : Down t₀ t

pub start : (x : ℕ) (l t : List ℕ) → Capped t → Lowering x l t 0 t
start x l t c = record { capped = c; within = omega arith; done = λ y h. absurd (omega arith); rest = λ v y h e. refl; down = λ q h. omega arith }

module _ (x : ℕ) (l t₀ : List ℕ) (j : ℕ) (t : List ℕ) (ready : RowReady x l t₀) (g : Lowering x l t₀ j t) (h : j < side) where
  inside : x * side + j < room
  inside = omega (arith, ready.row)

  pub turn : (r : ℕ) → Lesser (get_or l j 0) (raw t x j) r → Lowering x l t₀ (j + 1) (set t (x * side + j) r)
  turn r s = record { capped = record { long = length-set t (x * side + j) r ∙ g.capped.long; most = most }; within = omega arith; done = done; rest = rest; down = down }
    where
      long : x * side + j < length t
      long = omega (arith, g.capped.long, inside)

      here : Lesser (get_or l j 0) (raw t₀ x j) r
      here = rw (← g.rest x j h (inr (omega arith))) s

      most : (q : ℕ) → q < room → get_or (set t (x * side + j) r) q 0 ≤ nowhere
      most q a = elim (ℕ_discrete q (x * side + j)) [
        | yes e ↦ rw (e, get_or-set_same t (x * side + j) r 0 long) (omega (arith, s.second, g.capped.most (x * side + j) inside))
        | no e ↦ rw (get_or-set_other t (x * side + j) q r 0 e) (g.capped.most q a)
      ]

      down : Down t₀ (set t (x * side + j) r)
      down q a = elim (ℕ_discrete q (x * side + j)) [
        | yes e ↦ rw (e, get_or-set_same t (x * side + j) r 0 long) (omega (arith, s.second, g.down (x * side + j) inside))
        | no e ↦ rw (get_or-set_other t (x * side + j) q r 0 e) (g.down q a)
      ]

      done : (y : ℕ) → y < j + 1 → Lesser (get_or l y 0) (raw t₀ x y) (raw (set t (x * side + j) r) x y)
      done y a = elim (ℕ_discrete y j) [
        | yes e ↦ rw (e, get_or-set_same t (x * side + j) r 0 long) here
        | no e ↦ rw (get_or-set_other t (x * side + j) (x * side + y) r 0 (omega arith)) (g.done y (omega arith))
      ]

      apart : (v y : ℕ) → y < side → (v ≢ x) ⊎ (j + 1 ≤ y) → v * side + y ≢ x * side + j
      apart v y a (inl h') = omega arith
      apart v y a (inr h') = omega arith

      less : (v y : ℕ) → (v ≢ x) ⊎ (j + 1 ≤ y) → (v ≢ x) ⊎ (j ≤ y)
      less v y (inl h') = inl h'
      less v y (inr h') = inr (omega arith)

      rest : (v y : ℕ) → y < side → (v ≢ x) ⊎ (j + 1 ≤ y) → raw (set t (x * side + j) r) v y ≡ raw t₀ v y
      rest v y a e = get_or-set_other t (x * side + j) (v * side + y) r 0 (apart v y a e) ∙ g.rest v y a (less v y e)

-- the lesser, as what it stands for
pub shorter : (a c d l r : ℕ) → a ≤ nowhere → Dropped c d l → Lesser l a r → Shorter (wide a) (wide c) d (wide r)
shorter a c d l r m e s = elim (dec_lt c nowhere) [
  | yes h ↦
      let k = e.same h in
      let u = wide_in c h in
      let v = wide_in r (omega (arith, s.first)) in
      record { low = wide_mono r a s.second; via = λ _. omega (arith, u, v, s.first); from = ⊎_elim (λ i. inr (wide_there c h, omega (arith, u, v))) (λ i. inl (ap wide i)) s.from }
  | no h ↦
      let k = e.gone (omega arith) in
      let i : r ≡ a = ⊎_elim (λ i. omega (arith, s.second)) (λ i. i) s.from in
      record { low = wide_mono r a s.second; via = λ f. absurd (omega (arith, wide_out c (omega arith))); from = inl (ap wide i) }
]

pub ended : (x j : ℕ) (l t₀ t : List ℕ) → side ≤ j → Lowering x l t₀ j t → RowLowered x l t₀ t
ended x j l t₀ t h g = record { capped = g.capped; done = λ y a. g.done y (omega arith); rest = λ v y e a. g.rest v y a (inl e); down = g.down }

-- ---- one row by another, less a number

-- its numbers are small
pub may_lower_row : (n x z d : ℕ) (l t : List ℕ) → LowerReady n x z d t → DroppedRow n z d t l → (j : ℕ) → j < side → get_or l j 0 < small
may_lower_row n x z d l t ready row j h = elim (dec_lt j n) [
  | yes hj ↦
      let e = row.each j hj in
      let m = ready.capped.most (z * side + j) (omega (arith, ready.other, ready.few)) in
      elim (dec_lt (raw t z j) nowhere) [
        | yes k ↦ omega (arith, e.same k)
        | no k ↦ omega (arith, e.gone (omega arith))
      ]
  | no hj ↦ omega (arith, row.past j (omega arith) h)
]
