-- What is kept, and what it stands for. Assumes nothing.
use mathlib.Core.Path.{◌≡◌, refl}
use mathlib.Core.Logic.{◌⊎◌, inl, inr, ⊎_elim}
use mathlib.Core.List.{List}
use Prim.Native.Nat.{ℕ, ◌+◌, ◌*◌, ◌<◌, ◌≤◌}
use native.Mathlib.Omega.{arith}
use native.Mathlib.Decide.{dec_lt}
use borrow.Author.Tests.{lt-ltb, le-ltb}
use Rattle.tables.specs.Tables.{none, side, Best}
use Rattle.tables.specs.Entries.{middle, nowhere, wide, raw, at, Sound, Shallow}

pub wide_in : (v : ℕ) → v < nowhere → wide v ≡ v + 1125899369971712
wide_in v h = rw (lt-ltb v nowhere h) refl

pub wide_out : (v : ℕ) → nowhere ≤ v → wide v ≡ none
wide_out v h = rw (le-ltb v nowhere h) refl

pub finite : (v : ℕ) → wide v < none → v < nowhere
finite v h = elim (dec_lt v nowhere) [
  | yes l ↦ l
  | no l ↦ absurd (omega (arith, wide_out v (omega arith)))
]

pub wide_there : (v : ℕ) → v < nowhere → wide v < none
wide_there v h = omega (arith, wide_in v h)

pub wide_mono : (r a : ℕ) → r ≤ a → wide r ≤ wide a
wide_mono r a h = elim (dec_lt a nowhere) [
  | yes l ↦ omega (arith, wide_in a l, wide_in r (omega arith))
  | no l ↦ elim (dec_lt r nowhere) [
    | yes m ↦ omega (arith, wide_out a (omega arith), wide_in r m)
    | no m ↦ omega (arith, wide_out a (omega arith), wide_out r (omega arith))
  ]
]

pub wide_less : (r a : ℕ) → r < nowhere → r < a → wide r < wide a
wide_less r a l h = elim (dec_lt a nowhere) [
  | yes m ↦ omega (arith, wide_in a m, wide_in r l)
  | no m ↦ omega (arith, wide_out a (omega arith), wide_in r l)
]

pub wide_best : (a b c r : ℕ) → r ≤ a → a ≤ nowhere → (b < nowhere → c < nowhere → (r + middle ≤ b + c) × (r < nowhere)) → (r ≡ a) ⊎ ((b < nowhere) × (c < nowhere) × (r + middle ≡ b + c) × (r < nowhere)) → Best (wide a) (wide b) (wide c) (wide r)
wide_best a b c r h m via from = record {
  low = wide_mono r a h;
  via = λ p q. let k = via (finite b p) (finite c q) in omega (arith, wide_in b (finite b p), wide_in c (finite c q), wide_in r k.1, k.0);
  from = ⊎_elim (λ e. inl (rw e refl)) (λ e. inr (wide_there b e.0, wide_there c e.1, omega (arith, wide_in b e.0, wide_in c e.1, wide_in r e.3, e.2))) from;
}

-- a table that is sound is not far below zero
pub shallow : {n : ℕ} (t : List ℕ) → n ≤ side → Sound t → Shallow n (at t)
shallow t few s x y hx hy h = let l = finite (raw t x y) h in omega (arith, wide_in (raw t x y) l, s.least (x * side + y) (omega arith))
