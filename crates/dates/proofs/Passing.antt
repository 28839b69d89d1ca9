-- A walk over years, or over the months of a year: what holds between two steps. Assumes nothing.
use mathlib.Core.Path.{◌≡◌}
use Prim.Native.Nat.{ℕ, ◌+◌, ◌-◌, ◌<◌, ◌≤◌}
use native.Mathlib.Omega.{arith}
use Rattle.dates.specs.Counting.{before, Falls}
use Rattle.dates.proofs.Sums.{next_part}

-- Day n is `left` days after the beginning of the part, which has so many days in all.
pub record Passing (f : ℕ → ℕ) (n part left whole : ℕ) : Type 0 where
  pub counted : before f part + left ≡ n
  pub days : whole ≡ f part

pub turn : {f : ℕ → ℕ} {n part left whole next : ℕ} → Passing f n part left whole → whole ≤ left → next ≡ f (part + 1)
    → Passing f n (part + 1) (left - whole) next
turn {f} {n} {part} p l e = record { counted = omega (arith, next_part f part, p.counted, p.days); days = e }

pub stop : {f : ℕ → ℕ} {n part left whole : ℕ} → Passing f n part left whole → left < whole → Falls f n part left
stop p l = record { counted = p.counted; inside = omega (arith, p.days) }
