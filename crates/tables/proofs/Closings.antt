-- The loop that closes a table. Assumes nothing.
use mathlib.Core.Path.{◌≡◌, subst}
use mathlib.Core.List.{List}
use mathlib.Core.Bool.{Bool, true, false}
use Rattle.std.specs.Bool.{MatchBool}
use Prim.Native.Nat.{ℕ, ◌+◌, ◌<◌, ◌≤◌}
use native.Mathlib.Omega.{arith}
use Rattle.tables.specs.Tables.{Closing}
use Rattle.tables.specs.Tables.Closing.{first, next}
use Rattle.tables.specs.Tables.Closed.{calm, below}
use Rattle.tables.specs.Entries.{middle, raw, at, Sound, Near, PassReady, PassDone, CloseReady, CloseDone}
use Rattle.tables.proofs.Widths.{wide_in, wide_there, wide_mono}
use Rattle.tables.proofs.Strays.{never_far}

-- t is t₀ after the passes below k
pub record Shutting (n : ℕ) (t₀ : List ℕ) (k : ℕ) (t : List ℕ) : Type 0 where
  pub began : CloseReady n t₀
  pub sound : Sound t
  pub many : k ≤ n
  pub so_far : Closing n (at t₀) k (at t)

pub start : {n : ℕ} {t : List ℕ} → CloseReady n t → Shutting n t 0 t
start h = record { began = h; sound = h.sound; many = omega arith; so_far = first }

module _ {n k : ℕ} {t₀ t : List ℕ} (s : Shutting n t₀ k t) where
  -- no entry has left the range
  tame : (x y : ℕ) → x < n → y < n → Near (raw t x y)
  tame x y hx hy h =
      let b = s.began in
      let w = wide_in (raw t x y) h in
      let l = never_far n b.few (at t₀) b.self b.within s.so_far x y hx hy (wide_there (raw t x y) h) in
      (omega (arith, l.0), omega (arith, l.1))

  pub ready : k < n → PassReady n k t
  ready h = record { sound = s.sound; few = s.began.few; pivot = h; tame = record { row = λ y l. tame k y h l; column = λ x l. tame x k l h } }

  pub turn : {t' : List ℕ} → k < n → middle ≤ raw t k k → PassDone n k t t' → Shutting n t₀ (k + 1) t'
  turn h c p = record { began = s.began; sound = p.sound; many = omega arith; so_far = next s.so_far h (wide_mono middle (raw t k k) c) p.passed }

  -- a point below zero from itself to itself
  pub negative : (x : ℕ) → x < n → raw t x x < middle → CloseDone n t₀ t false
  negative x h l = record { sound = s.sound; closed = below s.so_far h (omega (arith, wide_in (raw t x x) (omega arith))) }

  pub ended : n ≤ k → (r : Bool) → MatchBool r ((x : ℕ) → x < n → middle ≤ raw t x x) ((x : ℕ) × (x < n) × (raw t x x < middle)) → CloseDone n t₀ t r
  ended h true c =
      let e : k ≡ n = omega (arith, s.many) in
      record { sound = s.sound; closed = calm (subst (λ (m : ℕ). Closing n (at t₀) m (at t)) e s.so_far) (λ x i. wide_mono middle (raw t x x) (c x i)) }
  ended h false c = negative c.0 c.1 c.2
