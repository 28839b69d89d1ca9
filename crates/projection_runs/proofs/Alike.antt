-- What is gathered over lists of points is the same where what is asked of the points is. Assumes nothing.
use mathlib.Core.Path.{◌≡◌, refl, sym, ap, ◌∙◌}
use mathlib.Core.Logic.{◌⊎◌, inl, inr}
use mathlib.Core.Bool.{Bool, true, false, cond, ◌&&◌}
use mathlib.Core.List.{List, [], ◌∷◌}
use Prim.Native.Nat.{ℕ, zero, suc, ◌+◌, ◌≤◌, ◌<◌, min}
use native.Mathlib.Nat.{eq-or-lt_of_le}
use native.Mathlib.Omega.{arith}
use lib.Dec.{eqb, leb}
use Rattle.points.specs.Sets.{with_of, from, passing, first_or}
use Rattle.std.specs.Prelude.{if◌then◌else◌}
use Rattle.plan.specs.Limits.{most_points}
use Rattle.records.specs.declared.Record.{Record}
use Rattle.board.specs.Windows.{never}
use Rattle.board.specs.Events.{no_point, ends_running}
use Rattle.board.specs.declared.Board.{Board}
use Rattle.board.proofs.Theorems.Each.{clash}
use Rattle.promise.specs.Plays.{Event, least_of, set_of, first_end, ending_at, comes_first}
use Rattle.projection_runs.proofs.ABoard.{haul_finishes}
pub use Rattle.steps.proofs.Nearest.{least_never}

-- ---- the least

-- Where no point passes there is none.
pub least_none : (test : ℕ → Bool) (at : ℕ → ℕ) (n p : ℕ) → ((q : ℕ) → q < p + n → test q ≡ false)
    → least_of test at (from p n) ≡ never
unfolding least_of from
least_none test at zero p h = refl
least_none test at (suc n) p h = rw (h p (omega arith)) (least_none test at n (suc p) (λ q l. h q (omega arith)))

-- Only what the points that pass give counts.
pub least_alike : (test : ℕ → Bool) (at to : ℕ → ℕ) (qs : List ℕ) → ((q : ℕ) → test q ≡ true → at q ≡ to q)
    → least_of test at qs ≡ least_of test to qs
unfolding least_of
least_alike test at to [] h = refl
least_alike test at to (q ∷ qs) h = go (test q) refl (least_alike test at to qs h)
  where
    go : (c : Bool) → test q ≡ c → least_of test at qs ≡ least_of test to qs
        → (if c then min (at q) (least_of test at qs) else least_of test at qs)
        ≡ (if c then min (to q) (least_of test to qs) else least_of test to qs)
    go true e r = rw (h q e, r)
    go false e r = r

-- ---- sets and lists

pub set_alike : (test same : ℕ → Bool) (qs : List ℕ) → ((q : ℕ) → test q ≡ same q) → set_of test qs ≡ set_of same qs
unfolding set_of
set_alike test same [] h = refl
set_alike test same (q ∷ qs) h = rw (h q, set_alike test same qs h)

pub passing_alike : (test same : ℕ → Bool) (qs : List ℕ) → ((q : ℕ) → test q ≡ same q) → passing test qs ≡ passing same qs
unfolding passing
passing_alike test same [] h = refl
passing_alike test same (q ∷ qs) h = rw (h q, passing_alike test same qs h)

-- Where one point passes, the first that does is one that does, and not above it.
pub first_passing : (test : ℕ → Bool) (other n p q : ℕ) → p ≤ q → q < p + n → test q ≡ true
    → (test (first_or other (passing test (from p n))) ≡ true) × (first_or other (passing test (from p n)) ≤ q)
unfolding first_or passing from
first_passing test other zero p q a l t = absurd (omega arith)
first_passing test other (suc n) p q a l t = go (eq-or-lt_of_le a) (test p) refl (λ h. first_passing test other n (suc p) q h (omega arith) t)
  where
    rest : List ℕ
    rest = passing test (from (suc p) n)

    go : (p ≡ q) ⊎ (p < q) → (c : Bool) → test p ≡ c → (p < q → (test (first_or other rest) ≡ true) × (first_or other rest ≤ q))
        → (test (first_or other (cond c (p ∷ rest) rest)) ≡ true) × (first_or other (cond c (p ∷ rest) rest) ≤ q)
    go k true e f = (e, a)
    go (inl k) false e f = clash (sym t ∙ rw (← k) e)
    go (inr h) false e f = f h

-- Where none passes there is no first.
pub first_none : (test : ℕ → Bool) (other n p : ℕ) → ((q : ℕ) → q < p + n → test q ≡ false)
    → first_or other (passing test (from p n)) ≡ other
unfolding first_or passing from
first_none test other zero p h = refl
first_none test other (suc n) p h = rw (h p (omega arith)) (first_none test other n (suc p) (λ q l. h q (omega arith)))

-- ---- what comes first

-- What comes first is settled by the ends of the running links.
pub comes_alike : (rs : List Record) (b : Board) (at to : ℕ → ℕ) (t q : ℕ) → ((C : ℕ) → ends_running rs b C ≡ true → at C ≡ to C)
    → comes_first rs b at t q ≡ comes_first rs b to t q
comes_alike rs b at to t q h =
    let f : first_end rs b at ≡ first_end rs b to = least_alike (ends_running rs b) at to (from 0 most_points) h in
    rw (f, ends t, ends (first_end rs b to))
  where
    one : (u C : ℕ) (c : Bool) → ends_running rs b C ≡ c → (c && eqb (at C) u) ≡ (c && eqb (to C) u)
    one u C true e = rw (h C e)
    one u C false e = refl

    ends : (u : ℕ) → ending_at rs b at u ≡ ending_at rs b to u
    ends u =
        set_alike (λ (C : ℕ). ends_running rs b C && eqb (at C) u) (λ (C : ℕ). ends_running rs b C && eqb (to C) u) (from 0 most_points)
        (λ C. one u C (ends_running rs b C) refl)
