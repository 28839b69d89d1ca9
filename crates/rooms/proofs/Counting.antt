-- The counts of the fresh board. Assumes nothing.
use mathlib.Core.Path.{◌≡◌, refl, ◌∙◌, sym}
use mathlib.Core.List.{List}
use Prim.Native.Nat.{ℕ, suc, ◌+◌, ◌-◌, ◌<◌, ◌≤◌, min}
use native.Mathlib.Omega.{arith}
use native.Mathlib.Decide.{ℕ_discrete, dec_lt}
use borrow.Author.Tests.{eq-eqb, ne_eqb}
use lib.ListN.{length, get_or, set, replicate, length-set, length-replicate, get_or-replicate, get_or-eq_default}
use lib.Seq.{get_or-set_same, get_or-set_other}
use Rattle.plan.specs.Limits.{most_points}
use Rattle.plan.specs.APlan.{one}
use Rattle.rows.specs.Sheet.{row_at}
use Rattle.lowhigh.specs.Rules.{never}
use Rattle.kept.specs.Rooms.{highs_at, minutes_at, kept_room, held_by, holding}
use Rattle.kept.specs.Begins.{hold_at, sum_to, Begun}

-- ---- the highs

pub record Clearing (q : ℕ) (kept : List ℕ) : Type 0 where
  pub near : q ≤ most_points
  pub long : length kept ≡ kept_room
  pub highs : (p : ℕ) → highs_at ≤ p → p < highs_at + q → get_or kept p 0 ≡ never
  pub low : (p : ℕ) → p < highs_at → get_or kept p 0 ≡ 0
  pub rest : (p : ℕ) → highs_at + q ≤ p → p < kept_room → get_or kept p 0 ≡ 0

pub clearing_start : (kept : List ℕ) → kept ≡ replicate kept_room 0 → Clearing 0 kept
clearing_start kept e =
    record {
      near = omega arith;
      long = rw e (length-replicate {A = ℕ} kept_room 0);
      highs = λ p a b. absurd (omega arith);
      low = λ p h. rw e (get_or-replicate {A = ℕ} kept_room p 0 0 (omega arith));
      rest = λ p a b. rw e (get_or-replicate {A = ℕ} kept_room p 0 0 b);
    }

pub clearing_turn : (q : ℕ) (kept : List ℕ) → q < most_points → Clearing q kept → Clearing (q + 1) (set kept (highs_at + q) never)
clearing_turn q kept h c =
    record {
      near = omega arith;
      long = simp length-set c.long;
      highs = λ p a b. at p a b (ℕ_discrete p (highs_at + q));
      low = λ p l. get_or-set_other kept (highs_at + q) p never 0 (λ e. omega arith) ∙ c.low p l;
      rest = λ p a b. get_or-set_other kept (highs_at + q) p never 0 (λ e. omega arith) ∙ c.rest p (omega arith) b;
    }
  where
    at : (p : ℕ) → highs_at ≤ p → p < highs_at + (q + 1) → Dec (p ≡ highs_at + q) → get_or (set kept (highs_at + q) never) p 0 ≡ never
    at p a b (yes e) = rw e (get_or-set_same kept (highs_at + q) never 0 (omega (arith, c.long)))
    at p a b (no n) = get_or-set_other kept (highs_at + q) p never 0 n ∙ c.highs p a (omega arith)

pub clearing_end : (rows : List ℕ) (q : ℕ) (kept : List ℕ) → most_points ≤ q → Clearing q kept → Begun rows 0 kept
unfolding sum_to
clearing_end rows q kept h c =
    record {
      long = c.long;
      holds = λ p l. c.low p (omega arith) ∙ omega arith;
      lows = λ p a b. c.low p b;
      highs = λ p a b. c.highs p a (omega arith);
      rest = λ p a. past p a (dec_lt p kept_room);
    }
  where
    past : (p : ℕ) → minutes_at ≤ p → Dec (p < kept_room) → get_or kept p 0 ≡ 0
    past p a (yes l) = c.rest p (omega (arith, c.near)) l
    past p a (no n) = get_or-eq_default kept 0 (omega (arith, c.long))

-- ---- the counts

count : (a b : ℕ) → min (a + b) never ≡ min (min a never + b) never
count a b = omega arith

pub begun_turn : (rows : List ℕ) (i : ℕ) (kept : List ℕ) → Begun rows i kept → (v o : ℕ) → v ≡ held_by (row_at rows i) → o ≡ min (get_or kept v 0 + one (holding (row_at rows i))) never → Begun rows (i + 1) (set kept v o)
unfolding sum_to
begun_turn rows i kept b v o e f =
    let s : i + 1 ≡ suc i = omega arith in
    let small : v < most_points = omega arith in
    rw s (record {
      long = simp length-set b.long;
      holds = λ q h. at q h (ℕ_discrete q v);
      lows = λ p a h. get_or-set_other kept v p o 0 (λ u. omega arith) ∙ b.lows p a h;
      highs = λ p a h. get_or-set_other kept v p o 0 (λ u. omega arith) ∙ b.highs p a h;
      rest = λ p a. get_or-set_other kept v p o 0 (λ u. omega arith) ∙ b.rest p a;
    })
  where
    at : (q : ℕ) → q < most_points → Dec (q ≡ v) → get_or (set kept v o) q 0 ≡ min (sum_to (hold_at rows q) i + hold_at rows q i) never
    at q h (yes u) =
        rw (u, get_or-set_same kept v o 0 (omega (arith, b.long)), f, b.holds v (omega arith), ← e, eq-eqb v v refl) (sym (count (sum_to (hold_at rows v) i) (one (holding (row_at rows i)))))
    at q h (no n) = rw (get_or-set_other kept v q o 0 n, b.holds q h, ← e, ne_eqb v q (λ u. n (sym u))) (omega arith)
