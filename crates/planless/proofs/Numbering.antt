-- 21 to 30 from links and windows, by how far the tests come; r is what the code answers, and x what it has for a test.
-- Assumes nothing.
use mathlib.Core.Path.{◌≡◌, refl, sym}
use mathlib.Core.Bool.{Bool, true, false, not}
use mathlib.Core.List.{List}
use Prim.Native.Nat.{ℕ}
use native.Mathlib.Omega.{arith}
use lib.Dec.{eqb}
use borrow.Author.Tests.{eq-eqb, ne_eqb}
use Rattle.points.specs.Sets.{below_of}
use Rattle.std.specs.Prelude.{if◌then◌else◌}
use Rattle.plan.specs.declared.Refusal.{Refusal}
use Rattle.links.specs.declared.Links.{Links}
use Rattle.events.specs.Fields.{event_minute, event_point, event_set, well_formed}
use Rattle.running.specs.ByTable.{set_number_of}
use Rattle.windows.specs.Inside.{latest_from, point_from, beside_from, refused}
use Rattle.windows.specs.declared.Windows.{Windows}
use Rattle.planless.specs.ByWindows.{stuck_by, later_by, number_by, with_record}

module _ (l : Links) (clock done : ℕ) (minutes : List ℕ) (w : Windows) (s : List ℕ) (r : Refusal) where
  -- 23 to 30
  module _ (x : Bool) (test : x ≡ well_formed l.points s) where
    pub not_formed : x ≡ false → r ≡ refused 23 0 → r ≡ with_record l done w s (later_by l clock done minutes w s)
    unfolding later_by
    not_formed e a = rw (← test, e) a

    pub formed : x ≡ true → (n i : ℕ) → n ≡ set_number_of l clock done minutes (event_minute s) (event_set s) (point_from w (latest_from clock w.high) (event_minute s) (event_point s))
        → i ≡ beside_from l done w (event_point s) n → r ≡ refused n i → r ≡ with_record l done w s (later_by l clock done minutes w s)
    unfolding later_by
    formed e n i f g a = rw (← test, e, ← f) (rw g at a)

  -- 21 to 30
  pub all_done : done ≡ below_of l.points → r ≡ refused 21 0 → r ≡ with_record l done w s (number_by l clock done minutes w s)
  unfolding number_by
  all_done h a = rw (eq-eqb done (below_of l.points) h) a

  module _ (h : done ≡ below_of l.points → ⊥) (x : Bool) (test : x ≡ stuck_by l done w) where
    pub is_stuck : x ≡ true → r ≡ refused 22 0 → r ≡ with_record l done w s (number_by l clock done minutes w s)
    unfolding number_by
    is_stuck e a = rw (ne_eqb done (below_of l.points) h, ← test, e) a

    pub later : x ≡ false → r ≡ with_record l done w s (later_by l clock done minutes w s) → r ≡ with_record l done w s (number_by l clock done minutes w s)
    unfolding number_by
    later e a = rw (ne_eqb done (below_of l.points) h, ← test, e) a

-- an event of another number than 21 to 23 is well formed
pub numbered_formed : (l : Links) (clock done : ℕ) (minutes : List ℕ) (w : Windows) (s : List ℕ) (k : ℕ) → (k ≡ 21 → ⊥) → (k ≡ 22 → ⊥) → (k ≡ 23 → ⊥)
    → number_by l clock done minutes w s ≡ k → well_formed l.points s ≡ true
unfolding number_by later_by
numbered_formed l clock done minutes w s k n1 n2 n3 = go (eqb done (below_of l.points)) (stuck_by l done w) (well_formed l.points s) _
  where
    go : (x y z : Bool) (n : ℕ) → (if x then 21 else (if y then 22 else (if not z then 23 else n))) ≡ k → z ≡ true
    go true y z n e = absurd (n1 (sym e))
    go false true z n e = absurd (n2 (sym e))
    go false false true n e = refl
    go false false false n e = absurd (n3 (sym e))

-- one of number 0 is
pub taken_formed : (l : Links) (clock done : ℕ) (minutes : List ℕ) (w : Windows) (s : List ℕ) → number_by l clock done minutes w s ≡ 0 → well_formed l.points s ≡ true
taken_formed l clock done minutes w s = numbered_formed l clock done minutes w s 0 (λ u. omega arith) (λ u. omega arith) (λ u. omega arith)
