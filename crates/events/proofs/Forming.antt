-- What a well formed event has. Assumes nothing.
use mathlib.Core.Path.{◌≡◌, refl, sym}
use mathlib.Core.Bool.{Bool, true, false, not, ◌&&◌, ◌||◌, true≢false}
use mathlib.Core.List.{List}
use Prim.Native.Nat.{ℕ, ◌≤◌}
use native.Mathlib.Omega.{arith}
use lib.Dec.{eqb, ltb}
use lib.ListN.{length, get_or}
use borrow.Author.Tests.{eqb-true, ltb-true, lt-ltb}
use Rattle.points.specs.Sets.{below_of, subset_of}
use Rattle.plan.specs.Limits.{most_points, record_bytes}
use Rattle.plan.specs.PlanFile.{word_at}
use Rattle.events.specs.Fields.{event_point, no_point, event_set, well_formed}

-- an event that is well formed has sixteen bytes, and its point, if it has one, is below 32
parts : (a b c d : Bool) → (a && (b && (c && d))) ≡ true → (a ≡ true) × (c ≡ true)
parts true true true d e = (refl, refl)
parts true true false d e = absurd (true≢false (sym e))
parts true false c d e = absurd (true≢false (sym e))
parts false b c d e = absurd (true≢false (sym e))

module _ (n : ℕ) (s : List ℕ) (e : well_formed n s ≡ true) where
  said : (eqb (length s) record_bytes ≡ true) × ((eqb (event_point s) no_point || ltb (event_point s) n) ≡ true)
  said =
      parts
      (eqb (length s) record_bytes)
      (eqb (get_or s 5 0) 0 && (eqb (get_or s 6 0) 0 && (eqb (get_or s 7 0) 0 && eqb (word_at s 12) 0)))
      (eqb (event_point s) no_point || ltb (event_point s) n)
      (subset_of (event_set s) (below_of n) && not (eqb (event_point s) no_point && eqb (event_set s) 0))
      e

  pub formed_length : length s ≡ record_bytes
  formed_length = eqb-true (length s) record_bytes said.0

  pub formed_point : n ≤ most_points → (eqb (event_point s) no_point || ltb (event_point s) most_points) ≡ true
  formed_point m = go (eqb (event_point s) no_point) said.1
    where
      go : (k : Bool) → (k || ltb (event_point s) n) ≡ true → (k || ltb (event_point s) most_points) ≡ true
      go true x = refl
      go false x = lt-ltb (event_point s) most_points (omega (arith, ltb-true (event_point s) n x))
