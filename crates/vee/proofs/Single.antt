-- The test has at most one answer to a plan. Assumes nothing.
use mathlib.Core.Path.{◌≡◌, refl, ◌∙◌}
use mathlib.Core.Logic.{inl, inr}
use mathlib.Core.List.{List}
use Prim.Native.Nat.{ℕ}
use native.Mathlib.Omega.{arith}
use native.Mathlib.Decide.{dec_lt}
use borrow.Author.Tests.{ne_eqb, lt-ltb, le-ltb}
use Rattle.network.specs.Passing.{Good}
use Rattle.network.proofs.Laws.{not_both, not_fine}
use Rattle.plan.specs.declared.Plan.{Plan}
use Rattle.vee.specs.declared.Answer.{Answer}
use Rattle.projection.specs.Judging.{Before, FirstBad}
use Rattle.vee.specs.PlanTest.{Found, all_good, good, cycle, pair, Tested, refused, too_many, tested, answer_number, test_number}

module _ (E : ℕ → ℕ → ℕ → ℕ → Type 0) where
  not_good : {X Y : ℕ} → Good E → FirstBad E X Y → ⊥
  not_good g b = not_fine E (g.dispatchable.best _ _) b.bad

  -- there is one first bad pair
  not_before : {X Y X' Y' : ℕ} → FirstBad E X Y → FirstBad E X' Y' → Before X Y X' Y' → ⊥
  not_before b b' h = not_fine E (b'.before _ _ h) b.bad

  one_pair : (X Y X' Y' : ℕ) → FirstBad E X Y → FirstBad E X' Y' → (X ≡ X') × (Y ≡ Y')
  one_pair X Y X' Y' b b' = elim (dec_lt X X') [
    | yes h ↦ absurd (not_before b b' (inl h))
    | no h ↦ elim (dec_lt X' X) [
      | yes k ↦ absurd (not_before b' b (inl k))
      | no k ↦
          let e : X ≡ X' = omega arith in
          let e' : X' ≡ X = omega arith in
          elim (dec_lt Y Y') [
            | yes l ↦ absurd (not_before b b' (inr (e, l)))
            | no l ↦ elim (dec_lt Y' Y) [
              | yes m ↦ absurd (not_before b' b (inr (e', m)))
              | no m ↦ (e, omega arith)
            ]
          ]
    ]
  ]

pub one_found : {E : List ℕ → ℕ → ℕ → ℕ → ℕ → Type 0} {i : ℕ} {ws : List (List ℕ)} {a b : Answer} → Found E i ws a → Found E i ws b → a ≡ b
one_found all_good all_good = refl
one_found (good g f) (good g' f') = one_found f f'
one_found (good g f) (cycle c) = absurd (not_both _ g.consistent c)
one_found (good g f) (pair b) = absurd (not_good _ g b)
one_found (cycle c) (good g f) = absurd (not_both _ g.consistent c)
one_found (cycle c) (cycle c') = refl
one_found (cycle c) (pair b) = absurd (not_both _ b.consistent c)
one_found (pair b) (good g f) = absurd (not_good _ g b)
one_found (pair b) (cycle c) = absurd (not_both _ b.consistent c)
one_found (pair {X = X} {Y = Y} b) (pair {X = X'} {Y = Y'} b') = let e = one_pair _ X Y X' Y' b b' in rw (e.0, e.1) refl

-- the contract permits a single answer
pub one_answer : {p : Plan} {a b : Answer} → Tested p a → Tested p b → a ≡ b
one_answer (refused h) (refused k) = refl
one_answer (refused h) (too_many e m) = absurd (h e)
one_answer (refused h) (tested e m f) = absurd (h e)
one_answer (too_many e m) (refused h) = absurd (h e)
one_answer (too_many e m) (too_many e' m') = refl
one_answer (too_many e m) (tested e' m' f) = absurd (omega arith)
one_answer (tested e m f) (refused h) = absurd (h e)
one_answer (tested e m f) (too_many e' m') = absurd (omega arith)
one_answer (tested e m f) (tested e' m' f') = one_found f f'

-- what is found is no refusal
found_number : {E : List ℕ → ℕ → ℕ → ℕ → ℕ → Type 0} {i : ℕ} {ws : List (List ℕ)} {r : Answer} → Found E i ws r → answer_number r ≡ 0
found_number all_good = refl
found_number (good g f) = found_number f
found_number (cycle c) = refl
found_number (pair b) = refl

-- The number of the answer is the plan's own, or 13, or 0.
pub test_number_lem : {p : Plan} {r : Answer} → Tested p r → answer_number r ≡ test_number p
test_number_lem (refused h) = rw (ne_eqb _ _ h)
test_number_lem (too_many e m) = rw (e, lt-ltb _ _ m)
test_number_lem (tested e m f) = found_number f ∙ rw (e, le-ltb _ _ m)

-- the answer with its number, as the contract says it
pub test_numbered : {p : Plan} {r : Answer} → Tested p r → Tested p r × (answer_number r ≡ test_number p)
test_numbered t = (t, test_number_lem t)
