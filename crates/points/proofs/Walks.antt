-- A loop over the members of a set that stops at the first which fails a test, by the members that are left: how each turn goes on, stops and
-- ends. And `all` over them. Assumes nothing.
use mathlib.Core.Path.{◌≡◌, refl, sym, ap, subst, ◌∙◌}
use mathlib.Core.Bool.{Bool, true, false, ◌&&◌}
use mathlib.Core.List.{List, [], ◌∷◌}
use Prim.Native.Nat.{ℕ, ◌<◌, ◌^◌}
use native.Mathlib.Omega.{arith}
use lib.Dec.{eqb}
use borrow.Author.Tests.{eqb-true, eqb-false}
use denote.Param.Members.{Mut, Called}
use Rattle.std.specs.Iterator.{ChecksAll}
use Rattle.std.specs.List.{list_all}
use Rattle.std.proofs.lemmas.Iterator.{YieldsList}
use Rattle.std.proofs.lemmas.Iterator.Consumers.{YieldsList-from_shown}
use Rattle.std.proofs.lemmas.Iterator.Search.{all_from_yields_List}
use lib.ListN.{length}
use Rattle.points.specs.Sets.{every, members_of, first_of, without_of, Steps}
use Rattle.points.proofs.Laws.{Turn, turn, members_empty, members_step}

module _ (test : ℕ → Bool) {b : Bool} {left : List ℕ} (so_far : every test left ≡ b) where
  -- the next one passes
  pub every_passed : {p : ℕ} {rest : List ℕ} → left ≡ p ∷ rest → test p ≡ true → every test rest ≡ b
  unfolding every
  every_passed e h = rw (e, h) at so_far

  -- the next one fails
  pub every_failed : {p : ℕ} {rest : List ℕ} → left ≡ p ∷ rest → test p ≡ false → false ≡ b
  unfolding every
  every_failed e h = rw (e, h) at so_far

  -- none is left
  pub every_done : left ≡ [] → true ≡ b
  unfolding every
  every_done e = rw e at so_far

-- The same in std's word.
every_list : (test : ℕ → Bool) (xs : List ℕ) → list_all test xs ≡ every test xs
unfolding every
every_list test [] = refl
every_list test (x ∷ xs) = ap (λ b. test x && b) (every_list test xs)

-- Where those that are left are the members of a set, a turn is one over that set.
pub walk_turn : {left rest : List ℕ} {p : ℕ} (s : ℕ) → s < 2 ^ 32 → left ≡ members_of s → left ≡ p ∷ rest → Turn s p (without_of s p) × (rest ≡ members_of (without_of s p))
walk_turn {rest = rest} {p = p} s f e g = go (eqb s 0) refl
  where
    go : (b : Bool) → eqb s 0 ≡ b → Turn s p (without_of s p) × (rest ≡ members_of (without_of s p))
    go true z = absurd (let n : ◌≡◌ {A = List ℕ} [] (p ∷ rest) = sym members_empty ∙ sym (ap members_of (eqb-true s 0 z)) ∙ sym e ∙ g in cc)
    go false z =
        let some : s ≡ 0 → ⊥ = eqb-false s 0 z in
        let m = members_step s (omega arith) f in
        let q : p ≡ first_of s = cc in
        let t = turn s p (without_of s p) (omega arith) f q refl in
        let r : rest ≡ members_of (without_of s p) = cc (t.members) in
        (t, r)

-- No set but the empty one has no members.
pub walk_end : {left : List ℕ} (s : ℕ) → s < 2 ^ 32 → left ≡ members_of s → left ≡ [] → s ≡ 0
walk_end s f e g = go (eqb s 0) refl
  where
    go : (b : Bool) → eqb s 0 ≡ b → s ≡ 0
    go true z = eqb-true s 0 z
    go false z =
        let some : s ≡ 0 → ⊥ = eqb-false s 0 z in
        let m = members_step s (omega arith) f in
        absurd (let n : ◌≡◌ {A = List ℕ} [] (first_of s ∷ members_of (without_of s (first_of s))) = sym g ∙ e ∙ m in cc)

-- A walk over points gives those that are left.
pub walked : {left : List ℕ} (xs : List ℕ) → left ≡ xs → YieldsList Steps (λ p. p) left xs
walked {left} xs e =
    subst (YieldsList Steps (λ p. p) left) e (YieldsList-from_shown Steps (λ p. p) (λ l. l) (λ s t h. ap length h.yields.0) (λ s x t h. h.yields) left)

-- What `all` answers over a walk, with a closure that computes a test.
pub every_walked : {F : Type 0} {g : Mut F (ℕ × Unit {0}) Bool} {left xs : List ℕ} (test : ℕ → Bool) (u : List ℕ) (f : F) (r : Bool)
    → ChecksAll Steps g left f r u → left ≡ xs → ((x : ℕ) (b : Bool) (q : F) → Called g f (x, tt) b q → (q ≡ f) × (b ≡ test x)) → r ≡ every test xs
every_walked {xs = xs} test u f r ran e calls = all_from_yields_List test u f r ran (walked xs e) calls ∙ every_list test xs
