-- A room is filled from its front with the numbers of some things, one after the other. Assumes nothing.
use mathlib.Core.Path.{◌≡◌, refl, sym, ap, ◌∙◌}
use mathlib.Core.List.{List, [], ◌∷◌, ◌++◌, append_assoc, append-nil}
use Prim.Native.Nat.{ℕ, suc, ◌+◌, ◌*◌, ◌<◌, ◌≤◌}
use native.Mathlib.Omega.{arith}
use native.Mathlib.Numerals.{add-one}
use lib.ListN.{length, get_or, take, set, length-append}
use lib.Seq.{sets, sets-eq, length-take-le, take-suc, take_at, take_all}
use Rattle.plan.specs.Limits.{most_points}
use Rattle.links.specs.declared.End.{End}
use Rattle.link_numbers.specs.Rooms.{numbers_of, links_length, end_numbers, end_in}

-- the first two numbers are stored
pub first_two : (r : List ℕ) (a b : ℕ) → 2 ≤ length r → take 2 (set (set r 0 a) 1 b) ≡ a ∷ b ∷ []
first_two [] a b h = absurd (omega arith)
first_two (x ∷ []) a b h = absurd (omega arith)
first_two (x ∷ y ∷ r) a b h = refl

module _ {A : Type 0} (f : A → List ℕ) where
  numbers_more : (xs : List A) (x : A) → numbers_of f (xs ++ (x ∷ [])) ≡ numbers_of f xs ++ f x
  unfolding numbers_of
  numbers_more [] x = append-nil (f x)
  numbers_more (y ∷ ys) x = ap (λ (l : List ℕ). f y ++ l) (numbers_more ys x) ∙ sym (append_assoc (f y) (numbers_of f ys) (f x))

  -- up to the place `at`, the room holds the head and the numbers of the first q of xs
  pub record Put (head : List ℕ) (xs : List A) (at q : ℕ) (room : List ℕ) : Type 0 where
    pub holds : take at room ≡ head ++ numbers_of f (take q xs)

  pub put_start : (head : List ℕ) (xs : List A) (at : ℕ) (room : List ℕ) → take at room ≡ head → Put head xs at 0 room
  unfolding numbers_of
  put_start head xs at room h = record { holds = h ∙ sym (append-nil head) }

  pub put_turn : (head : List ℕ) (xs : List A) (at q : ℕ) (room : List ℕ) (x d : A) → get_or xs q d ≡ x → q < length xs → at + length (f x) ≤ length room
      → Put head xs at q room → Put head xs (at + length (f x)) (q + 1) (sets room at (f x))
  put_turn head xs at q room x d e h fits p =
      let n : length (take at room ++ f x) ≡ at + length (f x) = length-append (take at room) (f x) ∙ ap (λ (k : ℕ). k + length (f x)) (length-take-le at room (omega arith)) in
      let s : take (at + length (f x)) (sets room at (f x)) ≡ take at room ++ f x =
      ap (take (at + length (f x))) (sets-eq (f x) room at fits) ∙ take_at (take at room ++ f x) _ (at + length (f x)) n in
      let t : take (q + 1) xs ≡ take q xs ++ (x ∷ []) = rw add-one (take-suc xs q d h ∙ ap (λ (y : A). take q xs ++ (y ∷ [])) e) in
      let m : numbers_of f (take (q + 1) xs) ≡ numbers_of f (take q xs) ++ f x = ap (numbers_of f) t ∙ numbers_more (take q xs) x in
      record {
        holds = s ∙ ap (λ (l : List ℕ). l ++ f x) p.holds ∙ append_assoc head (numbers_of f (take q xs)) (f x) ∙ sym (ap (λ (l : List ℕ). head ++ l) m);
      }

  pub put_end : (head : List ℕ) (xs : List A) (at q : ℕ) (room : List ℕ) → length xs ≤ q → length room ≤ at → Put head xs at q room → room ≡ head ++ numbers_of f xs
  put_end head xs at q room past full p =
      sym (take_all at room full) ∙ p.holds ∙ ap (λ (l : List A). head ++ numbers_of f l) (take_all q xs past)

-- three stores, one behind the other
three_sets : {A : Type 0} (l : List A) (i : ℕ) (a b c : A) → set (set (set l i a) (i + 1) b) (i + 2) c ≡ sets l i (a ∷ b ∷ c ∷ [])
three_sets l i a b c = let e : i + 1 ≡ suc i = omega arith in let e' : i + 2 ≡ suc (suc i) = omega arith in rw (e, e')

-- links: three numbers for each
pub links_turn : (head : List ℕ) (ends : List End) (q : ℕ) (room : List ℕ) → q < most_points → length ends ≡ most_points → length room ≡ links_length
    → Put end_numbers head ends (2 + 3 * q) q room → (e : End) → get_or ends q (end_in 0 0 0) ≡ e
    → Put end_numbers head ends (2 + 3 * (q + 1)) (q + 1) (set (set (set room (2 + 3 * q) e.from) (2 + 3 * q + 1) e.shortest) (2 + 3 * q + 2) e.longest)
links_turn head ends q room h le lr p e x =
    let t = put_turn end_numbers head ends (2 + 3 * q) q room e (end_in 0 0 0) x (omega arith) (omega arith) p in
    let n : 2 + 3 * (q + 1) ≡ 2 + 3 * q + 3 = omega arith in
    rw (n, three_sets room (2 + 3 * q) e.from e.shortest e.longest) t
