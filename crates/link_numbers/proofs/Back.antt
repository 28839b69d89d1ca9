-- Links that were put into a room are read from it again. Assumes nothing.
use mathlib.Core.Path.{◌≡◌, sym, ◌∙◌}
use mathlib.Core.List.{List, [], ◌∷◌, ◌++◌}
use Prim.Native.Nat.{ℕ, zero, suc, ◌+◌, ◌*◌, ◌%◌, ◌<◌}
use native.Mathlib.Omega.{arith}
use lib.ListN.{length, get_or, get_or-append}
use lib.Seq.{get_or-append-add}
use Rattle.plan.specs.Limits.{most_points}
use Rattle.links.specs.declared.End.{End}
use Rattle.links.specs.declared.Links.{Links}
use Rattle.link_numbers.specs.Rooms.{numbers_of, end_numbers, links_room, end_in, end_at, links_in}
use Rattle.link_numbers.proofs.Taking.{listed_end}

abbrev none : End
none = end_in 0 0 0

-- number j of link q
number_at : (es : List End) (q j : ℕ) → q < length es → j < 3 → get_or (numbers_of end_numbers es) (3 * q + j) 0 ≡ get_or (end_numbers (get_or es q none)) j 0
unfolding numbers_of
number_at [] q j h k = absurd (omega arith)
number_at (e ∷ es) zero j h k = let z : 3 * 0 + j ≡ j = omega arith in rw z (get_or-append (end_numbers e) (numbers_of end_numbers es) 0 j k)
number_at (e ∷ es) (suc q) j h k =
    let z : 3 * suc q + j ≡ 3 + (3 * q + j) = omega arith in
    rw z (get_or-append-add (end_numbers e) (numbers_of end_numbers es) (3 * q + j) 0 ∙ number_at es q j (omega arith) k)

-- an end whose first point is a byte
byte_back : (e : End) (a b c : ℕ) → a ≡ e.from → b ≡ e.shortest → c ≡ e.longest → e.from < 256 → e ≡ end_in a b c
byte_back e a b c ea eb ec h =
    let m : e.from ≡ a % 256 = omega arith in
    λ i. record { from = m i; shortest = sym eb i; longest = sym ec i }

module _ (l : Links) (long : length l.ends ≡ most_points) (bytes : (q : ℕ) → q < most_points → (get_or l.ends q none).from < 256) where
  here : (q j : ℕ) → q < most_points → j < 3 → get_or (links_room l) (2 + (3 * q + j)) 0 ≡ get_or (end_numbers (get_or l.ends q none)) j 0
  here q j h k = get_or-append-add (l.points ∷ l.watched ∷ []) (numbers_of end_numbers l.ends) (3 * q + j) 0 ∙ number_at l.ends q j (omega arith) k

  end_back : (q : ℕ) → q < most_points → get_or l.ends q none ≡ end_at (links_room l) q
  end_back q h =
      let z₀ : 2 + 3 * q ≡ 2 + (3 * q + 0) = omega arith in
      let z₁ : 2 + 3 * q + 1 ≡ 2 + (3 * q + 1) = omega arith in
      let z₂ : 2 + 3 * q + 2 ≡ 2 + (3 * q + 2) = omega arith in
      byte_back (get_or l.ends q none) _ _ _ (rw z₀ (here q 0 h (omega arith))) (rw z₁ (here q 1 h (omega arith))) (rw z₂ (here q 2 h (omega arith))) (bytes q h)

  pub links_back : links_in (links_room l) ≡ l
  links_back =
      let e = listed_end (end_at (links_room l)) none most_points most_points l.ends (record { long = long; here = end_back }) (omega arith) in
      λ i. record { points = l.points; watched = l.watched; ends = sym e i }
