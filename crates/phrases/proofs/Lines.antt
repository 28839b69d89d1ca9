-- A text is its first line and what is left behind it. Assumes nothing.
use mathlib.Core.Path.{◌≡◌, refl, ap, ◌∙◌}
use mathlib.Core.Bool.{Bool, true, false, ◌&&◌}
use mathlib.Core.List.{List, [], ◌∷◌}
use Prim.Native.Nat.{ℕ, suc, ◌+◌, ◌≤◌}
use native.Mathlib.Omega.{arith}
use lib.ListN.{length, drop}
use borrow.Author.Tests.{ne_eqb, eqb-true}
use Rattle.std.specs.Prelude.{if◌then◌else◌}
use Rattle.phrases.specs.Phrases.{is_lf, is_cr, in_first, cut, begins_lf, unless, without_crs, lines_of}
use Rattle.phrases.specs.Inside.{line_end, first_line}

-- the place behind a line moves with its beginning
pub end_moves : (i : ℕ) (s : List ℕ) → line_end i s ≡ i + line_end 0 s
unfolding line_end
end_moves i [] = omega arith
end_moves i (c ∷ s) = go (is_lf c) (end_moves (suc i) s) (end_moves 1 s)
  where
    go : (b : Bool) → line_end (suc i) s ≡ suc i + line_end 0 s → line_end 1 s ≡ 1 + line_end 0 s → (if b then i + 1 else line_end (suc i) s) ≡ i + (if b then 0 + 1 else line_end 1 s)
    go true p q = omega arith
    go false p q = omega arith

-- it is behind the beginning, and no further than the text goes
pub end_within : (s : List ℕ) → (line_end 0 s ≤ length s) × (1 ≤ length s → 1 ≤ line_end 0 s)
unfolding line_end
end_within [] = (omega arith, λ h. omega arith)
end_within (c ∷ s) = go (is_lf c) (end_within s).0 (end_moves 1 s)
  where
    go : (b : Bool) → line_end 0 s ≤ length s → line_end 1 s ≡ 1 + line_end 0 s
        → ((if b then 0 + 1 else line_end 1 s) ≤ suc (length s)) × (1 ≤ suc (length s) → 1 ≤ (if b then 0 + 1 else line_end 1 s))
    go true p q = (omega arith, λ h. omega arith)
    go false p q = (omega arith, λ h. omega arith)

-- the lines behind the first: none at the text's end, else those of what is left
pub data Left (s : List ℕ) : Type 0 where
  none : lines_of s ≡ first_line s ∷ [] → line_end 0 s ≡ length s → Left s
  more : lines_of s ≡ first_line s ∷ lines_of (drop (line_end 0 s) s) → Left s

-- the lines from a byte on, by its tests
by_tests_lem : (c : ℕ) (s : List ℕ) → lines_of (c ∷ s) ≡ (if is_cr c && begins_lf s then lines_of s else (if is_lf c then [] ∷ lines_of s else in_first c (lines_of s)))
unfolding cut without_crs
by_tests_lem c s = go (is_cr c && begins_lf s)
  where
    go : (r : Bool) → cut is_lf (unless r c (without_crs s)) ≡ (if r then lines_of s else (if is_lf c then [] ∷ lines_of s else in_first c (lines_of s)))
    go true = refl
    go false = refl

first_by_lem : (c : ℕ) (s : List ℕ) → first_line (c ∷ s) ≡ (if is_lf c then [] else unless (is_cr c && begins_lf s) c (first_line s))
unfolding first_line
first_by_lem c s = refl

end_by_lem : (c : ℕ) (s : List ℕ) → line_end 0 (c ∷ s) ≡ (if is_lf c then 1 else suc (line_end 0 s))
unfolding line_end
end_by_lem c s = let z : 1 + line_end 0 s ≡ suc (line_end 0 s) = omega arith in rw (end_moves 1 s, z)

left_on : (c : ℕ) (s : List ℕ) (l : Bool) → is_lf c ≡ l → (r : Bool) → (is_cr c && begins_lf s) ≡ r → Left s → Left (c ∷ s)
left_on c s true e r q m =
    let n : is_cr c ≡ false = ne_eqb c 13 (λ y. let z = eqb-true c 10 e in omega arith) in
    more (by_tests_lem c s ∙ rw (n, e, first_by_lem c s, end_by_lem c s, e))
left_on c s false e true q (none p x) = none (by_tests_lem c s ∙ rw (q, first_by_lem c s, e, q) p) (rw (end_by_lem c s, e, x))
left_on c s false e true q (more p) = more (by_tests_lem c s ∙ rw (q, first_by_lem c s, end_by_lem c s, e, q) p)
left_on c s false e false q (none p x) = none (by_tests_lem c s ∙ rw (q, first_by_lem c s, e, q, p)) (rw (end_by_lem c s, e, x))
left_on c s false e false q (more p) = more (by_tests_lem c s ∙ rw (q, first_by_lem c s, end_by_lem c s, e, q) (ap (in_first c) p))

pub left_of : (s : List ℕ) → Left s
unfolding cut without_crs first_line line_end
left_of [] = none refl refl
left_of (c ∷ s) = left_on c s (is_lf c) refl (is_cr c && begins_lf s) refl (left_of s)
