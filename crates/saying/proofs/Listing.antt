-- The list of a reply, line by line. Assumes nothing.
use Rattle.std.proofs.Common.{◌≡◌, ℕ, zero, suc, ◌+◌, ◌*◌, ◌<◌, ◌≤◌, min, List, [], ◌∷◌, ◌++◌, map, length, sym, refl, ap, ◌∙◌, append_assoc, append-nil, add-one, arith}
use Rattle.points.specs.Sets.{from}
use Rattle.plan.specs.Limits.{most_points}
use Rattle.replies.specs.declared.Reply.{Reply}
use Rattle.lines.specs.Text.{room}
use Rattle.lines.specs.Inside.{text_in}
use Rattle.lines.specs.declared.Line.{Line}
use Rattle.places.specs.Places.{line_at}
use Rattle.printed.specs.Texts.{texts_of}
use Rattle.saying.specs.Makes.{Made}
use Rattle.saying.proofs.Making.{made_none, made_more}

-- one number more
from_more : (a n : ℕ) → from a (suc n) ≡ from a n ++ ((a + n) ∷ [])
unfolding from
from_more a zero = let z : a + 0 ≡ a = omega arith in rw z
from_more a (suc n) =
    let z : suc a + n ≡ a + suc n = omega arith in
    ap (λ (xs : List ℕ). a ∷ xs) (from_more (suc a) n ∙ ap (λ (k : ℕ). from (suc a) n ++ (k ∷ [])) z)

map_more : {A B : Type 0} (f : A → B) (xs ys : List A) → map f (xs ++ ys) ≡ map f xs ++ map f ys
map_more f [] ys = refl
map_more f (x ∷ xs) ys = ap (λ (l : List _). f x ∷ l) (map_more f xs ys)

-- the text of lines and lines
pub texts_more : (xs ys : List Line) → texts_of (xs ++ ys) ≡ texts_of xs ++ texts_of ys
unfolding texts_of
texts_more [] ys = refl
texts_more (x ∷ xs) ys = ap (λ (t : List ℕ). text_in x ++ t) (texts_more xs ys) ∙ sym (append_assoc (text_in x) (texts_of xs) (texts_of ys))

pub one_text : (l : Line) → texts_of (l ∷ []) ≡ text_in l
unfolding texts_of
one_text l = append-nil (text_in l)

pub record Sofar (rows ponds : List ℕ) (r : Reply) (points : ℕ) (lines₀ : List ℕ) (at count : ℕ) (lines : List ℕ) (end i : ℕ) : Type 0 where
  pub counted : count ≡ min points most_points
  pub upto : i ≤ count
  pub fits : at + room * most_points ≤ length lines₀
  pub few : end ≤ at + room * i
  pub made : Made lines₀ at (texts_of (map (line_at rows ponds r) (from 0 i))) lines end

module _ (rows ponds : List ℕ) (r : Reply) (points : ℕ) (lines₀ : List ℕ) (at count : ℕ) where
  pub sofar_start : count ≡ min points most_points → at + room * most_points ≤ length lines₀ → Sofar rows ponds r points lines₀ at count lines₀ at 0
  unfolding texts_of from
  sofar_start e h = record { counted = e; upto = omega arith; fits = h; few = omega arith; made = made_none lines₀ at }

  pub sofar_turn : {lines : List ℕ} {end i : ℕ} {line : Line} {lines' : List ℕ} {end' : ℕ} → Sofar rows ponds r points lines₀ at count lines end i → i < count → line ≡ line_at rows ponds r i
      → Made lines end (text_in line) lines' end' → end' ≤ end + room → Sofar rows ponds r points lines₀ at count lines' end' (i + 1)
  sofar_turn {lines} {end} {i} {line} {lines'} {end'} s h e m f =
      let g = line_at rows ponds r in
      let z : 0 + i ≡ i = omega arith in
      let t : texts_of (map g (from 0 (i + 1))) ≡ texts_of (map g (from 0 i)) ++ text_in line =
      ap (λ (n : ℕ). texts_of (map g (from 0 n))) (add-one i) ∙ ap (λ (xs : List ℕ). texts_of (map g xs)) (from_more 0 i ∙ ap (λ (k : ℕ). from 0 i ++ (k ∷ [])) z)
      ∙ ap texts_of (map_more g (from 0 i) (i ∷ [])) ∙ texts_more (map g (from 0 i)) (g i ∷ []) ∙ ap (λ (xs : List ℕ). texts_of (map g (from 0 i)) ++ xs) (one_text (g i) ∙ ap text_in (sym e)) in
      record { counted = s.counted; upto = omega (arith, s.upto); fits = s.fits; few = omega (arith, s.few); made = rw t (made_more s.made m) }

  pub sofar_end : {lines : List ℕ} {end i : ℕ} → Sofar rows ponds r points lines₀ at count lines end i → count ≤ i
      → Made lines₀ at (texts_of (map (line_at rows ponds r) (from 0 (min points most_points)))) lines end × (end ≤ at + room * most_points)
  sofar_end {lines} {end} {i} s h =
      let e : i ≡ min points most_points = omega (arith, s.counted, s.upto) in
      (rw e at s.made, omega (arith, s.few, s.counted))
