-- Lines that are typed from pieces, read again: their words are the pieces' texts, and a line ends where it was ended. Assumes nothing.
use mathlib.Core.Path.{◌≡◌, refl, ap}
use mathlib.Core.Bool.{false}
use mathlib.Core.List.{List, [], ◌∷◌, ◌++◌, map, append-nil}
use Prim.Native.Nat.{ℕ}
use native.Mathlib.Omega.{arith}
use borrow.Author.Tests.{ne_eqb}
use Rattle.numbers.specs.Fits.{All}
use Rattle.values.specs.Values.{is_empty}
use Rattle.phrases.specs.Phrases.{is_lf, is_blank, cut, filled, without_crs, lines_of, uncommented, words_of}
use Rattle.lines.specs.Text.{piece_text, more_text}
use Rattle.lines.specs.declared.Piece.{Piece}
use Rattle.listed.proofs.Decimal.{Solid}

-- a piece's text has bytes, and none of them parts anything
pub record Typed (p : Piece) : Type 0 where
  pub solid : All Solid (piece_text p)
  pub some : is_empty (piece_text p) ≡ false

-- ---- words

uncomment : (f t : List ℕ) → All Solid f → uncommented (f ++ t) ≡ f ++ uncommented t
unfolding uncommented
uncomment [] t a = refl
uncomment (c ∷ f) t a = rw (ne_eqb c 35 (λ e. omega (arith, a.0)), uncomment f t a.1)

no_blank : (c : ℕ) → Solid c → is_blank c ≡ false
no_blank c h = rw (ne_eqb c 32 (λ e. omega arith), ne_eqb c 9 (λ e. omega arith))

cut_last : (f : List ℕ) → All Solid f → cut is_blank f ≡ f ∷ []
unfolding cut
cut_last [] a = refl
cut_last (c ∷ f) a = rw (no_blank c a.0, cut_last f a.1)

cut_first : (f t : List ℕ) → All Solid f → cut is_blank (f ++ 32 ∷ t) ≡ f ∷ cut is_blank t
unfolding cut
cut_first [] t a = refl
cut_first (c ∷ f) t a = rw (no_blank c a.0, cut_first f t a.1)

-- The words of a line are its pieces' texts.
pub words_typed : (p : Piece) (ps : List Piece) → Typed p → All Typed ps → words_of (piece_text p ++ more_text ps) ≡ map piece_text (p ∷ ps)
unfolding more_text filled uncommented
words_typed p [] t a =
    rw (uncomment (piece_text p) [] t.solid, append-nil (piece_text p), cut_last (piece_text p) t.solid, t.some)
words_typed p (q ∷ ps) t a =
    let w = words_typed q ps a.0 a.1 in
    rw (uncomment (piece_text p) (32 ∷ (piece_text q ++ more_text ps)) t.solid, cut_first (piece_text p) (uncommented (piece_text q ++ more_text ps)) t.solid, t.some) (ap (λ (fs : List (List ℕ)). piece_text p ∷ fs) w)

-- ---- lines

-- bytes that end no line
abbrev pub Unbroken : ℕ → Type 0
Unbroken c = (c ≡ 13 → ⊥) × (c ≡ 10 → ⊥)

solid_unbroken : (f t : List ℕ) → All Solid f → All Unbroken t → All Unbroken (f ++ t)
solid_unbroken [] t a b = b
solid_unbroken (c ∷ f) t a b = ((λ e. omega (arith, a.0), λ e. omega (arith, a.0)), solid_unbroken f t a.1 b)

more_unbroken : (ps : List Piece) → All Typed ps → All Unbroken (more_text ps)
unfolding more_text
more_unbroken [] a = tt
more_unbroken (p ∷ ps) a =
    ((λ e. omega arith, λ e. omega arith), solid_unbroken (piece_text p) (more_text ps) a.0.solid (more_unbroken ps a.1))

pub line_unbroken : (p : Piece) (ps : List Piece) → Typed p → All Typed ps → All Unbroken (piece_text p ++ more_text ps)
line_unbroken p ps t a = solid_unbroken (piece_text p) (more_text ps) t.solid (more_unbroken ps a)

without : (l s : List ℕ) → All Unbroken l → without_crs (l ++ 10 ∷ s) ≡ l ++ 10 ∷ without_crs s
unfolding without_crs
without [] s a = refl
without (c ∷ l) s a = rw (ne_eqb c 13 a.0.0, without l s a.1)

cut_line : (l s : List ℕ) → All Unbroken l → cut is_lf (l ++ 10 ∷ s) ≡ l ∷ cut is_lf s
unfolding cut
cut_line [] s a = refl
cut_line (c ∷ l) s a = rw (ne_eqb c 10 a.0.1, cut_line l s a.1)

-- A line that was ended is the first of the lines.
pub line_first : (l s : List ℕ) → All Unbroken l → lines_of (l ++ 10 ∷ s) ≡ l ∷ lines_of s
line_first l s a = rw (without l s a, cut_line l (without_crs s) a)
