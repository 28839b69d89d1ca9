-- A text is its first line and what is left behind it. Assumes nothing.
use mathlib.Core.Path.{◌≡◌, refl, sym, ap, ◌∙◌}
use mathlib.Core.Bool.{Bool, true, false, ◌&&◌}
use mathlib.Core.List.{List, [], ◌∷◌}
use Prim.Native.Nat.{ℕ, suc, ◌+◌, ◌≤◌}
use native.Mathlib.Omega.{arith}
use lib.Dec.{eqb}
use lib.ListN.{length, drop}
use lib.Seq.{drop-length}
use borrow.Author.Tests.{ne_eqb, eqb-true}
use Rattle.std.specs.Prelude.{if◌then◌else◌}
use Rattle.values.proofs.Tests.{both}
use Rattle.fields.specs.Quoting.{cr, lf}
use Rattle.fields.specs.Inside.{ends_line}
use Rattle.office.specs.Sheets.{begins_lf, before, pieces, without_rest, lines_of}
use Rattle.office.specs.Inside.{first_line, end_from}
use Rattle.office.proofs.ALines.{none_left}

-- a line's end is a CR before an LF
pub ends_is : (c : ℕ) (s : List ℕ) → ends_line (c ∷ s) ≡ (eqb c cr && begins_lf s)
unfolding ends_line begins_lf
ends_is c [] = go (eqb c cr)
  where
    go : (b : Bool) → false ≡ (b && false)
    go true = refl
    go false = refl
ends_is c (d ∷ s) = refl

-- the pieces behind the first
tail_pieces : List ℕ → List (List ℕ)
tail_pieces [] = []
tail_pieces (c ∷ s) = if ends_line (c ∷ s) then pieces (drop 1 s) else tail_pieces s

-- the first line begins as the text does
begins : (s : List ℕ) → begins_lf (first_line s) ≡ begins_lf s
unfolding first_line begins_lf
begins [] = refl
begins (c ∷ s) = go (ends_line (c ∷ s)) refl
  where
    go : (b : Bool) → ends_line (c ∷ s) ≡ b → begins_lf (if b then [] else c ∷ first_line s) ≡ eqb c lf
    go false e = refl
    go true e =
        let r = eqb-true c cr (both (eqb c cr) _ (sym (ends_is c s) ∙ e)).0 in
        sym (ne_eqb c lf (λ q. omega arith))

-- a line that begins with an LF goes on behind it
behind_lf : (d : ℕ) (s : List ℕ) → eqb d lf ≡ true → (first_line (d ∷ s) ≡ d ∷ first_line s) × (tail_pieces (d ∷ s) ≡ tail_pieces s)
unfolding first_line tail_pieces
behind_lf d s e =
    let n : ends_line (d ∷ s) ≡ false = rw (ends_is d s, ne_eqb d cr (λ q. let l = eqb-true d lf e in omega arith)) in
    (rw n, rw n)

-- a CR before an LF ends the first piece
ended : (c : ℕ) (s : List ℕ) → (eqb c cr && begins_lf (first_line s)) ≡ ends_line (c ∷ s)
ended c s = ap (λ (b : Bool). eqb c cr && b) (begins s) ∙ sym (ends_is c s)

-- one piece more, or one byte more in the first
one_more : (c : ℕ) (s : List ℕ) (b : Bool) → ends_line (c ∷ s) ≡ b → (b ≡ true → drop 1 (first_line s) ∷ tail_pieces s ≡ pieces (drop 1 s))
    → before c (first_line s ∷ tail_pieces s) ≡ first_line (c ∷ s) ∷ tail_pieces (c ∷ s)
unfolding before first_line tail_pieces
one_more c s true e h = rw (ended c s, e) (ap (λ (ls : List (List ℕ)). [] ∷ ls) (h refl))
one_more c s false e h = rw (ended c s, e)

pieces_first : (s : List ℕ) → pieces s ≡ first_line s ∷ tail_pieces s
unfolding pieces first_line tail_pieces ends_line begins_lf
pieces_first [] = refl
pieces_first (c ∷ []) = one_more c [] false refl (λ e. absurd (let z : ◌≡◌ {A = ℕ} 0 1 = cc in omega arith))
pieces_first (c ∷ d ∷ s) =
    rw (pieces_first (d ∷ s))
    (one_more c (d ∷ s) (ends_line (c ∷ d ∷ s)) refl
    (λ e. let l = behind_lf d s (both (eqb c cr) (eqb d lf) e).1 in rw (l.0, l.1) (sym (pieces_first s))))

-- there is a first piece
pub pieces_some : (s : List ℕ) → (l : List ℕ) × (ls : List (List ℕ)) × (pieces s ≡ l ∷ ls)
pieces_some s = (first_line s, tail_pieces s, pieces_first s)

-- what is left behind the first line: nothing, or the text behind its end
data Left (s : List ℕ) : Type 0 where
  none : tail_pieces s ≡ [] → first_line s ≡ s → end_from 0 s ≡ length s → Left s
  more : tail_pieces s ≡ pieces (drop (end_from 0 s) s) → Left s

-- the place behind a line moves with its beginning
pub end_moves : (i : ℕ) (s : List ℕ) → end_from i s ≡ i + end_from 0 s
unfolding end_from
end_moves i [] = omega arith
end_moves i (c ∷ s) = go (ends_line (c ∷ s)) (end_moves (suc i) s) (end_moves 1 s)
  where
    go : (b : Bool) → end_from (suc i) s ≡ suc i + end_from 0 s → end_from 1 s ≡ 1 + end_from 0 s → (if b then i + 2 else end_from (suc i) s) ≡ i + (if b then 0 + 2 else end_from 1 s)
    go true p q = omega arith
    go false p q = omega arith

-- it is behind the beginning, and no further than the text goes
pub end_within : (s : List ℕ) → (end_from 0 s ≤ length s) × (1 ≤ length s → 1 ≤ end_from 0 s)
unfolding end_from ends_line
end_within [] = (omega arith, λ h. omega arith)
end_within (c ∷ []) = (omega arith, λ h. omega arith)
end_within (c ∷ d ∷ s) = go (ends_line (c ∷ d ∷ s)) (end_within (d ∷ s)).0 (end_moves 1 (d ∷ s))
  where
    go : (b : Bool) → end_from 0 (d ∷ s) ≤ length (d ∷ s) → end_from 1 (d ∷ s) ≡ 1 + end_from 0 (d ∷ s)
        → ((if b then 0 + 2 else end_from 1 (d ∷ s)) ≤ length (c ∷ d ∷ s)) × (1 ≤ length (c ∷ d ∷ s) → 1 ≤ (if b then 0 + 2 else end_from 1 (d ∷ s)))
    go true p q = (omega arith, λ h. omega arith)
    go false p q = (omega arith, λ h. omega arith)

left_on : (c : ℕ) (s : List ℕ) (b : Bool) → ends_line (c ∷ s) ≡ b → Left s → Left (c ∷ s)
unfolding tail_pieces first_line end_from
left_on c s true e l = more (rw e)
left_on c s false e (none p q r) = none (rw e p) (rw (e, q)) (rw (e, end_moves 1 s, r) (omega arith))
left_on c s false e (more p) = more (rw (e, end_moves 1 s) (on (end_from 0 s) p))
  where
    on : (n : ℕ) → tail_pieces s ≡ pieces (drop n s) → tail_pieces s ≡ pieces (drop (1 + n) (c ∷ s))
    on n q = let z : 1 + n ≡ suc n = omega arith in rw z q

left_of : (s : List ℕ) → Left s
unfolding tail_pieces first_line end_from
left_of [] = none refl refl refl
left_of (c ∷ s) = left_on c s (ends_line (c ∷ s)) refl (left_of s)

-- a text that is not empty: its first line, and the lines of what is left
pub lines_first : (s : List ℕ) → 1 ≤ length s → lines_of s ≡ first_line s ∷ lines_of (drop (end_from 0 s) s)
unfolding without_rest
lines_first s h = rw (pieces_first s) (go (left_of s))
  where
    go : Left s → without_rest (first_line s ∷ tail_pieces s) ≡ first_line s ∷ without_rest (pieces (drop (end_from 0 s) s))
    go (none p q r) = rw (p, q, r, ne_eqb (length s) 0 (λ e. omega arith), drop-length s, none_left)
    go (more p) = rw (p, pieces_first (drop (end_from 0 s) s))
