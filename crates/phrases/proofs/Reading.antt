-- The word that the walk finds is the first word of what is left of the line, and the place behind it is where the rest begins.
-- Assumes nothing.
use mathlib.Core.Path.{◌≡◌, refl, ap, ◌∙◌}
use mathlib.Core.Bool.{Bool, true, false, ◌&&◌, ◌||◌}
use mathlib.Core.List.{List, [], ◌∷◌}
use Prim.Native.Nat.{ℕ, zero, suc, ◌+◌, ◌≤◌, ◌<◌}
use native.Mathlib.Omega.{arith}
use mathlib.Core.Logic.{◌⊎◌, inl, inr}
use lib.Dec.{eqb}
use lib.ListN.{length, get_or, drop, length-drop}
use lib.Seq.{drop-drop}
use borrow.Author.Tests.{ne_eqb, eqb-true}
use Rattle.std.specs.Prelude.{if◌then◌else◌}
use Rattle.numbers.specs.Fits.{All, IsByte}
use Rattle.values.specs.Values.{is_empty}
use Rattle.values.proofs.Tests.{both}
use Rattle.phrases.specs.Phrases.{is_lf, is_cr, is_blank, is_hash, in_first, cut, filled, begins_lf, unless, uncommented}
use Rattle.phrases.specs.Inside.{fresh_word, with_byte, with_bytes, blank_by, ends_by, blanks_from, word_from, line_end, first_line}
use Rattle.phrases.specs.declared.Word.{Word}
use Rattle.phrases.specs.declared.Found.{Found}

-- the pieces of the first line, empty ones too
abbrev pub pieces : List ℕ → List (List ℕ)
pieces s = cut is_blank (uncommented (first_line s))

-- the words of the first line
abbrev pub first_words : List ℕ → List (List ℕ)
first_words s = filled (pieces s)

pub all_drop : {A : Type 0} (so : A → Type 0) (n : ℕ) (xs : List A) → All so xs → All so (drop n xs)
all_drop so zero xs h = h
all_drop so (suc n) [] h = tt
all_drop so (suc n) (x ∷ xs) h = all_drop so n xs h.1

-- ---- tests

pub either : (a b : Bool) → (a || b) ≡ true → (a ≡ true) ⊎ (b ≡ true)
either true b e = inl refl
either false b e = inr e

pub neither : (a b : Bool) → (a || b) ≡ false → (a ≡ false) × (b ≡ false)
neither true b e = absurd (let z : ◌≡◌ {A = ℕ} 0 1 = cc in omega arith)
neither false b e = (refl, e)

-- ---- one byte

-- the pieces from a byte on, by its tests
abbrev by_tests : Bool → Bool → Bool → Bool → ℕ → List (List ℕ) → List (List ℕ)
by_tests l r h b c ps = if l then [] ∷ [] else (if r then ps else (if h then [] ∷ [] else (if b then [] ∷ ps else in_first c ps)))

by_tests_lem : (c : ℕ) (s : List ℕ) → pieces (c ∷ s) ≡ by_tests (is_lf c) (is_cr c && begins_lf s) (is_hash c) (is_blank c) c (pieces s)
unfolding cut uncommented first_line
by_tests_lem c s = go (is_lf c) (is_cr c && begins_lf s) (is_hash c) refl
  where
    go : (l r h : Bool) → is_hash c ≡ h
        → cut is_blank (uncommented (if l then [] else unless r c (first_line s))) ≡ by_tests l r h (is_blank c) c (pieces s)
    go true r h e = refl
    go false true h e = refl
    go false false true e = rw e
    go false false false e = rw e

-- an empty piece is no word
none : filled ([] ∷ []) ≡ []
unfolding filled
none = refl

-- a blank byte changes nothing
module _ (s : List ℕ) where
  blank_32 : first_words (32 ∷ s) ≡ first_words s
  unfolding cut uncommented first_line filled
  blank_32 = refl

  blank_9 : first_words (9 ∷ s) ≡ first_words s
  unfolding cut uncommented first_line filled
  blank_9 = refl

  blank_cr : begins_lf s ≡ true → first_words (13 ∷ s) ≡ first_words s
  unfolding first_line
  blank_cr e = rw e

blank_words : (c : ℕ) (s : List ℕ) → blank_by c (begins_lf s) ≡ true → (first_words (c ∷ s) ≡ first_words s) × (is_lf c ≡ false)
blank_words c s e = by (either (is_blank c) (is_cr c && begins_lf s) e)
  where
    at : (n : ℕ) → eqb c n ≡ true → first_words (n ∷ s) ≡ first_words s → (n ≡ 10 → ⊥) → (first_words (c ∷ s) ≡ first_words s) × (is_lf c ≡ false)
    at n q f m = let z = eqb-true c n q in (rw z f, ne_eqb c 10 (λ y. m (omega arith)))

    by_blank : (eqb c 32 ≡ true) ⊎ (eqb c 9 ≡ true) → (first_words (c ∷ s) ≡ first_words s) × (is_lf c ≡ false)
    by_blank (inl q) = at 32 q (blank_32 s) (λ y. omega arith)
    by_blank (inr q) = at 9 q (blank_9 s) (λ y. omega arith)

    by : (is_blank c ≡ true) ⊎ ((is_cr c && begins_lf s) ≡ true) → (first_words (c ∷ s) ≡ first_words s) × (is_lf c ≡ false)
    by (inl p) = by_blank (either (eqb c 32) (eqb c 9) p)
    by (inr p) = let b = both (is_cr c) (begins_lf s) p in at 13 b.0 (blank_cr s b.1) (λ y. omega arith)

-- the first of the pieces is empty
pub record Bare (ps : List (List ℕ)) : Type 0 where
  pub others : List (List ℕ)
  pub first : ps ≡ [] ∷ others

lf_bare : (s : List ℕ) → begins_lf s ≡ true → Bare (pieces s)
unfolding begins_lf first_line cut uncommented
lf_bare [] e = absurd (let z : ◌≡◌ {A = ℕ} 0 1 = cc in omega arith)
lf_bare (d ∷ s) e = record { others = []; first = rw e }

-- a byte that ends a word, and one that does not
ends_bare : (c : ℕ) (s : List ℕ) → ends_by c (begins_lf s) ≡ true → Bare (pieces (c ∷ s))
ends_bare c s e = by (either (blank_by c (begins_lf s)) (is_hash c || is_lf c) e)
  where
    at : (n : ℕ) → eqb c n ≡ true → Bare (pieces (n ∷ s)) → Bare (pieces (c ∷ s))
    at n q b = rw (eqb-true c n q) b

    stop : (n : ℕ) → (ps : List (List ℕ)) → pieces (n ∷ s) ≡ [] ∷ ps → Bare (pieces (n ∷ s))
    stop n ps q = record { others = ps; first = q }

    space : pieces (32 ∷ s) ≡ [] ∷ pieces s
    space = by_tests_lem 32 s

    tab : pieces (9 ∷ s) ≡ [] ∷ pieces s
    tab = by_tests_lem 9 s

    hash : pieces (35 ∷ s) ≡ [] ∷ []
    hash = by_tests_lem 35 s

    lf : pieces (10 ∷ s) ≡ [] ∷ []
    lf = by_tests_lem 10 s

    cr : begins_lf s ≡ true → pieces (13 ∷ s) ≡ pieces s
    cr q = by_tests_lem 13 s ∙ rw q

    by_cr : (is_cr c ≡ true) × (begins_lf s ≡ true) → Bare (pieces (c ∷ s))
    by_cr b = let z : pieces (13 ∷ s) ≡ pieces s = cr b.1 in at 13 b.0 (rw z (lf_bare s b.1))

    by_space : (eqb c 32 ≡ true) ⊎ (eqb c 9 ≡ true) → Bare (pieces (c ∷ s))
    by_space (inl q) = at 32 q (stop 32 (pieces s) space)
    by_space (inr q) = at 9 q (stop 9 (pieces s) tab)

    by_blank : (is_blank c ≡ true) ⊎ ((is_cr c && begins_lf s) ≡ true) → Bare (pieces (c ∷ s))
    by_blank (inl p) = by_space (either (eqb c 32) (eqb c 9) p)
    by_blank (inr p) = by_cr (both (is_cr c) (begins_lf s) p)

    by_stop : (is_hash c ≡ true) ⊎ (is_lf c ≡ true) → Bare (pieces (c ∷ s))
    by_stop (inl q) = at 35 q (stop 35 [] hash)
    by_stop (inr q) = at 10 q (stop 10 [] lf)

    by : (blank_by c (begins_lf s) ≡ true) ⊎ ((is_hash c || is_lf c) ≡ true) → Bare (pieces (c ∷ s))
    by (inl p) = by_blank (either (is_blank c) (is_cr c && begins_lf s) p)
    by (inr p) = by_stop (either (is_hash c) (is_lf c) p)

-- the line has no more words at a byte that ends one and is not blank
ends_none : (c : ℕ) (s : List ℕ) → ends_by c (begins_lf s) ≡ true → blank_by c (begins_lf s) ≡ false → first_words (c ∷ s) ≡ []
ends_none c s e n = by (either (is_hash c) (is_lf c) (rw n at e))
  where
    hash : first_words (35 ∷ s) ≡ []
    hash = rw (by_tests_lem 35 s) none

    lf : first_words (10 ∷ s) ≡ []
    lf = rw (by_tests_lem 10 s) none

    by : (is_hash c ≡ true) ⊎ (is_lf c ≡ true) → first_words (c ∷ s) ≡ []
    by (inl q) = rw (eqb-true c 35 q) hash
    by (inr q) = rw (eqb-true c 10 q) lf

goes_on_lem : (c : ℕ) (s : List ℕ) → ends_by c (begins_lf s) ≡ false → (pieces (c ∷ s) ≡ in_first c (pieces s)) × (is_lf c ≡ false)
goes_on_lem c s e =
    let p = neither (blank_by c (begins_lf s)) (is_hash c || is_lf c) e in
    let q = neither (is_blank c) (is_cr c && begins_lf s) p.0 in
    let r = neither (is_hash c) (is_lf c) p.1 in
    (by_tests_lem c s ∙ rw (r.1, q.1, r.0, q.0), r.1)

-- ---- the blanks in front of a word

-- what begins the bytes is not blank
abbrev pub Solid : List ℕ → Type 0
Solid [] = Unit {0}
Solid (c ∷ s) = blank_by c (begins_lf s) ≡ false

-- k blanks
record Skipped (i : ℕ) (s : List ℕ) : Type 0 where
  k : ℕ
  place : blanks_from i s ≡ i + k
  within : k ≤ length s
  words : first_words s ≡ first_words (drop k s)
  line : line_end i s ≡ line_end (i + k) (drop k s)
  solid : Solid (drop k s)

skipped : (i : ℕ) (s : List ℕ) → Skipped i s
unfolding blanks_from line_end
skipped i [] = record { k = 0; place = omega arith; within = omega arith; words = refl; line = omega arith; solid = tt }
skipped i (c ∷ s) = go (blank_by c (begins_lf s)) refl (skipped (suc i) s)
  where
    go : (b : Bool) → blank_by c (begins_lf s) ≡ b → Skipped (suc i) s → Skipped i (c ∷ s)
    go false e m =
        let z : i + 0 ≡ i = omega arith in
        record { k = 0; place = rw (e, z); within = omega arith; words = refl; line = rw z; solid = e }
    go true e m =
        let w = blank_words c s e in
        let z : suc i + m.k ≡ i + suc m.k = omega arith in
        record {
          k = suc m.k;
          place = rw e (m.place ∙ z);
          within = let h = m.within in omega arith;
          words = w.0 ∙ m.words;
          line = rw w.1 (rw z at m.line);
          solid = m.solid;
        }

-- ---- a word

-- bytes in front of the first piece
abbrev pub onto : List ℕ → List (List ℕ) → List (List ℕ)
onto [] ps = ps
onto (c ∷ g) ps = in_first c (onto g ps)

pub onto_bare : (g : List ℕ) (ps : List (List ℕ)) → onto g ([] ∷ ps) ≡ g ∷ ps
onto_bare [] ps = refl
onto_bare (c ∷ g) ps = ap (in_first c) (onto_bare g ps)

-- the bytes g of a word go by, and what is left begins with a byte that ends it
record Went (w : Word) (i : ℕ) (s : List ℕ) : Type 0 where
  g : List ℕ
  bytes : All IsByte g
  found : word_from w i s ≡ record { word = with_bytes w g; next = i + length g }
  within : length g ≤ length s
  split : pieces s ≡ onto g (pieces (drop (length g) s))
  bare : Bare (pieces (drop (length g) s))
  line : line_end i s ≡ line_end (i + length g) (drop (length g) s)
  ends : is_empty g ≡ true → Solid s → first_words s ≡ []

went : (s : List ℕ) → All IsByte s → (w : Word) (i : ℕ) → Went w i s
unfolding word_from with_bytes line_end first_line cut uncommented
went [] b w i =
    let z : i + 0 ≡ i = omega arith in
    record {
      g = [];
      bytes = tt;
      found = rw z;
      within = omega arith;
      split = refl;
      bare = record { others = []; first = refl };
      line = rw z;
      ends = λ e h. none;
    }
went (c ∷ s) b w i = go (ends_by c (begins_lf s)) refl (went s b.1 (with_byte w c) (suc i))
  where
    go : (t : Bool) → ends_by c (begins_lf s) ≡ t → Went (with_byte w c) (suc i) s → Went w i (c ∷ s)
    go true e m =
        let z : i + 0 ≡ i = omega arith in
        record {
          g = [];
          bytes = tt;
          found = rw (e, z);
          within = omega arith;
          split = refl;
          bare = ends_bare c s e;
          line = rw z;
          ends = λ q h. ends_none c s e h;
        }
    go false e m =
        let n = goes_on_lem c s e in
        let z : suc i + length m.g ≡ i + suc (length m.g) = omega arith in
        record {
          g = c ∷ m.g;
          bytes = (b.0, m.bytes);
          found = rw e (rw z at m.found);
          within = let h = m.within in omega arith;
          split = n.0 ∙ ap (in_first c) m.split;
          bare = m.bare;
          line = rw n.1 (rw z at m.line);
          ends = λ q h. absurd (let y = eqb-true (suc (length m.g)) 0 q in omega arith);
        }

-- the next word of the line from place `at` on: g are its bytes, none where the line has no more
pub record Next (text : List ℕ) (at : ℕ) (f : Found) : Type 0 where
  pub g : List ℕ
  pub bytes : All IsByte g
  pub word : f.word ≡ with_bytes fresh_word g
  pub past : at + length g ≤ f.next
  pub within : at ≤ length text → f.next ≤ length text
  pub line : line_end at (drop at text) ≡ line_end f.next (drop f.next text)
  pub some : is_empty g ≡ false → first_words (drop at text) ≡ g ∷ first_words (drop f.next text)
  pub last : is_empty g ≡ true → first_words (drop at text) ≡ []

abbrev pub found : List ℕ → ℕ → Found
found text at = word_from fresh_word (blanks_from at (drop at text)) (drop (blanks_from at (drop at text)) text)

pub next_word : (text : List ℕ) → All IsByte text → (at : ℕ) → Next text at (found text at)
unfolding filled
next_word text b at = from (skipped at (drop at text))
  where
    from : Skipped at (drop at text) → Next text at (found text at)
    from k =
        let d : drop k.k (drop at text) ≡ drop (at + k.k) text = drop-drop k.k at text in
        let l = length-drop at text in
        let l2 = length-drop (at + k.k) text in
        let kw = k.within in
        let m = went (drop (at + k.k) text) (all_drop IsByte (at + k.k) text b) fresh_word (at + k.k) in
        let e : found text at ≡ record { word = with_bytes fresh_word m.g; next = at + k.k + length m.g } = rw k.place m.found in
        let r : drop (length m.g) (drop (at + k.k) text) ≡ drop (at + k.k + length m.g) text = drop-drop (length m.g) (at + k.k) text in
        let w : first_words (drop at text) ≡ first_words (drop (at + k.k) text) = rw d at k.words in
        let bare : pieces (drop (at + k.k + length m.g) text) ≡ [] ∷ m.bare.others = rw r at m.bare.first in
        let s : first_words (drop (at + k.k) text) ≡ filled (m.g ∷ m.bare.others) =
        rw (r, bare, onto_bare m.g m.bare.others) at (ap filled m.split) in
        let solid : Solid (drop (at + k.k) text) = rw d at k.solid in
        rw e
        record {
          g = m.g;
          bytes = m.bytes;
          word = refl;
          past = omega arith;
          within = λ h. let mw = m.within in omega arith;
          line = rw d at k.line ∙ rw r at m.line;
          some = λ q. w ∙ s ∙ rw (q, bare);
          last = λ q. w ∙ m.ends q solid;
        }

-- the bytes of a slice
pub all_bytes_lem : (s : List ℕ) → ((i : ℕ) → get_or s i 0 < 256) → All IsByte s
all_bytes_lem [] h = tt
all_bytes_lem (c ∷ s) h = (h 0, all_bytes_lem s (λ i. h (suc i)))
