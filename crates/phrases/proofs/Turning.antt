-- The walks over a text, one byte at a time. Assumes nothing.
use mathlib.Core.Path.{◌≡◌}
use mathlib.Core.Bool.{Bool, true, false, not}
use mathlib.Core.List.{List}
use native.Mathlib.Omega.{arith}
use Prim.Native.Nat.{ℕ, ◌+◌, ◌≤◌, ◌<◌}
use native.Mathlib.Numerals.{add-one}
use lib.ListN.{length, drop, get_or, drop_of_length-le}
use lib.Seq.{drop-cons}
use borrow.Author.Tests.{eq-eqb, ne_eqb, not-true, not-false}
use Rattle.std.specs.Prelude.{if◌then◌else◌}
use Rattle.phrases.specs.Phrases.{is_lf, begins_lf}
use Rattle.values.specs.Inside.{word_in, kind_in}
use Rattle.values.specs.declared.Seen.{Seen}
use Rattle.phrases.specs.Inside.{with_byte, blank_by, ends_by, blanks_from, word_from, line_end}
use Rattle.phrases.specs.declared.Word.{Word}
use Rattle.phrases.specs.declared.Found.{Found}

module _ (s : List ℕ) (i : ℕ) where
  pub lf_past : length s ≤ i → false ≡ begins_lf (drop i s)
  unfolding begins_lf
  lf_past h = rw (drop_of_length-le s h)

  pub lf_here : i < length s → is_lf (get_or s i 0) ≡ begins_lf (drop i s)
  unfolding begins_lf
  lf_here h = rw (drop-cons s i 0 h)

  pub blanks_end : length s ≤ i → i ≡ blanks_from i (drop i s)
  unfolding blanks_from
  blanks_end h = rw (drop_of_length-le s h)

  pub line_past : length s ≤ i → i ≡ line_end i (drop i s)
  unfolding line_end
  line_past h = rw (drop_of_length-le s h)

  pub word_end : (w : Word) → length s ≤ i → ◌≡◌ {A = Found} (record { word = w; next = i }) (word_from w i (drop i s))
  unfolding word_from
  word_end w h = rw (drop_of_length-le s h)

  -- one byte further; b says whether an LF is behind it
  module _ (h : i < length s) where
    module _ (b : Bool) (e : b ≡ begins_lf (drop (i + 1) s)) where
      blanks_here : blanks_from i (drop i s) ≡ (if blank_by (get_or s i 0) b then blanks_from (i + 1) (drop (i + 1) s) else i)
      unfolding blanks_from
      blanks_here = rw (e, add-one i, drop-cons s i 0 h)

      word_here : (w : Word)
          → word_from w i (drop i s) ≡ (if ends_by (get_or s i 0) b then record { word = w; next = i } else word_from (with_byte w (get_or s i 0)) (i + 1) (drop (i + 1) s))
      unfolding word_from
      word_here w = rw (e, add-one i, drop-cons s i 0 h)

      pub blanks_stop : (t : Bool) → t ≡ blank_by (get_or s i 0) b → not t ≡ true → i ≡ blanks_from i (drop i s)
      blanks_stop t q n = rw (blanks_here, ← q, not-true t n)

      pub blanks_on : (t : Bool) → t ≡ blank_by (get_or s i 0) b → not t ≡ false → blanks_from (i + 1) (drop (i + 1) s) ≡ blanks_from i (drop i s)
      blanks_on t q n = rw (blanks_here, ← q, not-false t n)

      module _ (w : Word) (t : Bool) (q : t ≡ ends_by (get_or s i 0) b) where
        pub word_stop : t ≡ true → ◌≡◌ {A = Found} (record { word = w; next = i }) (word_from w i (drop i s))
        word_stop n = rw (word_here w, ← q, n)

        pub word_on : t ≡ false → word_from (with_byte w (get_or s i 0)) (i + 1) (drop (i + 1) s) ≡ word_from w i (drop i s)
        word_on n = rw (word_here w, ← q, n)

    line_here : line_end i (drop i s) ≡ (if is_lf (get_or s i 0) then i + 1 else line_end (i + 1) (drop (i + 1) s))
    unfolding line_end
    line_here = rw (drop-cons s i 0 h, add-one i)

    pub line_stop : get_or s i 0 ≡ 10 → i + 1 ≡ line_end i (drop i s)
    line_stop e = rw (line_here, eq-eqb (get_or s i 0) 10 e)

    pub line_on : (get_or s i 0 ≡ 10 → ⊥) → line_end (i + 1) (drop (i + 1) s) ≡ line_end i (drop i s)
    line_on n = rw (line_here, ne_eqb (get_or s i 0) 10 n)

-- there are four kinds of record
pub few_kinds : (s : Seen) → kind_in s ≤ 4
unfolding kind_in
few_kinds s = go (word_in 5 482905517684 s) (word_in 4 1818848875 s) (word_in 8 8030591489541239417 s) (word_in 4 2002872692 s)
  where
    go : (a b c d : Bool) → (if a then 1 else (if b then 2 else (if c then 3 else (if d then 4 else 0)))) ≤ 4
    go true b c d = omega arith
    go false true c d = omega arith
    go false false true d = omega arith
    go false false false true = omega arith
    go false false false false = omega arith
