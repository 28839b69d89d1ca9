-- The row that is told by what is kept of a line's words is what the words say. Assumes nothing.
use mathlib.Core.Path.{◌≡◌, refl, ap, ◌∙◌}
use mathlib.Core.Bool.{Bool, true, false, not}
use mathlib.Core.List.{List, [], ◌∷◌}
use Prim.Native.Nat.{ℕ, suc, ◌+◌, ◌^◌, ◌≤◌, ◌<◌}
use native.Mathlib.Omega.{arith}
use native.Mathlib.Numerals.{add-one}
use lib.Dec.{eqb, eqb-suc-suc}
use lib.ListN.{length, get_or, drop, length-drop}
use borrow.Author.Tests.{ne_eqb, eqb-true}
use Rattle.std.proofs.lemmas.Grind.{get_or_after_one}
use Rattle.std.specs.Prelude.{Ok, Err, if◌then◌else◌}
use Rattle.numbers.specs.Fits.{All, IsByte}
use Rattle.values.specs.Inside.{fresh, with_all, value_in}
use Rattle.values.proofs.Tells.{tells_all}
use Rattle.values.proofs.Says as values
use Rattle.phrases.specs.Inside.{fresh_word, with_bytes, kind_by, point_or_none_by, set_by}
use Rattle.phrases.specs.declared.Word.{Word}
use Rattle.phrases.proofs.Saying.{word_seen, says_below, says_value, says_kind_of, says_point_or_none, says_point_or_none_value, says_set, says_set_value}
use Rattle.sayings.specs.Sayings.{a_point, a_number, a_count, a_point_or_none, a_set, expected, holds, wrong_of, first_of, first_wrong, point_record, link_record, ordinary_record, wait_record, word, said_by}
use Rattle.sayings.specs.Sayings.{bad, good, unless_wrong, row_of, kind_of, number_of, value_of, point_or_none, set_of}
use Rattle.sayings.specs.Inside.{cell, holds_in, wrong_in, point_in, count_in, said_in, as_told, kind_row, row_by}
use Rattle.sayings.specs.Inside as inside
use Rattle.sayings.specs.declared.Said.{Said}
use Rattle.sayings.specs.declared.Said.TheVariants.{Plan, Mark, Event}
-- the row first: a wrong rule is then an error about it
use Rattle.sayings.proofs.ARow.{octal}

-- what is kept of a word
abbrev pub word_of : List ℕ → Word
word_of f = with_bytes fresh_word f

-- ---- one word

module _ (f : List ℕ) (a : All IsByte f) where
  holds_in_lem : (n : ℕ) → holds_in n (word_of f) ≡ holds n f
  unfolding holds_in holds
  holds_in_lem n =
      rw (
        says_set f a,
        word_seen fresh_word f,
        says_below f a 256 (omega arith),
        values.says_number f (with_all fresh f) (tells_all f a) a,
        says_below f a (2 ^ 32) (omega arith),
        says_point_or_none f a,
      )

  wrong_in_lem : (n : ℕ) → wrong_in n (word_of f) ≡ wrong_of n f
  wrong_in_lem n = ap (λ (t : Bool). if t then 0 else n) (holds_in_lem n)

  kind_in_lem : kind_by (word_of f).seen ≡ kind_of f
  kind_in_lem = rw (word_seen fresh_word f) (says_kind_of f a)

  point_in_lem : holds a_point f ≡ true → point_in (word_of f) ≡ value_of f
  unfolding holds
  point_in_lem e = let v = says_value f a 256 (omega arith) e in rw (word_seen fresh_word f) (omega (arith, v.0, v.1))

  count_in_lem : holds a_count f ≡ true → count_in (word_of f) ≡ value_of f
  unfolding holds
  count_in_lem e = let v = says_value f a (2 ^ 32) (omega arith) e in rw (word_seen fresh_word f) (omega (arith, v.0, v.1))

  number_in_lem : holds a_number f ≡ true → value_in (word_of f).seen ≡ number_of f
  unfolding holds
  number_in_lem e = rw (word_seen fresh_word f) (values.says_value f (with_all fresh f) (tells_all f a) a e)

  none_in_lem : holds a_point_or_none f ≡ true → point_or_none_by (word_of f).seen ≡ point_or_none f
  unfolding holds
  none_in_lem e = rw (word_seen fresh_word f) (says_point_or_none_value f a e)

  set_in_lem : holds a_set f ≡ true → set_by (word_of f) ≡ set_of f
  unfolding holds
  set_in_lem e = says_set_value f a e

-- ---- the first word that is wrong

-- what the cells hold of the words behind the kind word
abbrev pub Kept : List Word → List (List ℕ) → Type 0
Kept cells gs = (i : ℕ) → i < length gs → i < 4 → cell (suc i) cells ≡ word_of (get_or gs i [])

-- each of the words behind the kind word is kept
wrong_is : (ns : List ℕ) (gs : List (List ℕ)) (ws : List Word) → All (All IsByte) gs → length gs ≡ length ns → length ns ≤ length ws
    → ((i : ℕ) → i < length gs → cell i ws ≡ word_of (get_or gs i [])) → inside.first_wrong ns ws ≡ first_wrong ns gs
unfolding inside.first_wrong first_wrong
wrong_is [] gs ws a l h k = refl
wrong_is (n ∷ ns) [] ws a l h k = absurd (omega arith)
wrong_is (n ∷ ns) (f ∷ gs) [] a l h k = absurd (omega arith)
wrong_is (n ∷ ns) (f ∷ gs) (w ∷ ws) a l h k =
    let e : w ≡ word_of f = k 0 (omega arith) in
    rw (e, wrong_in_lem f a.0 n, wrong_is ns gs ws a.1 (omega arith) (omega arith) (λ i j. k (suc i) (omega arith)))

-- ---- what the words of a good line say

-- each word is what is expected
abbrev pub Each : List ℕ → List (List ℕ) → Type 0
Each [] gs = Unit {0}
Each (n ∷ ns) [] = Unit {0}
Each (n ∷ ns) (f ∷ gs) = (holds n f ≡ true) × Each ns gs

pub each_holds : (ns : List ℕ) → All (λ n. 1 ≤ n) ns → (gs : List (List ℕ)) → first_wrong ns gs ≡ 0 → Each ns gs
unfolding first_wrong
each_holds [] p gs e = tt
each_holds (n ∷ ns) p [] e = tt
each_holds (n ∷ ns) p (f ∷ gs) e = go (holds n f) refl e (λ q. each_holds ns p.1 gs q)
  where
    go : (t : Bool) → holds n f ≡ t → first_of (if t then 0 else n) (first_wrong ns gs) ≡ 0 → (first_wrong ns gs ≡ 0 → Each ns gs) → (holds n f ≡ true) × Each ns gs
    go true q z r = (q, r z)
    go false q z r =
        let y : n ≡ 0 = rw (ne_eqb n 0 (λ y. let x = p.0 in omega arith)) at z in
        absurd (let x = p.0 in omega arith)

abbrev list : Bool → Bool → Bool → Bool → Bool → List ℕ
list a b c d e =
    if a then a_point ∷ a_count ∷ []
    else (if b then a_point ∷ a_number ∷ a_number ∷ a_point ∷ []
    else (if c then a_point ∷ a_number ∷ a_point ∷ []
    else (if d then a_point ∷ a_point ∷ a_number ∷ []
    else (if e then []
    else a_count ∷ a_point_or_none ∷ a_set ∷ []))))

-- no kind has more than four words behind its own, and none expects nothing
pub few : (k : ℕ) → (length (expected k) ≤ 4) × All (λ n. 1 ≤ n) (expected k)
unfolding expected
few k = go (eqb k 1) (eqb k 2) (eqb k 3) (eqb k 4) (eqb k 5)
  where
    go : (a b c d e : Bool) → (length (list a b c d e) ≤ 4) × All (λ n. 1 ≤ n) (list a b c d e)
    go true b c d e = (omega arith, (omega arith, (omega arith, tt)))
    go false true c d e = (omega arith, (omega arith, (omega arith, (omega arith, (omega arith, tt)))))
    go false false true d e = (omega arith, (omega arith, (omega arith, (omega arith, tt))))
    go false false false true e = (omega arith, (omega arith, (omega arith, (omega arith, tt))))
    go false false false false true = (omega arith, tt)
    go false false false false false = (omega arith, (omega arith, (omega arith, (omega arith, tt))))

module _ (cells : List Word) where
  point_said : (gs : List (List ℕ)) → All (All IsByte) gs → Kept cells gs → length gs ≡ 2 → Each (a_point ∷ a_count ∷ []) gs
      → ◌≡◌ {A = Said} (Plan (point_record (point_in (cell 1 cells)) (count_in (cell 2 cells)))) (Plan (point_record (value_of (word 0 gs)) (value_of (word 1 gs))))
  point_said (f ∷ g ∷ []) a k l e =
      rw (k 0 (omega arith) (omega arith), k 1 (omega arith) (omega arith), point_in_lem f a.0 e.0, count_in_lem g a.1.0 e.1.0)
  point_said [] a k l e = absurd (omega arith)
  point_said (f ∷ []) a k l e = absurd (omega arith)
  point_said (f ∷ g ∷ x ∷ gs) a k l e = absurd (omega arith)

  link_said : (gs : List (List ℕ)) → All (All IsByte) gs → Kept cells gs → length gs ≡ 4 → Each (a_point ∷ a_number ∷ a_number ∷ a_point ∷ []) gs
      → ◌≡◌ {A = Said} (Plan (link_record (point_in (cell 1 cells)) (value_in (cell 2 cells).seen) (value_in (cell 3 cells).seen) (point_in (cell 4 cells))))
      (Plan (link_record (value_of (word 0 gs)) (number_of (word 1 gs)) (number_of (word 2 gs)) (value_of (word 3 gs))))
  link_said (f ∷ g ∷ x ∷ y ∷ []) a k l e =
      rw (
        k 0 (omega arith) (omega arith),
        k 1 (omega arith) (omega arith),
        k 2 (omega arith) (omega arith),
        k 3 (omega arith) (omega arith),
        point_in_lem f a.0 e.0,
        number_in_lem g a.1.0 e.1.0,
        number_in_lem x a.1.1.0 e.1.1.0,
        point_in_lem y a.1.1.1.0 e.1.1.1.0,
      )
  link_said [] a k l e = absurd (omega arith)
  link_said (f ∷ []) a k l e = absurd (omega arith)
  link_said (f ∷ g ∷ []) a k l e = absurd (omega arith)
  link_said (f ∷ g ∷ x ∷ []) a k l e = absurd (omega arith)
  link_said (f ∷ g ∷ x ∷ y ∷ z ∷ gs) a k l e = absurd (omega arith)

  -- three words behind the kind word
  data Three : List (List ℕ) → Type 0 where
    three : (f g x : List ℕ) → Three (f ∷ g ∷ x ∷ [])

  are_three : (gs : List (List ℕ)) → length gs ≡ 3 → Three gs
  are_three (f ∷ g ∷ x ∷ []) l = three f g x
  are_three [] l = absurd (omega arith)
  are_three (f ∷ []) l = absurd (omega arith)
  are_three (f ∷ g ∷ []) l = absurd (omega arith)
  are_three (f ∷ g ∷ x ∷ y ∷ gs) l = absurd (omega arith)

  ordinary_said : (gs : List (List ℕ)) → Three gs → All (All IsByte) gs → Kept cells gs → Each (a_point ∷ a_number ∷ a_point ∷ []) gs
      → ◌≡◌ {A = Said} (Plan (ordinary_record (point_in (cell 1 cells)) (value_in (cell 2 cells).seen) (point_in (cell 3 cells))))
      (Plan (ordinary_record (value_of (word 0 gs)) (number_of (word 1 gs)) (value_of (word 2 gs))))
  ordinary_said gs (three f g x) a k e =
      rw (
        k 0 (omega arith) (omega arith),
        k 1 (omega arith) (omega arith),
        k 2 (omega arith) (omega arith),
        point_in_lem f a.0 e.0,
        number_in_lem g a.1.0 e.1.0,
        point_in_lem x a.1.1.0 e.1.1.0,
      )

  wait_said : (gs : List (List ℕ)) → Three gs → All (All IsByte) gs → Kept cells gs → Each (a_point ∷ a_point ∷ a_number ∷ []) gs
      → ◌≡◌ {A = Said} (Plan (wait_record (point_in (cell 1 cells)) (point_in (cell 2 cells)) (value_in (cell 3 cells).seen)))
      (Plan (wait_record (value_of (word 0 gs)) (value_of (word 1 gs)) (number_of (word 2 gs))))
  wait_said gs (three f g x) a k e =
      rw (
        k 0 (omega arith) (omega arith),
        k 1 (omega arith) (omega arith),
        k 2 (omega arith) (omega arith),
        point_in_lem f a.0 e.0,
        point_in_lem g a.1.0 e.1.0,
        number_in_lem x a.1.1.0 e.1.1.0,
      )

  event_said : (gs : List (List ℕ)) → Three gs → All (All IsByte) gs → Kept cells gs → Each (a_count ∷ a_point_or_none ∷ a_set ∷ []) gs
      → ◌≡◌ {A = Said} (Event (count_in (cell 1 cells)) (point_or_none_by (cell 2 cells).seen) (set_by (cell 3 cells)))
      (Event (value_of (word 0 gs)) (point_or_none (word 1 gs)) (set_of (word 2 gs)))
  event_said gs (three f g x) a k e =
      rw (
        k 0 (omega arith) (omega arith),
        k 1 (omega arith) (omega arith),
        k 2 (omega arith) (omega arith),
        count_in_lem f a.0 e.0,
        none_in_lem g a.1.0 e.1.0,
        set_in_lem x a.1.1.0 e.1.1.0,
      )

  said_is : (k : ℕ) (gs : List (List ℕ)) → All (All IsByte) gs → Kept cells gs → length gs ≡ length (expected k) → Each (expected k) gs
      → said_in k cells ≡ said_by k gs
  unfolding expected said_in said_by
  said_is k gs a q l e = go (eqb k 1) (eqb k 2) (eqb k 3) (eqb k 4) (eqb k 5) l e
    where
      go : (t u v w x : Bool) → length gs ≡ length (list t u v w x) → Each (list t u v w x) gs
          → ◌≡◌ {A = Said}
          (if t then Plan (point_record (point_in (cell 1 cells)) (count_in (cell 2 cells)))
          else (if u then Plan (link_record (point_in (cell 1 cells)) (value_in (cell 2 cells).seen) (value_in (cell 3 cells).seen) (point_in (cell 4 cells)))
          else (if v then Plan (ordinary_record (point_in (cell 1 cells)) (value_in (cell 2 cells).seen) (point_in (cell 3 cells)))
          else (if w then Plan (wait_record (point_in (cell 1 cells)) (point_in (cell 2 cells)) (value_in (cell 3 cells).seen))
          else (if x then Mark
          else Event (count_in (cell 1 cells)) (point_or_none_by (cell 2 cells).seen) (set_by (cell 3 cells)))))))
          (if t then Plan (point_record (value_of (word 0 gs)) (value_of (word 1 gs)))
          else (if u then Plan (link_record (value_of (word 0 gs)) (number_of (word 1 gs)) (number_of (word 2 gs)) (value_of (word 3 gs)))
          else (if v then Plan (ordinary_record (value_of (word 0 gs)) (number_of (word 1 gs)) (value_of (word 2 gs)))
          else (if w then Plan (wait_record (value_of (word 0 gs)) (value_of (word 1 gs)) (number_of (word 2 gs)))
          else (if x then Mark
          else Event (value_of (word 0 gs)) (point_or_none (word 1 gs)) (set_of (word 2 gs)))))))
      go true u v w x l e = point_said gs a q l e
      go false true v w x l e = link_said gs a q l e
      go false false true w x l e = ordinary_said gs (are_three gs l) a q e
      go false false false true x l e = wait_said gs (are_three gs l) a q e
      go false false false false true l e = refl
      go false false false false false l e = event_said gs (are_three gs l) a q e

  -- ---- the row

  same_suc : (m n : ℕ) → eqb (suc m) (n + 1) ≡ eqb m n
  same_suc m n = rw (add-one n) (eqb-suc-suc m n)

  -- behind the kind word
  kind_row_lem : (k : ℕ) (gs : List (List ℕ)) → length cells ≡ 6 → All (All IsByte) gs → Kept cells gs
      → kind_row k (suc (length gs)) cells
      ≡ as_told (if eqb k 0 then bad 1 else (if not (eqb (length gs) (length (expected k))) then bad 2 else unless_wrong (first_wrong (expected k) gs) (said_by k gs)))
  unfolding kind_row
  kind_row_lem k gs size a q = rw (same_suc (length gs) (length (expected k))) (go (eqb k 0) (eqb (length gs) (length (expected k))) refl)
    where
      behind : (i : ℕ) → cell i (drop 1 cells) ≡ cell (suc i) cells
      behind i = get_or_after_one cells i _ ∙ ap (λ (j : ℕ). cell j cells) (omega arith)

      told : (n : ℕ) → (t : Bool) → eqb n 0 ≡ t → (x y : Said) → (t ≡ true → x ≡ y)
          → (if not t then Err n else Ok x) ≡ as_told (if t then good y else bad n)
      told n true e x y h = ap Ok (h refl)
      told n false e x y h = refl

      go : (z t : Bool) → eqb (length gs) (length (expected k)) ≡ t
          → (if z then Err 1 else (if not t then Err 2 else (if not (eqb (inside.first_wrong (expected k) (drop 1 cells)) 0) then Err (inside.first_wrong (expected k) (drop 1 cells)) else Ok (said_in k cells))))
          ≡ as_told (if z then bad 1 else (if not t then bad 2 else unless_wrong (first_wrong (expected k) gs) (said_by k gs)))
      go true t e = refl
      go false false e = refl
      go false true e =
          let l = eqb-true (length gs) (length (expected k)) e in
          let few_k = few k in
          let w : inside.first_wrong (expected k) (drop 1 cells) ≡ first_wrong (expected k) gs =
          wrong_is (expected k) gs (drop 1 cells) a l (omega (arith, few_k.0, length-drop 1 cells, size)) (λ i h. behind i ∙ q i h (omega (arith, few_k.0))) in
          rw w
          (told (first_wrong (expected k) gs) (eqb (first_wrong (expected k) gs) 0) refl (said_in k cells) (said_by k gs)
          (λ z. said_is k gs a q l (each_holds (expected k) (few k).1 gs (eqb-true (first_wrong (expected k) gs) 0 z))))

-- what the cells hold of a line's words: the first five
abbrev pub Cells : List Word → List (List ℕ) → Type 0
Cells cells fs = (i : ℕ) → i < length fs → i < 5 → cell i cells ≡ word_of (get_or fs i [])

pub row_is : (cells : List Word) (fs : List (List ℕ)) → length cells ≡ 6 → All (All IsByte) fs → Cells cells fs → row_by (length fs) cells ≡ as_told (row_of fs)
unfolding row_by row_of
row_is cells [] size a q = refl
row_is cells (f ∷ gs) size a q =
    let k : kind_by (cell 0 cells).seen ≡ kind_of f = rw (q 0 (omega arith) (omega arith)) (kind_in_lem f a.0) in
    rw (ne_eqb (suc (length gs)) 0 (λ e. omega arith), k) (kind_row_lem cells (kind_of f) gs size a.1 (λ i h l. q (suc i) (omega arith) (omega arith)))
