-- What is answered by what is kept of a word is what the word says. Assumes nothing.
use mathlib.Core.Path.{◌≡◌, refl, sym, ap, ◌∙◌}
use mathlib.Core.Bool.{Bool, true, false, ◌&&◌, ◌||◌, not}
use mathlib.Core.List.{List, [], ◌∷◌, ◌++◌}
use Prim.Native.Nat.{ℕ, zero, suc, ◌%◌, ◌^◌, ◌≤◌, ◌<◌, min}
use native.Mathlib.Omega.{arith}
use lib.Dec.{eqb, ltb}
use lib.ListN.{length}
use borrow.Author.Tests.{ne_eqb, lt-ltb, le-ltb, ltb-true, ltb-false}
use Rattle.std.specs.Prelude.{if◌then◌else◌}
use Rattle.numbers.specs.Fits.{All, IsByte}
use Rattle.points.specs.Sets.{member, with_of}
use Rattle.values.specs.Ascii.{ascii}
use Rattle.values.specs.Values.{same, is_empty, all_digits}
use Rattle.values.specs.Inside.{fresh, with, with_all, word_in, below_in}
use Rattle.values.specs.declared.Seen.{Seen}
use Rattle.values.proofs.Tests.{both}
use Rattle.values.proofs.Words.{base, same_word}
use Rattle.values.proofs.Tells.{Tells, tells_all}
use Rattle.values.proofs.Digits.{digits_unsigned, no_minus}
use Rattle.values.proofs.Says.{says_kind}
use Rattle.phrases.specs.Phrases.{is_comma, in_first, cut, kind_of, is_below, value_of, is_none, are_points, set_from, is_set, set_of, is_point_or_none, point_or_none}
use Rattle.phrases.specs.Inside.{fresh_word, ended, with_byte, with_bytes, kind_by, none_in, set_in, set_by, point_or_none_in, point_or_none_by}
use Rattle.phrases.specs.declared.Word.{Word}
use Rattle.phrases.proofs.Reading.{onto, onto_bare}

module _ (f : List ℕ) (a : All IsByte f) where
  abbrev known : Seen
  known = with_all fresh f

  tells : Tells f known
  tells = tells_all f a

  pub says_empty : eqb known.count 0 ≡ is_empty f
  says_empty = rw tells.count (go (length f))
    where
      go : (n : ℕ) → eqb (min n 9) 0 ≡ eqb n 0
      go zero = refl
      go (suc n) = rw (ne_eqb (min (suc n) 9) 0 (λ e. omega arith), ne_eqb (suc n) 0 (λ e. omega arith))

  digits : (known.digits && not known.minus) ≡ all_digits f
  digits = rw (tells.digits, tells.minus) (no_minus f)

  -- where a word is all digits, it is its own size
  size : all_digits f ≡ true → min known.size (2 ^ 32) ≡ min (value_of f) (2 ^ 32)
  size e = rw (digits_unsigned f e).0 at tells.size

  below_by : (n : ℕ) → n ≤ 2 ^ 32 → (t : Bool) → all_digits f ≡ t → (t && ltb known.size n) ≡ (t && ltb (value_of f) n)
  below_by n h false e = refl
  below_by n h true e = go (ltb (value_of f) n) refl
    where
      go : (t : Bool) → ltb (value_of f) n ≡ t → ltb known.size n ≡ t
      go true q = let l = ltb-true (value_of f) n q in let z = size e in lt-ltb known.size n (omega arith)
      go false q = let l = ltb-false (value_of f) n q in let z = size e in le-ltb known.size n (omega arith)

  pub says_below : (n : ℕ) → n ≤ 2 ^ 32 → below_in n known ≡ is_below n f
  says_below n h = rw (says_empty, digits) (ap (λ (t : Bool). not (is_empty f) && t) (below_by n h (all_digits f) refl))

  pub says_value : (n : ℕ) → n ≤ 2 ^ 32 → is_below n f ≡ true → (known.size ≡ value_of f) × (value_of f < n)
  says_value n h e =
      let b = both (all_digits f) (ltb (value_of f) n) (both (not (is_empty f)) _ e).1 in
      let l = ltb-true (value_of f) n b.1 in
      let z = size b.0 in
      (omega arith, l)

  says_word : (w : List ℕ) → All IsByte w → length w ≤ 8 → word_in (length w) (base w) known ≡ same f w
  says_word w b h = rw (tells.count, tells.word) (same_word f w a b h)

  pub says_none : none_in known ≡ is_none f
  says_none = says_word (ascii "none") (omega arith, (omega arith, (omega arith, (omega arith, tt)))) (omega arith)

  pub says_kind_of : kind_by known ≡ kind_of f
  unfolding kind_by kind_of
  says_kind_of =
      rw (
        says_kind f known tells a,
        says_word (ascii "mark") (omega arith, (omega arith, (omega arith, (omega arith, tt)))) (omega arith),
        says_word (ascii "event") (omega arith, (omega arith, (omega arith, (omega arith, (omega arith, tt))))) (omega arith),
      )

  pub says_point_or_none : point_or_none_in known ≡ is_point_or_none f
  says_point_or_none = rw (says_none, says_below 255 (omega arith))

  pub says_point_or_none_value : is_point_or_none f ≡ true → point_or_none_by known ≡ point_or_none f
  says_point_or_none_value e = rw says_none (go (is_none f) e)
    where
      go : (t : Bool) → (t || is_below 255 f) ≡ true → (if t then 255 else known.size % 256) ≡ (if t then 255 else value_of f)
      go true q = refl
      go false q = let v = says_value 255 (omega arith) q in omega (arith, v.0, v.1)

-- ---- a word as points

-- what is known of all of a word's bytes
pub word_seen : (w : Word) (g : List ℕ) → (with_bytes w g).seen ≡ with_all w.seen g
unfolding with_bytes with_all with_byte
word_seen w [] = refl
word_seen w (c ∷ g) = word_seen (with_byte w c) g

with_last : (s : Seen) (f : List ℕ) (c : ℕ) → with_all s (f ++ (c ∷ [])) ≡ with (with_all s f) c
unfolding with_all
with_last s [] c = refl
with_last s (d ∷ f) c = with_last (with s d) f c

bytes_last : (f : List ℕ) (c : ℕ) → All IsByte f → IsByte c → All IsByte (f ++ (c ∷ []))
bytes_last [] c a b = (b, tt)
bytes_last (d ∷ f) c a b = (a.0, bytes_last f c a.1 b)

onto_last : (p : List ℕ) (c : ℕ) (ps : List (List ℕ)) → onto (p ++ (c ∷ [])) ps ≡ onto p (in_first c ps)
onto_last [] c ps = refl
onto_last (d ∷ p) c ps = ap (in_first d) (onto_last p c ps)

and_assoc : (a b c : Bool) → (a && (b && c)) ≡ ((a && b) && c)
and_assoc true b c = refl
and_assoc false b c = refl

-- a point that ends: its test, and the set with it
module _ (p : List ℕ) (a : All IsByte p) (s : ℕ) where
  abbrev new : Bool
  new = is_below 32 p && not (member s (value_of p))

  one_test : (below_in 32 (with_all fresh p) && not (member s ((with_all fresh p).size % 256))) ≡ new
  one_test = rw (says_below p a 32 (omega arith)) (go (is_below 32 p) refl)
    where
      go : (t : Bool) → is_below 32 p ≡ t → (t && not (member s ((with_all fresh p).size % 256))) ≡ (t && not (member s (value_of p)))
      go false e = refl
      go true e =
          let v = says_value p a 32 (omega arith) e in
          let m : (with_all fresh p).size % 256 ≡ value_of p = omega (arith, v.0, v.1) in
          rw m

  one_value : new ≡ true → (with_all fresh p).size % 256 ≡ value_of p
  one_value e = let v = says_value p a 32 (omega arith) (both (is_below 32 p) _ e).0 in omega (arith, v.0, v.1)

-- the points of bytes that go by, behind the bytes p of the point that began before them
record Points (w : Word) (p r : List ℕ) : Type 0 where
  test : (ended (with_bytes w r)).good ≡ (w.good && are_points w.set (onto p (cut is_comma r)))
  value : (ended (with_bytes w r)).good ≡ true → (ended (with_bytes w r)).set ≡ set_from w.set (onto p (cut is_comma r))

-- the test and the set at the last point's end
last_point : (w : Word) (p : List ℕ) → All IsByte p → w.point ≡ with_all fresh p → Points w p []
unfolding with_bytes ended cut are_points set_from
last_point w p a e =
    let o = onto_bare p [] in
    record {
      test = rw (o, e, one_test p a w.set) (ap (λ (t : Bool). w.good && t) (whole (new p a w.set)));
      value = λ g. rw (o, e, one_value p a w.set (both w.good _ (rw (e, one_test p a w.set) at g)).1);
    }
  where
    whole : (t : Bool) → t ≡ (t && true)
    whole true = refl
    whole false = refl

-- a comma ends a point, and any other byte is one of it
record Ended (w v : Word) : Type 0 where
  set : v.set ≡ with_of w.set (w.point.size % 256)
  good : v.good ≡ (w.good && (below_in 32 w.point && not (member w.set (w.point.size % 256))))
  point : v.point ≡ fresh

record Longer (w v : Word) (c : ℕ) : Type 0 where
  set : v.set ≡ w.set
  good : v.good ≡ w.good
  point : v.point ≡ with w.point c

comma_ends : (w : Word) (c : ℕ) → is_comma c ≡ true → Ended w (with_byte w c)
unfolding with_byte ended
comma_ends w c e = record { set = rw e; good = rw e; point = rw e }

other_longer : (w : Word) (c : ℕ) → is_comma c ≡ false → Longer w (with_byte w c) c
unfolding with_byte
other_longer w c e = record { set = rw e; good = rw e; point = rw e }

-- the pieces from a byte on
cut_by : (c : ℕ) (r : List ℕ) → cut is_comma (c ∷ r) ≡ (if is_comma c then [] ∷ cut is_comma r else in_first c (cut is_comma r))
unfolding cut
cut_by c r = refl

-- the points from the first on
points_by : (s : ℕ) (p : List ℕ) (a : All IsByte p) (ps : List (List ℕ)) → are_points s (p ∷ ps) ≡ (new p a s && are_points (with_of s (value_of p)) ps)
unfolding are_points
points_by s p a ps = refl

set_by_lem : (s : ℕ) (p : List ℕ) (ps : List (List ℕ)) → set_from s (p ∷ ps) ≡ set_from (with_of s (value_of p)) ps
unfolding set_from
set_by_lem s p ps = refl

bytes_by : (w : Word) (c : ℕ) (r : List ℕ) → with_bytes w (c ∷ r) ≡ with_bytes (with_byte w c) r
unfolding with_bytes
bytes_by w c r = refl

-- a point behind a comma
module _ (w : Word) (p : List ℕ) (a : All IsByte p) (k : w.point ≡ with_all fresh p) (c : ℕ) (r : List ℕ) (q : is_comma c ≡ true) where
  comma_pieces : onto p (cut is_comma (c ∷ r)) ≡ p ∷ cut is_comma r
  comma_pieces = rw (cut_by c r, q) (onto_bare p (cut is_comma r))

  comma_points : Points (with_byte w c) [] r → Points w p (c ∷ r)
  comma_points m = go (new p a w.set) refl
    where
      v : Ended w (with_byte w c)
      v = comma_ends w c q

      good : (with_byte w c).good ≡ (w.good && new p a w.set)
      good = v.good ∙ rw (k, one_test p a w.set)

      go : (t : Bool) → new p a w.set ≡ t → Points w p (c ∷ r)
      go true e =
          let s : (with_byte w c).set ≡ with_of w.set (value_of p) = v.set ∙ rw (k, one_value p a w.set e) in
          record {
            test =
                rw (bytes_by w c r, comma_pieces, points_by w.set p a (cut is_comma r))
                (m.test ∙ rw (good, s) (sym (and_assoc w.good (new p a w.set) (are_points (with_of w.set (value_of p)) (cut is_comma r)))));
            value = λ g. rw (bytes_by w c r, comma_pieces, set_by_lem w.set p (cut is_comma r)) (m.value (rw (bytes_by w c r) at g) ∙ ap (λ (x : ℕ). set_from x (cut is_comma r)) s);
          }
      go false e =
          let n : (with_byte w c).good ≡ false = good ∙ rw e (off w.good) in
          let z : (ended (with_bytes w (c ∷ r))).good ≡ false = rw (bytes_by w c r) (m.test ∙ rw n) in
          record {
            test = z ∙ sym (rw (comma_pieces, points_by w.set p a (cut is_comma r), e) (off w.good));
            value = λ g. absurd (let y : true ≡ false = sym g ∙ z in let x : ◌≡◌ {A = ℕ} 0 1 = cc in omega arith);
          }
        where
          off : (t : Bool) → (t && false) ≡ false
          off true = refl
          off false = refl

-- a byte more of the point
other_points : (w : Word) (p : List ℕ) (c : ℕ) (r : List ℕ) → is_comma c ≡ false → Points (with_byte w c) (p ++ (c ∷ [])) r → Points w p (c ∷ r)
other_points w p c r q m =
    let v = other_longer w c q in
    let o : onto p (cut is_comma (c ∷ r)) ≡ onto (p ++ (c ∷ [])) (cut is_comma r) = rw (cut_by c r, q) (sym (onto_last p c (cut is_comma r))) in
    record {
      test = rw (bytes_by w c r, o) (m.test ∙ rw (v.good, v.set));
      value = λ g. rw (bytes_by w c r, o) (m.value (rw (bytes_by w c r) at g) ∙ ap (λ (x : ℕ). set_from x (onto (p ++ (c ∷ [])) (cut is_comma r))) v.set);
    }

points_on : (r : List ℕ) → All IsByte r → (w : Word) (p : List ℕ) → All IsByte p → w.point ≡ with_all fresh p → Points w p r
unfolding with_all
points_on [] b w p a e = last_point w p a e
points_on (c ∷ r) b w p a e = go (is_comma c) refl (λ v q h k. points_on r b.1 v q h k)
  where
    go : (t : Bool) → is_comma c ≡ t → ((v : Word) (q : List ℕ) → All IsByte q → v.point ≡ with_all fresh q → Points v q r) → Points w p (c ∷ r)
    go true q f = comma_points w p a e c r q (f (with_byte w c) [] tt (comma_ends w c q).point)
    go false q f =
        other_points w p c r q (f (with_byte w c) (p ++ (c ∷ [])) (bytes_last p c a b.0) ((other_longer w c q).point ∙ rw e (sym (with_last fresh p c))))

module _ (g : List ℕ) (a : All IsByte g) where
  abbrev all : Word
  all = with_bytes fresh_word g

  points_all : Points fresh_word [] g
  unfolding with_all
  points_all = points_on g a fresh_word [] tt refl

  none_all : none_in all.seen ≡ is_none g
  none_all = rw (word_seen fresh_word g) (says_none g a)

  pub says_set : set_in all ≡ is_set g
  says_set = rw (none_all, points_all.test)

  pub says_set_value : is_set g ≡ true → set_by all ≡ set_of g
  says_set_value e = rw none_all (go (is_none g) e)
    where
      go : (t : Bool) → (t || are_points 0 (cut is_comma g)) ≡ true → (if t then 0 else (ended all).set) ≡ (if t then 0 else set_from 0 (cut is_comma g))
      go true q = refl
      go false q = points_all.value (points_all.test ∙ q)
