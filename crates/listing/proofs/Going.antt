-- The loops over the lines: what holds between two of them, that it holds at the start, that a line more keeps it, and what it gives
-- at a bad line and at the text's end. Assumes nothing.
use mathlib.Core.Path.{◌≡◌, refl, sym, ap, ◌∙◌}
use mathlib.Core.List.{List, [], ◌∷◌, ◌++◌, append-nil, append_assoc}
use Prim.Native.Nat.{ℕ, suc, ◌+◌, ◌*◌, ◌≤◌, ◌<◌}
use native.Mathlib.Omega.{arith}
use native.Mathlib.Numerals.{add-one}
use lib.ListN.{length, take, drop, length-append, length-drop, drop_of_length-le}
use lib.Seq.{paste, drop-length, drop-drop, take_all, take_at, drop-append-add}
use borrow.Author.Tests.{le-ltb}
use Rattle.std.specs.Prelude.{Result, Ok, Err}
use Rattle.std.specs.Result.{IsOkAnd}
use Rattle.records.specs.Limits.{record_bytes}
use Rattle.records.specs.Bytes.{bytes_of}
use Rattle.phrases.specs.Phrases.{cut, filled, without_crs, uncommented, lines_of}
use Rattle.phrases.specs.Inside.{line_end, first_line}
use Rattle.phrases.proofs.Lines.{Left, none, more, left_of, end_moves, end_within}
use Rattle.sayings.specs.Sayings.{Row, bad, good, row_of}
use Rattle.sayings.specs.Inside.{as_told}
use Rattle.sayings.specs.declared.Said.{Said}
use Rattle.sayings.specs.declared.Said.TheVariants.{Nothing, Plan, Mark, Event}
use Rattle.listing.specs.Listing.{line_row, bytes_said, Outcome, refused, listed, in_front, behind, outcome, outcome_of, all_said, refusal, written}
use Rattle.listing.specs.Inside.{line_at, one_if, scanned, put_of}
use Rattle.listing.specs.declared.Line.{Line}

-- ---- what a result is

module _ {A B : Type 0} where
  pub ok_not_err : {x : A} {y : B} → Ok x ≡ Err y → ⊥
  ok_not_err e = absurd (let z : ◌≡◌ {A = ℕ} 0 1 = ap code e in omega arith)
    where
      code : Result A B → ℕ
      code (Ok x) = 0
      code (Err y) = 1

  pub ok_is : {x y : A} → ◌≡◌ {A = Result A B} (Ok x) (Ok y) → x ≡ y
  ok_is {x} e = ap value e
    where
      value : Result A B → A
      value (Ok z) = z
      value (Err z) = x

  pub err_is : {x y : B} → ◌≡◌ {A = Result A B} (Err x) (Err y) → x ≡ y
  err_is {x} e = ap value e
    where
      value : Result A B → B
      value (Ok z) = x
      value (Err z) = z

-- ---- the outcome, line by line

-- an empty line changes nothing
empty_last : (n : ℕ) → outcome n (lines_of []) ≡ listed []
unfolding outcome cut without_crs uncommented filled row_of
empty_last n = refl

pub outcome_by : (n : ℕ) (l : List ℕ) (ls : List (List ℕ)) → outcome n (l ∷ ls) ≡ behind n (line_row l) (outcome (suc n) ls)
unfolding outcome
outcome_by n l ls = refl

pub outcome_end : (n : ℕ) → outcome n [] ≡ listed []
unfolding outcome
outcome_end n = refl

-- the first line and those behind it
outcome_first : (n : ℕ) (s : List ℕ) → outcome n (lines_of s) ≡ behind n (line_row (first_line s)) (outcome (suc n) (lines_of (drop (line_end 0 s) s)))
outcome_first n s = go (left_of s)
  where
    go : Left s → outcome n (lines_of s) ≡ behind n (line_row (first_line s)) (outcome (suc n) (lines_of (drop (line_end 0 s) s)))
    go (more p) = ap (outcome n) p ∙ outcome_by n (first_line s) (lines_of (drop (line_end 0 s) s))
    go (none p q) =
        let d : drop (line_end 0 s) s ≡ [] = rw q (drop-length s) in
        ap (outcome n) p ∙ outcome_by n (first_line s) [] ∙ rw (d, outcome_end (suc n), empty_last (suc n))

-- what was said before in front of an outcome
abbrev pub before : List Said → Outcome → Outcome
before xs (refused k n) = refused k n
before xs (listed ys) = listed (xs ++ ys)

before_none : (o : Outcome) → o ≡ before [] o
before_none (refused k n) = refl
before_none (listed ys) = refl

one_front : (x : Said) (ys : List Said) → in_front x ys ≡ in_front x [] ++ ys
one_front Nothing ys = refl
one_front (Plan r) ys = refl
one_front Mark ys = refl
one_front (Event m p s) ys = refl

before_good : (xs : List Said) (n : ℕ) (x : Said) (o : Outcome) → before xs (behind n (good x) o) ≡ before (xs ++ in_front x []) o
before_good xs n x (refused k m) = refl
before_good xs n x (listed ys) = ap listed (rw (one_front x ys) (sym (append_assoc xs (in_front x []) ys)))

pub one_length : (x : Said) → length (in_front x []) ≡ one_if x
one_length Nothing = refl
one_length (Plan r) = refl
one_length Mark = refl
one_length (Event m p s) = refl

-- after so many lines, up to place `at`, which said xs
pub record Goes (text : List ℕ) (at lines : ℕ) (xs : List Said) : Type 0 where
  pub rest : outcome_of text ≡ before xs (outcome (lines + 1) (lines_of (drop at text)))
  pub within : at ≤ length text
  pub low : lines ≤ at
  pub few : length xs ≤ lines

pub goes_start : (text : List ℕ) → Goes text 0 0 []
goes_start text = record { rest = before_none (outcome 1 (lines_of text)); within = omega arith; low = omega arith; few = omega arith }

module _ (text : List ℕ) (at lines : ℕ) (xs : List Said) (g : Goes text at lines xs) where
  pub goes_end : length text ≤ at → outcome_of text ≡ listed xs
  goes_end h = g.rest ∙ rw (drop_of_length-le text h, empty_last (lines + 1), append-nil xs)

  module _ (h : at < length text) (l : Line) (e : l ≡ line_at at (drop at text)) where
    abbrev s : List ℕ
    s = drop at text

    abbrev behind_it : Outcome
    behind_it = outcome (suc (lines + 1)) (lines_of (drop (line_end 0 s) s))

    first : outcome_of text ≡ before xs (behind (lines + 1) (line_row (first_line s)) behind_it)
    first = g.rest ∙ ap (before xs) (outcome_first (lines + 1) s)

    row : l.said ≡ as_told (line_row (first_line s))
    row = ap (λ (m : Line). m.said) e

    -- a line that is not good: its number, and the line
    pub goes_bad : (k : ℕ) → l.said ≡ Err k → refusal k (lines + 1) ≡ scanned (outcome_of text)
    goes_bad k n = go (line_row (first_line s)) (sym n ∙ row) first
      where
        go : (r : Row) → Err k ≡ as_told r → outcome_of text ≡ before xs (behind (lines + 1) r behind_it) → refusal k (lines + 1) ≡ scanned (outcome_of text)
        go (bad i) p f = rw (f, err_is p)
        go (good x) p f = absurd (ok_not_err (sym p))

    -- a good one: what it says comes behind xs
    pub record More (x : Said) : Type 0 where
      pub past : at < l.next
      pub next : Goes text l.next (lines + 1) (xs ++ in_front x [])

    pub goes_more : (x : Said) → l.said ≡ Ok x → More x
    goes_more y z = go (line_row (first_line s)) (sym z ∙ row) first
      where
        end : l.next ≡ at + line_end 0 s
        end = ap (λ (m : Line). m.next) e ∙ end_moves at s

        d : drop (line_end 0 s) s ≡ drop l.next text
        d = rw end (drop-drop (line_end 0 s) at text)

        go : (r : Row) → Ok y ≡ as_told r → outcome_of text ≡ before xs (behind (lines + 1) r behind_it) → More y
        go (bad k) q f = absurd (ok_not_err q)
        go (good x) q f =
            let w = end_within s in
            let ls = length-drop at text in
            let one : 1 ≤ line_end 0 s = w.1 (omega arith) in
            let lo = g.low in
            let fe = g.few in
            let le = length-append xs (in_front x []) in
            let on = one_length x in
            let ol = one_le x in
            let k : outcome_of text ≡ before (xs ++ in_front x []) (outcome (lines + 1 + 1) (lines_of (drop l.next text))) =
            rw (add-one (lines + 1), ← d) (f ∙ before_good xs (lines + 1) x behind_it) in
            record {
              past = omega (arith, end);
              next = rw (ok_is q) (record { rest = k; within = omega (arith, end, w.0); low = omega (arith, end); few = omega arith });
            }
          where
            one_le : (x : Said) → one_if x ≤ 1
            one_le Nothing = omega arith
            one_le (Plan r) = omega arith
            one_le Mark = omega arith
            one_le (Event m p s) = omega arith

-- ---- counting

pub record Counted (text : List ℕ) (at lines records : ℕ) : Type 0 where
  pub done : List Said
  pub goes : Goes text at lines done
  pub count : records ≡ length done

pub counted_start : (text : List ℕ) → Counted text 0 0 0
counted_start text = record { done = []; goes = goes_start text; count = refl }

module _ (text : List ℕ) (at lines records : ℕ) (c : Counted text at lines records) where
  pub counted_end : length text ≤ at → Ok records ≡ scanned (outcome_of text)
  counted_end h = rw (goes_end text at lines c.done c.goes h, c.count)

  module _ (h : at < length text) (l : Line) (e : l ≡ line_at at (drop at text)) where
    pub counted_bad : (k : ℕ) → l.said ≡ Err k → refusal k (lines + 1) ≡ scanned (outcome_of text)
    counted_bad k n = goes_bad text at lines c.done c.goes h l e k n

    pub record CountedMore (m : ℕ) : Type 0 where
      pub past : at < l.next
      pub next : Counted text l.next (lines + 1) (records + m)

    pub counted_more : (x : Said) → l.said ≡ Ok x → (m : ℕ) → m ≡ one_if x → CountedMore m
    counted_more x z m q =
        let g = goes_more text at lines c.done c.goes h l e x z in
        record {
          past = g.past;
          next =
              record {
                done = c.done ++ in_front x [];
                goes = g.next;
                count = rw (length-append c.done (in_front x []), one_length x, q, c.count);
              };
        }

-- ---- writing

-- a text without a bad line says something, for which there is room
pub record Whole (text out : List ℕ) : Type 0 where
  pub all : List Said
  pub says : outcome_of text ≡ listed all
  pub room : record_bytes * length all ≤ length out

whole_of : (text out : List ℕ) → IsOkAnd (scanned (outcome_of text)) (λ n. record_bytes * n ≤ length out) → Whole text out
whole_of text out z = go (outcome_of text) refl z
  where
    go : (o : Outcome) → outcome_of text ≡ o → IsOkAnd (scanned o) (λ n. record_bytes * n ≤ length out) → Whole text out
    go (refused k n) e q = absurd q
    go (listed xs) e q = record { all = xs; says = e; room = q }

all_append_said : (xs ys : List Said) → all_said (xs ++ ys) ≡ all_said xs ++ all_said ys
unfolding all_said
all_append_said [] ys = refl
all_append_said (x ∷ xs) ys = ap (λ (t : List ℕ). bytes_said x ++ t) (all_append_said xs ys) ∙ sym (append_assoc (bytes_said x) (all_said xs) (all_said ys))

all_one : (x : Said) → all_said (x ∷ []) ≡ bytes_said x
unfolding all_said
all_one x = append-nil (bytes_said x)

all_none : all_said [] ≡ []
unfolding all_said
all_none = refl

-- sixteen bytes for each line that has words
pub sixteen : (x : Said) → length (bytes_said x) ≡ record_bytes * one_if x
unfolding bytes_of
sixteen Nothing = refl
sixteen (Plan r) = refl
sixteen Mark = refl
sixteen (Event m p s) = refl

-- the buffer after the records xs
abbrev buffer_of : List Said → List ℕ → List ℕ
buffer_of xs out = all_said xs ++ drop (record_bytes * length xs) out

paste_next : (a e out : List ℕ) (k : ℕ) → length a ≡ record_bytes * k → length e ≡ record_bytes
    → paste (a ++ drop (record_bytes * k) out) (record_bytes * k) e record_bytes ≡ (a ++ e) ++ drop (record_bytes * (k + 1)) out
paste_next a e out k n l =
    let i : record_bytes * k + record_bytes ≡ record_bytes * (k + 1) = omega arith in
    let t : take record_bytes e ≡ e = take_all record_bytes e (omega arith) in
    let d : drop (record_bytes * k + record_bytes) (a ++ drop (record_bytes * k) out) ≡ drop (record_bytes * (k + 1)) out =
    rw n at (drop-append-add a (drop (record_bytes * k) out) record_bytes)
    ∙ drop-drop record_bytes (record_bytes * k) out
    ∙ ap (λ (j : ℕ). drop j out) i in
    rw (take_at a (drop (record_bytes * k) out) (record_bytes * k) n, t, d)

-- a record more
put_record : (xs : List Said) (x : Said) (out : List ℕ) → length (all_said xs) ≡ record_bytes * length xs → length (bytes_said x) ≡ record_bytes
    → paste (buffer_of xs out) (record_bytes * length xs) (bytes_said x) record_bytes ≡ buffer_of (xs ++ (x ∷ [])) out
put_record xs x out n l =
    let k : length (xs ++ (x ∷ [])) ≡ length xs + 1 = length-append xs (x ∷ []) in
    rw (k, all_append_said xs (x ∷ []), all_one x) (paste_next (all_said xs) (bytes_said x) out (length xs) n l)

pub put_next : (xs : List Said) (x : Said) (out : List ℕ) → length (all_said xs) ≡ record_bytes * length xs
    → put_of (buffer_of xs out) (record_bytes * length xs) x ≡ buffer_of (xs ++ in_front x []) out
put_next xs Nothing out n = rw (append-nil xs)
put_next xs (Plan r) out n = put_record xs (Plan r) out n (sixteen (Plan r))
put_next xs Mark out n = put_record xs Mark out n (sixteen Mark)
put_next xs (Event m p s) out n = put_record xs (Event m p s) out n (sixteen (Event m p s))

sizes : (xs : List Said) (x : Said) → length (all_said xs) ≡ record_bytes * length xs → length (all_said (xs ++ in_front x [])) ≡ record_bytes * length (xs ++ in_front x [])
sizes xs x n =
    let a : length (all_said (xs ++ in_front x [])) ≡ length (all_said xs) + length (all_said (in_front x [])) =
    ap length (all_append_said xs (in_front x [])) ∙ length-append (all_said xs) (all_said (in_front x [])) in
    let b = length-append xs (in_front x []) in
    let o = one_length x in
    let t : length (all_said (in_front x [])) ≡ record_bytes * one_if x = one x in
    omega arith
  where
    one : (x : Said) → length (all_said (in_front x [])) ≡ record_bytes * one_if x
    one Nothing = ap length all_none
    one (Plan r) = ap length (all_one (Plan r)) ∙ sixteen (Plan r)
    one Mark = ap length (all_one Mark) ∙ sixteen Mark
    one (Event m p s) = ap length (all_one (Event m p s)) ∙ sixteen (Event m p s)

-- what was said before is a front of all
front_of : (xs : List Said) (o : Outcome) (all : List Said) → listed all ≡ before xs o → length xs ≤ length all
front_of xs (refused k n) all e = absurd (let y : ◌≡◌ {A = ℕ} 0 1 = cc in omega arith)
front_of xs (listed ys) all e =
    let z : length all ≡ length (xs ++ ys) = ap count e in
    let l = length-append xs ys in
    omega arith
  where
    count : Outcome → ℕ
    count (refused k n) = 0
    count (listed zs) = length zs

pub record Wrote (text out₀ out : List ℕ) (to at : ℕ) : Type 0 where
  pub done : List Said
  pub lines : ℕ
  pub goes : Goes text at lines done
  pub whole : Whole text out₀
  pub size : length (all_said done) ≡ record_bytes * length done
  pub place : to ≡ record_bytes * length done
  pub bytes : out ≡ buffer_of done out₀
  pub same : length out ≡ length out₀

pub wrote_start : (text out : List ℕ) → IsOkAnd (scanned (outcome_of text)) (λ n. record_bytes * n ≤ length out) → Wrote text out out 0 0
unfolding all_said
wrote_start text out z =
    record {
      done = [];
      lines = 0;
      goes = goes_start text;
      whole = whole_of text out z;
      size = refl;
      place = refl;
      bytes = refl;
      same = refl;
    }

module _ (text out₀ out : List ℕ) (to at : ℕ) (w : Wrote text out₀ out to at) where
  pub wrote_end : length text ≤ at → out ≡ written out₀ (outcome_of text)
  wrote_end h =
      let e = goes_end text at w.lines w.done w.goes h in
      let k : length w.whole.all ≡ length w.done = ap count (sym w.whole.says ∙ e) in
      let r = w.whole.room in
      w.bytes ∙ rw (e, le-ltb (length out₀) (record_bytes * length w.done) (omega arith))
    where
      count : Outcome → ℕ
      count (refused k n) = 0
      count (listed zs) = length zs

  module _ (h : at < length text) (l : Line) (e : l ≡ line_at at (drop at text)) where
    -- no line of it is bad
    pub none_bad : (k : ℕ) → l.said ≡ Err k → ⊥
    none_bad k n = ok_not_err (sym (goes_bad text at w.lines w.done w.goes h l e k n ∙ ap scanned w.whole.says))

    pub record WroteMore (x : Said) : Type 0 where
      pub past : at < l.next
      pub fits : to + record_bytes * one_if x ≤ length out
      pub next : (o : List ℕ) → o ≡ put_of out to x → length o ≡ length out → (m : ℕ) → m ≡ one_if x → Wrote text out₀ o (to + record_bytes * m) l.next

    pub wrote_more : (x : Said) → l.said ≡ Ok x → WroteMore x
    wrote_more x z =
        let g = goes_more text at w.lines w.done w.goes h l e x z in
        let f = front_of (w.done ++ in_front x []) (outcome (w.lines + 1 + 1) (lines_of (drop l.next text))) w.whole.all (sym w.whole.says ∙ g.next.rest) in
        let n = length-append w.done (in_front x []) in
        let o1 = one_length x in
        let r = w.whole.room in
        let p = w.place in
        let s = w.same in
        record {
          past = g.past;
          fits = omega arith;
          next = λ o q v m i.
              record {
                done = w.done ++ in_front x [];
                lines = w.lines + 1;
                goes = g.next;
                whole = w.whole;
                size = sizes w.done x w.size;
                place = omega arith;
                bytes = q ∙ rw (w.bytes, w.place) (put_next w.done x out₀ w.size);
                same = v ∙ w.same;
              };
        }
