-- Adding text to a line: a byte, the bytes of a word one by one, and the digits of a number. Assumes nothing.
use mathlib.Core.Path.{◌≡◌, refl, sym, ap, ◌∙◌}
use mathlib.Core.Bool.{Bool, true, false, cond}
use mathlib.Core.List.{List, [], ◌∷◌, ◌++◌, append_assoc, append-nil}
use Prim.Native.Nat.{ℕ, zero, suc, ◌+◌, ◌-◌, ◌*◌, ◌/◌, ◌%◌, ◌^◌, ◌≤◌, ◌<◌}
use native.Mathlib.Omega.{arith}
use native.Mathlib.Numerals.{add-one}
use lib.Dec.{eqb, ltb}
use lib.ListN.{length, drop, set, get_or, replicate, length-append, length-set, drop_of_length-le}
use lib.Seq.{drop-cons, take-append_seam, set_at, append_snoc}
use Rattle.std.proofs.lemmas.List.{drop_more}
use borrow.Author.Tests.{lt-ltb, le-ltb, eq-eqb, ne_eqb, eqb-true, eqb-false}
use Rattle.lines.specs.Text.{room, line_of, digits, decimal, spelled, letters, piece_text, more_text}
use Rattle.lines.specs.Inside.{text_in, Whole, with, RoomFor}
use Rattle.lines.specs.declared.Line.{Line}
use Rattle.lines.specs.declared.Piece.{Piece}
use Rattle.lines.specs.declared.Piece.TheVariants.{Name, Number, Below}

text_back : (ts : List ℕ) → text_in (line_of ts) ≡ ts
text_back ts = take-append_seam ts (replicate (room - length ts) 0)

whole_line : (ts : List ℕ) → length ts ≤ room → Whole (line_of ts)
whole_line ts h = record { fits = rw (text_back ts) h; same = rw (text_back ts) }

pub len_is : (l : Line) → Whole l → l.len ≡ length (text_in l)
len_is l w = ap (λ (k : Line). k.len) w.same

abbrev stored : Line → ℕ → Line
stored l b = record { len = l.len + 1; bytes = set l.bytes l.len b }

byte_on : (ts : List ℕ) (b : ℕ) → length ts < room → stored (line_of ts) b ≡ line_of (ts ++ (b ∷ []))
byte_on ts b h =
    let m : length (ts ++ (b ∷ [])) ≡ length ts + 1 = length-append ts (b ∷ []) in
    let k : room - length ts ≡ suc (room - (length ts + 1)) = omega arith in
    let rest : List ℕ = replicate (room - (length ts + 1)) 0 in
    rw (m, k, set_at ts 0 (replicate (room - (length ts + 1)) 0) b (length ts) refl, append_snoc ts b (replicate (room - (length ts + 1)) 0))

-- a byte more
pub byte_more : (l : Line) (b : ℕ) → RoomFor l (b ∷ []) → stored l b ≡ with l (b ∷ [])
byte_more l b r = ap (λ (k : Line). stored k b) r.whole.same ∙ byte_on (text_in l) b (omega (arith, r.fits))

pub with_nothing : (l : Line) → Whole l → l ≡ with l []
with_nothing l w = rw (append-nil (text_in l)) w.same

-- text after text
pub with_with : (l : Line) (ts us : List ℕ) → with (with l ts) us ≡ with l (ts ++ us)
with_with l ts us = rw (text_back (text_in l ++ ts), append_assoc (text_in l) ts us)

pub room_after : (l : Line) (ts us : List ℕ) → RoomFor l (ts ++ us) → RoomFor (with l ts) us
room_after l ts us r =
    let n = length-append (text_in l) ts in
    let m = length-append ts us in
    record {
      whole = whole_line (text_in l ++ ts) (rw n (omega (arith, m, r.fits)));
      fits = rw (text_back (text_in l ++ ts), n) (omega (arith, m, r.fits));
    }

pub room_first : (l : Line) (ts us : List ℕ) → RoomFor l (ts ++ us) → RoomFor l ts
room_first l ts us r = record { whole = r.whole; fits = omega (arith, length-append ts us, r.fits) }

-- on a line that has the text ts
pub fits_on : (ts us : List ℕ) → length ts + length us ≤ room → RoomFor (line_of ts) us
fits_on ts us h = record { whole = whole_line ts (omega arith); fits = rw (text_back ts) h }

-- a byte of a text that is to come, and what is to come after it
module _ (l : Line) (b : ℕ) (rest all : List ℕ) (e : all ≡ b ∷ rest) (r : RoomFor l all) where
  abbrev here : RoomFor l ((b ∷ []) ++ rest)
  here = rw e at r

  pub room_here : l.len < room
  room_here = omega (arith, len_is l r.whole, here.fits)

  pub room_on_byte : RoomFor (stored l b) rest
  room_on_byte = rw (byte_more l b (room_first l (b ∷ []) rest here)) (room_after l (b ∷ []) rest here)

  pub with_byte_on : with (stored l b) rest ≡ with l all
  with_byte_on =
      ap (λ (k : Line). with k rest) (byte_more l b (room_first l (b ∷ []) rest here)) ∙ with_with l (b ∷ []) rest ∙ ap (λ (ts : List ℕ). with l ts) (sym e)

pub next_of : (xs : List ℕ) (i : ℕ) → i < length xs → drop i xs ≡ get_or xs i 0 ∷ drop (i + 1) xs
next_of xs i h = rw (add-one i) (drop-cons xs i 0 h)

pub none_of : (xs : List ℕ) (i : ℕ) → length xs ≤ i → drop i xs ≡ []
none_of xs i h = drop_of_length-le xs h

-- ---- the digits of a number

-- room for more digits than there are changes nothing
digits_short : (k n : ℕ) → n < 10 ^ suc k → digits (suc k) n ≡ digits (suc (suc k)) n
unfolding digits
digits_short zero n h = rw (lt-ltb n 10 h)
digits_short (suc k) n h =
    ap (λ (ds : List ℕ). cond (ltb n 10) [] ds ++ ((48 + n % 10) ∷ [])) (digits_short k (n / 10) (omega arith))

-- one more digit, where a number has more than one
digits_more : (k n : ℕ) → 10 ≤ n → digits (suc k) n ≡ digits k (n / 10) ++ ((48 + n % 10) ∷ [])
unfolding digits
digits_more k n h = rw (le-ltb n 10 h)

digits_one : (k n : ℕ) → n < 10 → digits (suc k) n ≡ (48 + n) ∷ []
unfolding digits
digits_one k n h =
    let e : n % 10 ≡ n = omega arith in
    rw (lt-ltb n 10 h, e)

pub one_digit : (n : ℕ) → n < 10 → decimal n ≡ (48 + n) ∷ []
one_digit n h = digits_one 19 n h

pub more_digits : (n : ℕ) → 10 ≤ n → n < 2 ^ 64 → decimal n ≡ decimal (n / 10) ++ ((48 + n % 10) ∷ [])
more_digits n h f = digits_more 19 n h ∙ ap (λ (ds : List ℕ). ds ++ ((48 + n % 10) ∷ [])) (digits_short 18 (n / 10) (omega arith))

-- the digits before the last, none where that is the only one
abbrev pub front : ℕ → List ℕ
front n = cond (eqb n 0) [] (decimal n)

pub front_more : (n : ℕ) → n < 2 ^ 64 → front (n / 10) ++ ((48 + n % 10) ∷ []) ≡ decimal n
front_more n f = go (eqb (n / 10) 0) refl
  where
    go : (b : Bool) → eqb (n / 10) 0 ≡ b → cond b [] (decimal (n / 10)) ++ ((48 + n % 10) ∷ []) ≡ decimal n
    go true e =
        let small : n < 10 = omega (arith, eqb-true (n / 10) 0 e) in
        let m : n % 10 ≡ n = omega arith in
        rw m (sym (one_digit n small))
    go false e = sym (more_digits n (omega (arith, eqb-false (n / 10) 0 e)) f)

drop_set_here : (xs : List ℕ) (k d : ℕ) → k < length xs → drop k (set xs k d) ≡ d ∷ drop (suc k) xs
drop_set_here [] k d h = absurd (omega arith)
drop_set_here (x ∷ xs) zero d h = refl
drop_set_here (x ∷ xs) (suc k) d h = drop_set_here xs k d (omega arith)

-- the digits so far, of which those of `left` are still to come, in the room from a place on
pub record Sofar (n : ℕ) (digits : List ℕ) (left from : ℕ) : Type 0 where
  pub within : from < 20
  pub long : length digits ≡ 20
  pub low : left < 10 ^ from
  pub small : left < 2 ^ 64
  pub same : front left ++ drop from digits ≡ decimal n

pub first_digit : (n : ℕ) → n < 2 ^ 64 → Sofar n (set (replicate 20 0) 19 (48 + n % 10)) (n / 10) 19
first_digit n f = record { within = omega arith; long = refl; low = omega arith; small = omega arith; same = front_more n f }

module _ (n : ℕ) (digits : List ℕ) (left from : ℕ) (w : Sofar n digits left from) where
  pub more_left : (left ≡ 0 → ⊥) → 1 ≤ from
  more_left h = go from w.low
    where
      go : (k : ℕ) → left < 10 ^ k → 1 ≤ k
      go zero l = absurd (h (omega arith))
      go (suc k) l = omega arith

  pub next_digit : (left ≡ 0 → ⊥) → Sofar n (set digits (from - 1) (48 + left % 10)) (left / 10) (from - 1)
  next_digit h =
      let one = more_left h in
      let k : suc (from - 1) ≡ from = omega arith in
      let whole : decimal left ≡ front left = rw (ne_eqb left 0 h) in
      let d = drop_set_here digits (from - 1) (48 + left % 10) (omega (arith, w.long, w.within)) in
      record {
        within = omega (arith, w.within);
        long = length-set digits (from - 1) (48 + left % 10) ∙ w.long;
        low = lower from one w.low;
        small = omega (arith, w.small);
        same =
            ap (λ (xs : List ℕ). front (left / 10) ++ xs) (d ∙ ap (λ (m : ℕ). (48 + left % 10) ∷ drop m digits) k)
            ∙ sym (append_assoc (front (left / 10)) ((48 + left % 10) ∷ []) (drop from digits))
            ∙ ap (λ (xs : List ℕ). xs ++ drop from digits) (front_more left w.small ∙ whole)
            ∙ w.same;
      }
    where
      lower : (m : ℕ) → 1 ≤ m → left < 10 ^ m → left / 10 < 10 ^ (m - 1)
      lower zero o l = absurd (omega arith)
      lower (suc m) o l = let z : suc m - 1 ≡ m = omega arith in rw z (omega arith)

  pub all_digits_lem : left ≡ 0 → drop from digits ≡ decimal n
  all_digits_lem e = rw e at w.same

digit_more : (b : Bool) (ds : List ℕ) (d k : ℕ) → length ds ≤ k → length (cond b [] ds ++ (d ∷ [])) ≤ suc k
digit_more true ds d k h = omega arith
digit_more false ds d k h = omega (arith, length-append ds (d ∷ []))

-- a number has at most twenty digits
digits_few : (k n : ℕ) → length (digits k n) ≤ k
unfolding digits
digits_few zero n = omega arith
digits_few (suc k) n = digit_more (ltb n 10) (digits k (n / 10)) (48 + n % 10) k (digits_few k (n / 10))

pub few_digits : (n : ℕ) → length (decimal n) ≤ 20
few_digits n = digits_few 20 n

-- nor more than its size asks
digits_fewer : (k m n : ℕ) → n < 10 ^ suc m → length (digits k n) ≤ suc m
unfolding digits
digits_fewer zero m n f = omega arith
digits_fewer (suc k) zero n f = rw (lt-ltb n 10 f) (omega arith)
digits_fewer (suc k) (suc m) n f = digit_more (ltb n 10) (digits k (n / 10)) (48 + n % 10) (suc m) (digits_fewer k m (n / 10) (omega arith))

-- a number of thirty-two bits has at most ten digits
pub ten_digits : (n : ℕ) → n < 2 ^ 32 → length (decimal n) ≤ 10
ten_digits n f = digits_fewer 20 9 n (omega arith)

-- ---- the letters of a word

spelled_short : (k w : ℕ) → w < 256 ^ k → spelled k w ≡ spelled (suc k) w
unfolding spelled
spelled_short zero w h = rw (eq-eqb w 0 (omega arith))
spelled_short (suc k) w h = ap (λ (ls : List ℕ). cond (eqb w 0) [] (w % 256 ∷ ls)) (spelled_short k (w / 256) (omega arith))

spelled_more : (k w : ℕ) → (w ≡ 0 → ⊥) → spelled (suc k) w ≡ w % 256 ∷ spelled k (w / 256)
unfolding spelled
spelled_more k w h = rw (ne_eqb w 0 h)

pub no_letter : letters 0 ≡ []
unfolding spelled
no_letter = refl

pub more_letters : (w : ℕ) → (w ≡ 0 → ⊥) → w < 2 ^ 64 → letters w ≡ w % 256 ∷ letters (w / 256)
more_letters w h f = spelled_more 7 w h ∙ ap (λ (ls : List ℕ). w % 256 ∷ ls) (spelled_short 7 (w / 256) (omega arith))

spelled_few : (k w : ℕ) → length (spelled k w) ≤ k
unfolding spelled
spelled_few zero w = omega arith
spelled_few (suc k) w = by_test (eqb w 0) (spelled_few k (w / 256))
  where
    by_test : (b : Bool) → length (spelled k (w / 256)) ≤ k → length (cond b [] (w % 256 ∷ spelled k (w / 256))) ≤ suc k
    by_test true h = omega arith
    by_test false h = omega arith

-- a word has at most eight letters
pub few_letters : (w : ℕ) → length (letters w) ≤ 8
few_letters w = spelled_few 8 w

-- no piece is longer than twenty-one
pub few_characters : (p : Piece) → length (piece_text p) ≤ 21
few_characters (Name w) = omega (arith, few_letters w)
few_characters (Number n) = omega (arith, few_digits n)
few_characters (Below n) = omega (arith, few_digits n)

-- ---- pieces behind spaces

pub more_pieces : (p : Piece) (ps : List Piece) (k n : ℕ) → length (piece_text p) ≤ k → length (more_text ps) ≤ n → length (more_text (p ∷ ps)) ≤ 1 + k + n
unfolding more_text
more_pieces p ps k n h m = omega (arith, length-append (32 ∷ piece_text p) (more_text ps))

no_pieces : length (more_text []) ≤ 0
unfolding more_text
no_pieces = omega arith

pub few_more : (ps : List Piece) → length (more_text ps) ≤ 22 * length ps
few_more [] = no_pieces
few_more (p ∷ ps) = omega (arith, more_pieces p ps 21 (22 * length ps) (few_characters p) (few_more ps))

-- the pieces from one on
module _ (l : Line) (ps : List Piece) (i : ℕ) (h : i < length ps) (r : RoomFor l (more_text (drop i ps))) where
  abbrev here_is : Piece
  here_is = get_or ps i (Name 0)

  more_from : more_text (drop i ps) ≡ (32 ∷ []) ++ (piece_text here_is ++ more_text (drop (i + 1) ps))
  unfolding more_text
  more_from = rw (drop_more ps i (Name 0) h)

  room_on : RoomFor l ((32 ∷ []) ++ (piece_text here_is ++ more_text (drop (i + 1) ps)))
  room_on = rw more_from at r

  pub room_space : RoomFor l (32 ∷ [])
  room_space = room_first l (32 ∷ []) (piece_text here_is ++ more_text (drop (i + 1) ps)) room_on

  behind_space : RoomFor (with l (32 ∷ [])) (piece_text here_is ++ more_text (drop (i + 1) ps))
  behind_space = room_after l (32 ∷ []) (piece_text here_is ++ more_text (drop (i + 1) ps)) room_on

  pub room_piece : RoomFor (with l (32 ∷ [])) (piece_text here_is)
  room_piece = room_first (with l (32 ∷ [])) (piece_text here_is) (more_text (drop (i + 1) ps)) behind_space

  pub room_rest : RoomFor (with (with l (32 ∷ [])) (piece_text here_is)) (more_text (drop (i + 1) ps))
  room_rest = room_after (with l (32 ∷ [])) (piece_text here_is) (more_text (drop (i + 1) ps)) behind_space

  pub with_one : with (with (with l (32 ∷ [])) (piece_text here_is)) (more_text (drop (i + 1) ps)) ≡ with l (more_text (drop i ps))
  with_one =
      with_with (with l (32 ∷ [])) (piece_text here_is) (more_text (drop (i + 1) ps))
      ∙ with_with l (32 ∷ []) (piece_text here_is ++ more_text (drop (i + 1) ps))
      ∙ ap (λ (ts : List ℕ). with l ts) (sym more_from)

-- past the last there is nothing
pub no_more : (ps : List Piece) (i : ℕ) → length ps ≤ i → more_text (drop i ps) ≡ []
unfolding more_text
no_more ps i h = rw (drop_of_length-le ps h)
