-- Nothing that can be meant cannot be said: every accepted plan whose pond codes are of the shape has a text that imports as it.
-- Assumes nothing.
use mathlib.Core.Path.{◌≡◌, refl, sym, ap, ◌∙◌}
use mathlib.Core.Bool.{Bool, true, false}
use mathlib.Core.List.{List, [], ◌∷◌, ◌++◌, map, append-nil}
use Prim.Native.Nat.{ℕ, zero, suc, ◌+◌, ◌/◌, ◌%◌, ◌^◌, ◌≤◌, ◌<◌}
use native.Mathlib.Omega.{arith}
use lib.Dec.{eqb, leb}
use lib.IntN.{ℤ, pos, negsuc}
use lib.ListN.{length, get_or, length-append}
use lib.Signed.{mag}
use lib.Seq.{append_snoc}
use borrow.Author.Tests.{ne_eqb, lt-ltb, le-leb, leb-true, eqb-true, eqb-false}
use Rattle.std.specs.Prelude.{if◌then◌else◌}
use Rattle.numbers.specs.Fits.{All}
use Rattle.values.specs.Values.{is_empty, is_digit, all_digits, value_from, is_number, number_of, is_point, point_of, is_code, code_of, same, is_kind, kind_of}
use Rattle.values.proofs.Tells.{digits_snoc, value_snoc}
use Rattle.values.proofs.Digits.{digit_is, digits_unsigned, number_up, number_down}
use Rattle.fields.specs.Quoting.{columns, comma, cr, lf, act_of, with_field, fields_from, fields_of}
use Rattle.fields.specs.declared.Place.TheVariants.{Begin, Bare}
use Rattle.fields.specs.declared.Act.TheVariants.{Keep}
use Rattle.office.specs.Sheets.{begins_lf, before, pieces, without_rest, lines_of, good, readable, record_of, row_of, rows_of, taken, read_as, import_rows, import_of}
use Rattle.office.specs.Saying.{places_of, word_text, number_text, pond_text, field_texts, joined, text_of}
use Rattle.values.proofs.Tests.{both}
use Rattle.values.specs.Codes.{most_codes}
use Rattle.values.proofs.Codes.{code_text_lem}
use Rattle.records.specs.Records as records
use Rattle.records.specs.Held.{Held}
use Rattle.records.specs.declared.Record.{Record}
use Rattle.plan.specs.APlan.{plan_of}
use Rattle.plan.specs.ReplyNumbers.{check_of, is_known}
use Rattle.plan.proofs.RoundTrip.{records_of_plan}
use Rattle.plan.proofs.Accepted.{Accepted, accepted_plan}
use Rattle.office.proofs.ALines.{none_left}
use Rattle.office.proofs.Lines.{pieces_some}
use Rattle.office.proofs.Fed.{byte_field}

-- ---- bytes that stand for themselves

-- neither a comma nor a quote, a CR or an LF
record Plain (c : ℕ) : Type 0 where
  comma : c ≡ 44 → ⊥
  quote : c ≡ 34 → ⊥
  cr : c ≡ 13 → ⊥
  lf : c ≡ 10 → ⊥

-- as a minus, digits and letters are
plain_from : (c : ℕ) → 45 ≤ c → Plain c
plain_from c h = record { comma = λ q. omega arith; quote = λ q. omega arith; cr = λ q. omega arith; lf = λ q. omega arith }

plain_act : (c : ℕ) → Plain c → (act_of Begin c ≡ Keep Bare) × (act_of Bare c ≡ Keep Bare)
plain_act c p =
    let a = ne_eqb c 44 p.comma in
    let b = ne_eqb c 34 p.quote in
    let d = ne_eqb c 13 p.cr in
    let e = ne_eqb c 10 p.lf in
    (rw (b, a, d, e), rw (a, b, d, e))

-- a field of them, before a comma
field_bare : (f : List ℕ) → All Plain f → (t : List ℕ) → fields_from Bare (f ++ comma ∷ t) ≡ with_field f (fields_of t)
unfolding fields_from
field_bare [] a t = refl
field_bare (c ∷ f) a t = rw ((plain_act c a.0).1, field_bare f a.1 t) (byte_field c f (fields_of t))

field_first : (f : List ℕ) → All Plain f → (t : List ℕ) → fields_of (f ++ comma ∷ t) ≡ with_field f (fields_of t)
unfolding fields_from
field_first [] a t = refl
field_first (c ∷ f) a t = rw ((plain_act c a.0).0, field_bare f a.1 t) (byte_field c f (fields_of t))

-- and at the line's end
last_bare : (f : List ℕ) → All Plain f → fields_from Bare f ≡ columns (f ∷ [])
unfolding fields_from
last_bare [] a = refl
last_bare (c ∷ f) a = rw ((plain_act c a.0).1, last_bare f a.1)

last_first : (f : List ℕ) → All Plain f → fields_of f ≡ columns (f ∷ [])
unfolding fields_from
last_first [] a = refl
last_first (c ∷ f) a = rw ((plain_act c a.0).0, last_bare f a.1)

-- fields with commas between them
joined_fields : (f : List ℕ) (fs : List (List ℕ)) → All (All Plain) (f ∷ fs) → fields_of (joined (f ∷ fs)) ≡ columns (f ∷ fs)
unfolding joined
joined_fields f [] a = last_first f a.0
joined_fields f (g ∷ fs) a = rw (field_first f a.0 (joined (g ∷ fs)), joined_fields g fs a.1)

-- ---- lines

-- neither a CR nor an LF
Unbroken : ℕ → Type 0
Unbroken c = (c ≡ 13 → ⊥) × (c ≡ 10 → ⊥)

line_pieces : (l s : List ℕ) → All Unbroken l → pieces (l ++ cr ∷ lf ∷ s) ≡ l ∷ pieces s
unfolding pieces before begins_lf Unbroken
line_pieces [] s a = let p = pieces_some s in rw p.2
line_pieces (c ∷ l) s a = rw (line_pieces l s a.1, ne_eqb c 13 a.0.0)

line_first : (l s : List ℕ) → All Unbroken l → lines_of (l ++ cr ∷ lf ∷ s) ≡ l ∷ lines_of s
unfolding without_rest
line_first l s a = let p = pieces_some s in rw (line_pieces l s a, p.2)

joined_unbroken : (fs : List (List ℕ)) → All (All Plain) fs → All Unbroken (joined fs)
unfolding joined Unbroken
joined_unbroken [] a = tt
joined_unbroken (f ∷ []) a = plain_unbroken f a.0
  where
    plain_unbroken : (f : List ℕ) → All Plain f → All Unbroken f
    plain_unbroken [] a = tt
    plain_unbroken (c ∷ f) a = ((a.0.cr, a.0.lf), plain_unbroken f a.1)
joined_unbroken (f ∷ g ∷ fs) a = over f a.0 (joined_unbroken (g ∷ fs) a.1)
  where
    over : (f : List ℕ) → All Plain f → All Unbroken (joined (g ∷ fs)) → All Unbroken (f ++ comma ∷ joined (g ∷ fs))
    over [] a h = ((λ e. omega arith, λ e. omega arith), h)
    over (c ∷ f) a h = ((a.0.cr, a.0.lf), over f a.1 h)

-- ---- numbers

places_digits : (w n : ℕ) → all_digits (places_of w n) ≡ true
unfolding places_of all_digits
places_digits zero n = refl
places_digits (suc w) n = digits_snoc (places_of w (n / 10)) (48 + n % 10) ∙ rw (places_digits w (n / 10), digit_is n)

places_value : (w n : ℕ) → n < 10 ^ w → value_from 0 (places_of w n) ≡ n
unfolding places_of value_from
places_value zero n h = omega arith
places_value (suc w) n h =
    let l : n / 10 < 10 ^ w = omega arith in
    value_snoc 0 (places_of w (n / 10)) (48 + n % 10) ∙ rw (places_value w (n / 10) l) (omega arith)

places_length : (w n : ℕ) → length (places_of w n) ≡ w
unfolding places_of
places_length zero n = refl
places_length (suc w) n = length-append (places_of w (n / 10)) ((48 + n % 10) ∷ []) ∙ rw (places_length w (n / 10)) (omega arith)

digits_plain : (f : List ℕ) → all_digits f ≡ true → All Plain f
unfolding all_digits
digits_plain [] e = tt
digits_plain (c ∷ f) e =
    let b = both (is_digit c) (all_digits f) e in
    let l = leb-true 48 c (both (leb 48 c) (leb c 57) b.0).0 in
    (plain_from c (omega arith), digits_plain f b.1)

module _ (n : ℕ) (h : n < 256) where
  point_said : (is_point (places_of 3 n) ≡ true) × (point_of (places_of 3 n) ≡ n)
  point_said =
      let u = digits_unsigned (places_of 3 n) (places_digits 3 n) in
      let v = places_value 3 n (omega arith) in
      (rw (u.1, u.0, v, places_digits 3 n, places_length 3 n, le-leb 0 n (omega arith), lt-ltb n 256 h), rw (u.1, u.0, v))

places_some : (n : ℕ) → is_empty (places_of 10 n) ≡ false
places_some n = rw (places_length 10 n)

number_said : (z : ℤ) → mag z < 2 ^ 31 → (is_number (number_text z) ≡ true) × (number_of (number_text z) ≡ z)
number_said (pos n) h = number_up (places_of 10 n) (places_digits 10 n) (places_some n) n (places_value 10 n (omega arith)) h
number_said (negsuc n) h =
    number_down (places_of 10 (n + 1)) (places_digits 10 (n + 1)) (places_some (n + 1)) n (places_value 10 (n + 1) (omega arith) ∙ omega arith) h

number_plain : (z : ℤ) → All Plain (number_text z)
number_plain (pos n) = digits_plain (places_of 10 n) (places_digits 10 n)
number_plain (negsuc n) = (plain_from 45 (omega arith), digits_plain (places_of 10 (n + 1)) (places_digits 10 (n + 1)))

-- ---- words and codes

-- every byte of the field stands for itself, and the field says k as a kind word
record Worded (k : ℕ) : Type 0 where
  plain : All Plain (word_text k)
  known : is_kind (word_text k) ≡ true
  says : kind_of (word_text k) ≡ k

worded : (k : ℕ) → is_known (records.kind_of k) ≡ true → Worded k
unfolding kind_of same
worded k h = go (eqb k 1) refl (eqb k 2) refl (eqb k 3) refl (eqb k 4) refl h
  where
    up : {c : ℕ} → leb 45 c ≡ true → Plain c
    up {c} e = plain_from c (leb-true 45 c e)

    one : Worded 1
    one = record { plain = (up refl, (up refl, (up refl, (up refl, (up refl, tt))))); known = refl; says = refl }

    two : Worded 2
    two = record { plain = (up refl, (up refl, (up refl, (up refl, tt)))); known = refl; says = refl }

    three : Worded 3
    three = record { plain = (up refl, (up refl, (up refl, (up refl, (up refl, (up refl, (up refl, (up refl, tt)))))))); known = refl; says = refl }

    four : Worded 4
    four = record { plain = (up refl, (up refl, (up refl, (up refl, tt)))); known = refl; says = refl }

    go : (a : Bool) → eqb k 1 ≡ a → (b : Bool) → eqb k 2 ≡ b → (c : Bool) → eqb k 3 ≡ c → (d : Bool) → eqb k 4 ≡ d
        → is_known (if a then records.point else (if b then records.link else (if c then records.ordinary else (if d then records.wait else records.unknown)))) ≡ true → Worded k
    go true p b q c r d s h = rw (eqb-true k 1 p) one
    go false p true q c r d s h = rw (eqb-true k 2 q) two
    go false p false q true r d s h = rw (eqb-true k 3 r) three
    go false p false q false r true s h = rw (eqb-true k 4 s) four
    go false p false q false r false s h = absurd (let z : ◌≡◌ {A = ℕ} 0 1 = cc in omega arith)

record Ponded (n : ℕ) : Type 0 where
  plain : All Plain (pond_text n)
  known : is_code (pond_text n) ≡ true
  says : code_of (pond_text n) ≡ n

ponded : (n : ℕ) → n ≤ most_codes → Ponded n
ponded n h = go (eqb n 0) refl
  where
    go : (b : Bool) → eqb n 0 ≡ b → Ponded n
    go true p = rw (eqb-true n 0 p) (record { plain = tt; known = refl; says = refl })
    go false p =
        let one = eqb-false n 0 p in
        let c = code_text_lem n (omega arith) h in
        record {
          plain =
              rw p
              (plain_from _ (omega arith), (plain_from _ (omega arith), (plain_from _ (omega arith), (plain_from _ (omega arith), (plain_from _ (omega arith), (plain_from _ (omega arith), tt))))));
          known = rw p c.0;
          says = rw p c.1;
        }

-- ---- records and plans

-- what a record needs that can be said
record Meant (r : Record) : Type 0 where
  known : is_known (records.kind_of r.kind) ≡ true
  held : Held r
  pond : r.code ≤ most_codes

module _ (r : Record) (m : Meant r) where
  texts_plain : All (All Plain) (field_texts r)
  texts_plain =
      ((worded r.kind m.known).plain, (digits_plain (places_of 3 r.a) (places_digits 3 r.a), (digits_plain (places_of 3 r.b) (places_digits 3 r.b), (number_plain r.first, (number_plain r.second, ((ponded r.code m.pond).plain, tt))))))

  row_said : row_of (columns (field_texts r)) ≡ good r
  unfolding row_of readable record_of
  row_said =
      let w = worded r.kind m.known in
      let a = point_said r.a m.held.a in
      let b = point_said r.b m.held.b in
      let x = number_said r.first m.held.first in
      let y = number_said r.second m.held.second in
      let p = ponded r.code m.pond in
      rw (w.known, a.0, b.0, x.0, y.0, p.known, w.says, a.1, b.1, x.1, y.1, p.says)

rows_said : (rs : List Record) → All Meant rs → rows_of (lines_of (text_of rs)) ≡ map good rs
unfolding text_of
rows_said [] a = rw none_left
rows_said (r ∷ rs) a =
    rw (line_first (joined (field_texts r)) (text_of rs) (joined_unbroken (field_texts r) (texts_plain r a.0)), joined_fields (word_text r.kind) _ (texts_plain r a.0), row_said r a.0, rows_said rs a.1)

goods_read : (qs rs : List Record) → import_rows qs (map good rs) ≡ read_as (qs ++ rs)
unfolding import_rows
goods_read qs [] = ap read_as (sym (append-nil qs))
goods_read qs (r ∷ rs) = goods_read (qs ++ (r ∷ [])) rs ∙ ap read_as (append_snoc qs r rs)

each_known : (rs : List Record) → ((i : ℕ) → i < length rs → is_known (records.kind_of (get_or rs i records.blank).kind) ≡ true) → All Held rs
    → All (λ (r : Record). r.code ≤ most_codes) rs → All Meant rs
each_known [] h a b = tt
each_known (r ∷ rs) h a b =
    (record { known = h 0 (omega arith); held = a.0; pond = b.0 }, each_known rs (λ i l. h (suc i) (omega arith)) a.1 b.1)

-- Every accepted plan whose pond codes are of the shape has a text that imports as it.
pub sayable : (rs : List Record) → (check_of (plan_of rs)).number ≡ 0 → All Held rs → All (λ (r : Record). r.code ≤ most_codes) rs
    → import_of (text_of rs) ≡ taken rs
unfolding read_as
sayable rs e a b =
    let k : Accepted rs = rw (records_of_plan rs) at (accepted_plan (plan_of rs) e) in
    let m = each_known rs (λ i l. (k.each i l).known) a b in
    rw (rows_said rs m) (goods_read [] rs ∙ rw e)
