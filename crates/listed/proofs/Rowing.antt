-- The line of a record says that record. Assumes nothing.
use mathlib.Core.Path.{◌≡◌, refl, sym, ap}
use mathlib.Core.Bool.{true}
use mathlib.Core.List.{List, [], ◌∷◌, map}
use Prim.Native.Nat.{ℕ, ◌^◌, ◌<◌}
use native.Mathlib.Omega.{arith}
use lib.Dec.{eqb}
use lib.IntN.{ℤ, pos, negsuc}
use lib.Signed.{mag}
use borrow.Author.Tests.{eqb-true}
use Rattle.numbers.specs.Numbers.{is_nought}
use Rattle.numbers.specs.Fits.{All}
use Rattle.records.specs.Records as records
use Rattle.records.specs.Records.{Kind, point, link, ordinary, wait, unknown}
use Rattle.records.specs.Held.{Held}
use Rattle.records.specs.declared.Record.{Record}
use Rattle.rules.specs.OneRecord.{is_known, zeros}
use Rattle.rules.proofs.Shows.{kind_byte}
use Rattle.values.specs.Values as values
use Rattle.values.specs.Values.{same, number_of}
use Rattle.values.proofs.Tests.{both}
use Rattle.phrases.specs.Phrases.{kind_of, value_of}
use Rattle.sayings.specs.Sayings.{a_point, a_number, a_count, expected, holds, first_wrong, point_record, link_record, ordinary_record, wait_record, said_by, row_of, good}
use Rattle.sayings.specs.declared.Said.TheVariants.{Plan}
use Rattle.lines.specs.Text.{spelled, letters, decimal, piece_text, text_of}
use Rattle.lines.specs.declared.Piece.{Piece}
use Rattle.lines.specs.declared.Piece.TheVariants.{Name, Number}
use Rattle.text.specs.Words.{point_word, ordinary_word, wait_word}
use Rattle.text.specs.Lines.{signed_piece}
use Rattle.listed.specs.Listed.{link_word, record_text}
use Rattle.listed.proofs.Decimal.{decimal_below, decimal_some, decimal_solid, signed_number, signed_solid, signed_some}
use Rattle.listed.proofs.Typing.{Typed}

-- ---- words

point_word_lem : kind_of (letters point_word) ≡ 1
unfolding kind_of values.kind_of same spelled
point_word_lem = refl

link_word_lem : kind_of (letters link_word) ≡ 2
unfolding kind_of values.kind_of same spelled
link_word_lem = refl

ordinary_word_lem : kind_of (letters ordinary_word) ≡ 3
unfolding kind_of values.kind_of same spelled
ordinary_word_lem = refl

wait_word_lem : kind_of (letters wait_word) ≡ 4
unfolding kind_of values.kind_of same spelled
wait_word_lem = refl

holds_point : (n : ℕ) → n < 256 → holds a_point (decimal n) ≡ true
unfolding holds
holds_point n h = (decimal_below n (omega arith) 256 h).0

holds_count : (n : ℕ) → n < 4294967296 → holds a_count (decimal n) ≡ true
unfolding holds
holds_count n h = (decimal_below n h 4294967296 h).0

says : (n : ℕ) → n < 4294967296 → value_of (decimal n) ≡ n
says n h = (decimal_below n h 4294967296 h).1

module _ (z : ℤ) (h : mag z < 2 ^ 31) where
  holds_number : holds a_number (piece_text (signed_piece z)) ≡ true
  unfolding holds
  holds_number = (signed_number z h).0

  says_number : number_of (piece_text (signed_piece z)) ≡ z
  says_number = (signed_number z h).1

-- ---- pieces

number_typed : (n : ℕ) → Typed (Number n)
number_typed n = record { solid = decimal_solid n; some = decimal_some n }

signed_typed : (z : ℤ) → Typed (signed_piece z)
signed_typed z = record { solid = signed_solid z; some = signed_some z }

-- ---- lines

-- what is typed for a record, and that it says the record
pub record Line (r : Record) : Type 0 where
  pub first : Piece
  pub more : List Piece
  pub typed : Typed first
  pub each : All Typed more
  pub text : record_text r ≡ text_of first more
  pub row : row_of (map piece_text (first ∷ more)) ≡ good (Plan r)

nought : (z : ℤ) → is_nought z ≡ true → z ≡ pos 0
nought (pos n) e = ap pos (eqb-true n 0 e)
nought (negsuc n) e = absurd (let y : ◌≡◌ {A = ℕ} 0 1 = cc in omega arith)

module _ (r : Record) (h : Held r) where
  point_line_lem : r.kind ≡ 1 → zeros point r 0 ≡ true → Line r
  unfolding spelled row_of expected first_wrong said_by
  point_line_lem k e =
      let x = both (eqb r.b 0) _ e in
      let y = both (is_nought r.first) _ x.1 in
      let z = both (is_nought r.second) _ y.1 in
      let is : point_record r.a r.code ≡ r =
      λ i. record { kind = sym k i; a = r.a; b = sym (eqb-true r.b 0 x.0) i; first = sym (nought r.first y.0) i; second = sym (nought r.second z.0) i; code = r.code } in
      record {
        first = Name point_word;
        more = Number r.a ∷ Number r.code ∷ [];
        typed = record { solid = (omega arith, (omega arith, (omega arith, (omega arith, (omega arith, tt))))); some = refl };
        each = (number_typed r.a, (number_typed r.code, tt));
        text = rw k;
        row = rw (point_word_lem, holds_point r.a h.a, holds_count r.code h.code, says r.a (omega (arith, h.a)), says r.code h.code) (ap (λ (x : Record). good (Plan x)) is);
      }

  link_line_lem : r.kind ≡ 2 → zeros link r 0 ≡ true → Line r
  unfolding spelled row_of expected first_wrong said_by
  link_line_lem k e =
      let x = both (eqb r.code 0) _ e in
      let is : link_record r.a r.first r.second r.b ≡ r =
      λ i. record { kind = sym k i; a = r.a; b = r.b; first = r.first; second = r.second; code = sym (eqb-true r.code 0 x.0) i } in
      record {
        first = Name link_word;
        more = Number r.a ∷ signed_piece r.first ∷ signed_piece r.second ∷ Number r.b ∷ [];
        typed = record { solid = (omega arith, (omega arith, (omega arith, (omega arith, tt)))); some = refl };
        each = (number_typed r.a, (signed_typed r.first, (signed_typed r.second, (number_typed r.b, tt))));
        text = rw k;
        row =
            rw (link_word_lem, holds_point r.a h.a, holds_number r.first h.first, holds_number r.second h.second, holds_point r.b h.b, says r.a (omega (arith, h.a)), says_number r.first h.first, says_number r.second h.second, says r.b (omega (arith, h.b)))
            (ap (λ (x : Record). good (Plan x)) is);
      }

  -- of the last two kinds a second number and a code are zero
  rest : zeros ordinary r 0 ≡ true → (r.second ≡ pos 0) × (r.code ≡ 0)
  rest e =
      let x = both (is_nought r.second) _ e in
      let y = both (eqb r.code 0) _ x.1 in
      (nought r.second x.0, eqb-true r.code 0 y.0)

  ordinary_line : r.kind ≡ 3 → zeros ordinary r 0 ≡ true → Line r
  unfolding spelled row_of expected first_wrong said_by
  ordinary_line k e =
      let z = rest e in
      let is : ordinary_record r.a r.first r.b ≡ r =
      λ i. record { kind = sym k i; a = r.a; b = r.b; first = r.first; second = sym z.0 i; code = sym z.1 i } in
      record {
        first = Name ordinary_word;
        more = Number r.a ∷ signed_piece r.first ∷ Number r.b ∷ [];
        typed = record { solid = (omega arith, (omega arith, (omega arith, (omega arith, (omega arith, (omega arith, (omega arith, (omega arith, tt)))))))); some = refl };
        each = (number_typed r.a, (signed_typed r.first, (number_typed r.b, tt)));
        text = rw k;
        row =
            rw (ordinary_word_lem, holds_point r.a h.a, holds_number r.first h.first, holds_point r.b h.b, says r.a (omega (arith, h.a)), says_number r.first h.first, says r.b (omega (arith, h.b)))
            (ap (λ (x : Record). good (Plan x)) is);
      }

  wait_line : r.kind ≡ 4 → zeros wait r 0 ≡ true → Line r
  unfolding spelled row_of expected first_wrong said_by
  wait_line k e =
      let z = rest e in
      let is : wait_record r.a r.b r.first ≡ r =
      λ i. record { kind = sym k i; a = r.a; b = r.b; first = r.first; second = sym z.0 i; code = sym z.1 i } in
      record {
        first = Name wait_word;
        more = Number r.a ∷ Number r.b ∷ signed_piece r.first ∷ [];
        typed = record { solid = (omega arith, (omega arith, (omega arith, (omega arith, tt)))); some = refl };
        each = (number_typed r.a, (number_typed r.b, (signed_typed r.first, tt)));
        text = rw k;
        row =
            rw (wait_word_lem, holds_point r.a h.a, holds_point r.b h.b, holds_number r.first h.first, says r.a (omega (arith, h.a)), says r.b (omega (arith, h.b)), says_number r.first h.first)
            (ap (λ (x : Record). good (Plan x)) is);
      }

  -- A record of a known kind whose other fields are zero has a line that says it.
  pub line_of : (k : Kind) → records.kind_of r.kind ≡ k → is_known k ≡ true → zeros k r 0 ≡ true → Line r
  line_of point e n z = point_line_lem (kind_byte r.kind point refl e) z
  line_of link e n z = link_line_lem (kind_byte r.kind link refl e) z
  line_of ordinary e n z = ordinary_line (kind_byte r.kind ordinary refl e) z
  line_of wait e n z = wait_line (kind_byte r.kind wait refl e) z
  line_of unknown e n z = absurd (let y : ◌≡◌ {A = ℕ} 0 1 = cc in omega arith)
