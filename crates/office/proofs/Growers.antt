-- What the growers' office is promised. An accepted text gives a plan with a record for each line, which the file reader accepts.
-- A line that is bad stops the import there or before. In the column of pond codes nothing but a code, two capital letters and four
-- digits, or nothing at all, is ever let through: a date has another shape, so it stops the import. Assumes nothing.
use mathlib.Core.Path.{◌≡◌, refl, sym, ap, ◌∙◌}
use mathlib.Core.Bool.{Bool, true, false, ◌&&◌, not}
use mathlib.Core.List.{List, [], ◌∷◌, ◌++◌, map, append-nil}
use Prim.Native.Nat.{ℕ, zero, suc, ◌+◌, ◌≤◌, ◌<◌}
use native.Mathlib.Omega.{arith}
use lib.Dec.{eqb}
use lib.ListN.{length, get_or, length-append, length-map}
use lib.Seq.{append_snoc}
use borrow.Author.Tests.{eqb-true}
use Rattle.std.specs.Prelude.{if◌then◌else◌}
use Rattle.numbers.specs.Fits.{All}
use Rattle.values.proofs.Tests.{both}
use Rattle.values.proofs.Fit.{kind_fits, point_fits, number_fits, code_fits}
use Rattle.records.specs.Records.{blank}
use Rattle.records.specs.Held.{Held}
use Rattle.records.specs.declared.Record.{Record}
use Rattle.plan.specs.APlan.{plan_of, records_of}
use Rattle.plan.specs.ReplyNumbers.{refusal, check_of}
use Rattle.plan.proofs.Holding.{plan_held}
use Rattle.plan.proofs.RoundTrip.{records_of_plan, checked_count, names_no_place, reads_as_checked, written_reads_whole}
use Rattle.office.specs.Sheets.{Columns, broken, columns, fields_of, lines_of, Row, bad, good, column, is_kind, is_point, is_number, is_code, readable, record_of, row_of, line_row, rows_of, refused, taken, read_as, import_rows, import_of}
use Rattle.office.specs.Promised.{line_of, Says, Imports, StopsBy}
use Rattle.std.specs.Prelude.{Result, Ok, Err}
use Rattle.office.specs.declared.Refused.{Refused}
use Rattle.plan.specs.declared.Plan.{Plan}

-- ---- one line

-- a good line's six columns
record Six (l : List ℕ) (r : Record) : Type 0 where
  fields : List (List ℕ)
  line : fields_of l ≡ columns fields
  six : length fields ≡ 6
  reads : readable fields ≡ true
  pond : is_code (column 5 fields) ≡ true
  is : r ≡ record_of fields

-- what its row says of some columns
row_good : (fs : List (List ℕ)) (r : Record) → row_of (columns fs) ≡ good r
    → (length fs ≡ 6) × (readable fs ≡ true) × (is_code (column 5 fs) ≡ true) × (r ≡ record_of fs)
unfolding row_of
row_good fs r e = go (eqb (length fs) 6) refl (readable fs) refl (is_code (column 5 fs)) refl e
  where
    go : (a : Bool) → eqb (length fs) 6 ≡ a → (b : Bool) → readable fs ≡ b → (c : Bool) → is_code (column 5 fs) ≡ c
        → (if not a then bad 41 else (if not b then bad 42 else (if not c then bad 43 else good (record_of fs)))) ≡ good r
        → (length fs ≡ 6) × (readable fs ≡ true) × (is_code (column 5 fs) ≡ true) × (r ≡ record_of fs)
    go true p true q true s e = (eqb-true (length fs) 6 p, q, s, cc)
    go true p true q false s e = absurd (let z : ◌≡◌ {A = ℕ} 0 1 = cc in omega arith)
    go true p false q c s e = absurd (let z : ◌≡◌ {A = ℕ} 0 1 = cc in omega arith)
    go false p b q c s e = absurd (let z : ◌≡◌ {A = ℕ} 0 1 = cc in omega arith)

line_good : (l : List ℕ) (r : Record) → line_row l ≡ good r → Six l r
unfolding row_of
line_good l r e = go (fields_of l) refl e
  where
    go : (c : Columns) → fields_of l ≡ c → row_of c ≡ good r → Six l r
    go broken p q = absurd (let z : ◌≡◌ {A = ℕ} 0 1 = cc in omega arith)
    go (columns fs) p q =
        let t = row_good fs r q in
        record { fields = fs; line = p; six = t.0; reads = t.1; pond = t.2; is = t.3 }

-- a bad line's number
pub bad_number : (c : Columns) (n : ℕ) → row_of c ≡ bad n → (40 ≤ n) × (n ≤ 43)
unfolding row_of
bad_number broken n e = let z : 40 ≡ n = cc in (omega arith, omega arith)
bad_number (columns fs) n e = go (eqb (length fs) 6) (readable fs) (is_code (column 5 fs)) e
  where
    go : (a b c : Bool) → (if not a then bad 41 else (if not b then bad 42 else (if not c then bad 43 else good (record_of fs)))) ≡ bad n → (40 ≤ n) × (n ≤ 43)
    go true true true e = absurd (let z : ◌≡◌ {A = ℕ} 0 1 = cc in omega arith)
    go true true false e = let z : 43 ≡ n = cc in (omega arith, omega arith)
    go true false c e = let z : 42 ≡ n = cc in (omega arith, omega arith)
    go false b c e = let z : 41 ≡ n = cc in (omega arith, omega arith)

-- a record of a good line fits a file
record_held : (l : List ℕ) (r : Record) → Six l r → Held r
unfolding record_of readable
record_held l r s =
    let fs = s.fields in
    let q = (both (is_kind (column 0 fs)) _ s.reads).1 in
    let points = both (is_point (column 1 fs)) (is_point (column 2 fs)) (both (is_point (column 1 fs) && is_point (column 2 fs)) _ q).0 in
    let numbers = both (is_number (column 3 fs)) (is_number (column 4 fs)) (both (is_point (column 1 fs) && is_point (column 2 fs)) _ q).1 in
    rw s.is
    (record {
      kind = kind_fits (column 0 fs);
      a = point_fits (column 1 fs) points.0;
      b = point_fits (column 2 fs) points.1;
      first = number_fits (column 3 fs) numbers.0;
      second = number_fits (column 4 fs) numbers.1;
      code = code_fits (column 5 fs) s.pond;
    })

-- ---- all lines

-- every line is good, and these are the records
record Goods (rs : List Record) (ls : List (List ℕ)) : Type 0 where
  records : List Record
  rows : rows_of ls ≡ map good records
  answer : import_rows rs (rows_of ls) ≡ read_as (rs ++ records)

goods_one : (rs : List Record) (l : List ℕ) (ls : List (List ℕ)) (r : Record) → line_row l ≡ good r → Goods (rs ++ (r ∷ [])) ls → Goods rs (l ∷ ls)
unfolding import_rows
goods_one rs l ls r e g =
    record {
      records = r ∷ g.records;
      rows = rw (e, g.rows);
      answer = rw e (g.answer ∙ ap read_as (append_snoc rs r g.records));
    }

goods : (rs : List Record) (ls : List (List ℕ)) (p : Plan) → import_rows rs (rows_of ls) ≡ Ok p → Goods rs ls
unfolding import_rows
goods rs [] p e = record { records = []; rows = refl; answer = ap read_as (sym (append-nil rs)) }
goods rs (l ∷ ls) p e = go (line_row l) refl e (λ r. goods (rs ++ (r ∷ [])) ls p)
  where
    go : (x : Row) → line_row l ≡ x → import_rows rs (x ∷ rows_of ls) ≡ Ok p
        → ((r : Record) → import_rows (rs ++ (r ∷ [])) (rows_of ls) ≡ Ok p → Goods (rs ++ (r ∷ [])) ls) → Goods rs (l ∷ ls)
    go (bad n) i q h = absurd (let z : ◌≡◌ {A = ℕ} 0 1 = cc in omega arith)
    go (good r) i q h = goods_one rs l ls r i (h r q)

-- the k-th line is the k-th record
goods_at : (ls : List (List ℕ)) (rs : List Record) → rows_of ls ≡ map good rs → (k : ℕ) → k < length ls → line_row (get_or ls k []) ≡ good (get_or rs k blank)
goods_at [] rs e k h = absurd (omega arith)
goods_at (l ∷ ls) [] e k h = absurd (let z : ◌≡◌ {A = ℕ} 0 1 = cc in omega arith)
goods_at (l ∷ ls) (r ∷ rs) e zero h = cc
goods_at (l ∷ ls) (r ∷ rs) e (suc k) h = goods_at ls rs (cc) k (omega arith)

goods_held : (ls : List (List ℕ)) (rs : List Record) → rows_of ls ≡ map good rs → All Held rs
goods_held ls [] e = tt
goods_held [] (r ∷ rs) e = absurd (let z : ◌≡◌ {A = ℕ} 0 1 = cc in omega arith)
goods_held (l ∷ ls) (r ∷ rs) e = (record_held l r (line_good l r (cc)), goods_held ls rs (cc))

-- what is read without a refusal
read_as_lem : (rs : List Record) (p : Plan) → read_as rs ≡ Ok p → ((check_of (plan_of rs)).number ≡ 0) × (p ≡ plan_of rs)
unfolding read_as
read_as_lem rs p e = go (eqb (check_of (plan_of rs)).number 0) refl e
  where
    plan : Result Plan Refused → Plan
    plan (Ok x) = x
    plan (Err x) = p

    go : (b : Bool) → eqb (check_of (plan_of rs)).number 0 ≡ b → (if b then taken rs else refused (check_of (plan_of rs))) ≡ Ok p
        → ((check_of (plan_of rs)).number ≡ 0) × (p ≡ plan_of rs)
    go true i q = (eqb-true _ 0 i, sym (ap plan q))
    go false i q = absurd (let y : ◌≡◌ {A = ℕ} 0 1 = cc in omega arith)

says : (s : List ℕ) (k : ℕ) (r : Record) → Six (line_of k s) r → Says s k r
unfolding record_of readable
says s k r x =
    let fs = x.fields in
    record {
      fields = fs;
      line = x.line;
      six = x.six;
      word = (both (is_kind (column 0 fs)) _ x.reads).0;
      kind = ap (λ (r : Record). r.kind) x.is;
      a = ap (λ (r : Record). r.a) x.is;
      b = ap (λ (r : Record). r.b) x.is;
      first = ap (λ (r : Record). r.first) x.is;
      second = ap (λ (r : Record). r.second) x.is;
      pond = x.pond;
      code = ap (λ (r : Record). r.code) x.is;
    }

imports : (s : List ℕ) (rs : List Record) → rows_of (lines_of s) ≡ map good rs → (check_of (plan_of rs)).number ≡ 0 → Imports s (plan_of rs)
imports s rs g c =
    let few = (checked_count (plan_of rs) c).1 in
    let h = plan_held rs (goods_held (lines_of s) rs g) few in
    let n : length (lines_of s) ≡ length rs = sym (length-map (lines_of s) line_row) ∙ ap length g ∙ length-map rs good in
    let r = records_of_plan rs in
    let back : plan_of rs ≡ plan_of (records_of (plan_of rs)) = ap plan_of (sym r) in
    let file = reads_as_checked (plan_of rs) h few in
    record {
      count = sym n;
      says = λ k l. rw r (says s k (get_or rs k blank) (line_good (line_of k s) (get_or rs k blank) (goods_at (lines_of s) rs g k l)));
      checked = names_no_place (plan_of rs) c;
      number = rw (file, c);
      reads = rw (file, c) (sym back);
      written = λ out e. written_reads_whole (plan_of rs) h back out e;
    }

-- An accepted text: a record for each line, the k-th line's fields being the k-th record's, and the file reader accepts the plan.
pub accepted_imports : (s : List ℕ) (p : Plan) → import_of s ≡ Ok p → Imports s p
accepted_imports s p e =
    let g = goods [] (lines_of s) p e in
    let rs = g.records in
    let c = read_as_lem rs p (sym g.answer ∙ e) in
    rw c.1 (imports s rs g.rows c.0)

-- ---- a bad line

-- the answer behind the records rs, where line k of the rest is bad
record Stopped (rs : List Record) (x : Result Plan Refused) (k : ℕ) : Type 0 where
  refusal : Refused
  refuses : x ≡ Err refusal
  from : 40 ≤ refusal.number
  to : refusal.number ≤ 43
  line : refusal.line ≤ length rs + k

stopped : (rs : List Record) (ls : List (List ℕ)) (k n : ℕ) → k < length ls → line_row (get_or ls k []) ≡ bad n → Stopped rs (import_rows rs (rows_of ls)) k
unfolding import_rows
stopped rs [] k n h e = absurd (omega arith)
stopped rs (l ∷ ls) k n h e = go (line_row l) refl k h e (λ r k h e. stopped (rs ++ (r ∷ [])) ls k n h e)
  where
    go : (x : Row) → line_row l ≡ x → (k : ℕ) → k < length (l ∷ ls) → line_row (get_or (l ∷ ls) k []) ≡ bad n
        → ((r : Record) (k : ℕ) → k < length ls → line_row (get_or ls k []) ≡ bad n → Stopped (rs ++ (r ∷ [])) (import_rows (rs ++ (r ∷ [])) (rows_of ls)) k)
        → Stopped rs (import_rows rs (x ∷ rows_of ls)) k
    go (bad m) p k h e on =
        let b = bad_number (fields_of l) m p in
        record { refusal = record { number = m; line = length rs }; refuses = refl; from = b.0; to = b.1; line = omega arith }
    go (good r) p zero h e on = absurd (let q : good r ≡ bad n = sym p ∙ e in let z : ◌≡◌ {A = ℕ} 0 1 = cc in omega arith)
    go (good r) p (suc k) h e on =
        let y = on r k (omega arith) e in
        let w = length-append rs (r ∷ []) in
        let i = y.line in
        record { refusal = y.refusal; refuses = y.refuses; from = y.from; to = y.to; line = omega arith }

-- A bad line stops the import there or before it, whatever its number and whatever stands behind it, and no record is handed back.
pub bad_line_stops : (s : List ℕ) (k n : ℕ) → k < length (lines_of s) → line_row (line_of k s) ≡ bad n → StopsBy s k
bad_line_stops s k n h e =
    let y = stopped [] (lines_of s) k n h e in
    let i = y.line in
    record { refusal = y.refusal; refuses = y.refuses; from = y.from; to = y.to; line = omega arith }

first_bad_lem : (rs : List Record) (ls : List (List ℕ)) (k n : ℕ) → k < length ls → ((j : ℕ) → j < k → (r : Record) × (line_row (get_or ls j []) ≡ good r))
    → line_row (get_or ls k []) ≡ bad n → import_rows rs (rows_of ls) ≡ refused (refusal n (length rs + k))
unfolding import_rows
first_bad_lem rs [] k n h g e = absurd (omega arith)
first_bad_lem rs (l ∷ ls) zero n h g e = let z : length rs + 0 ≡ length rs = omega arith in rw (e, z)
first_bad_lem rs (l ∷ ls) (suc k) n h g e =
    let r = g 0 (omega arith) in
    let w : length (rs ++ (r.0 ∷ [])) + k ≡ length rs + suc k = rw (length-append rs (r.0 ∷ [])) (omega arith) in
    rw r.1 (first_bad_lem (rs ++ (r.0 ∷ [])) ls k n (omega arith) (λ j h. g (suc j) (omega arith)) e ∙ ap (λ (i : ℕ). refused (refusal n i)) w)

-- The first bad line is the one that is named, with its number.
pub first_bad_line : (s : List ℕ) (k n : ℕ) → k < length (lines_of s) → ((j : ℕ) → j < k → (r : Record) × (line_row (line_of j s) ≡ good r))
    → line_row (line_of k s) ≡ bad n → import_of s ≡ refused (refusal n k)
first_bad_line s k n h g e = let z : 0 + k ≡ k = omega arith in first_bad_lem [] (lines_of s) k n h g e ∙ ap (λ (i : ℕ). refused (refusal n i)) z

-- ---- pond codes

-- a line whose last of six columns is not empty and of another shape is bad
other_shape : (fs : List (List ℕ)) → is_code (column 5 fs) ≡ false → (n : ℕ) × (row_of (columns fs) ≡ bad n)
unfolding row_of
other_shape fs e = rw e (go (eqb (length fs) 6) (readable fs))
  where
    go : (a b : Bool) → (n : ℕ) × ((if not a then bad 41 else (if not b then bad 42 else bad 43)) ≡ bad n)
    go true true = (43, refl)
    go true false = (42, refl)
    go false b = (41, refl)

-- NO FIELD OF ANOTHER SHAPE IS EVER READ AS A POND CODE, nor left out: where the sixth field of a line is neither empty nor two capital
-- letters and four digits, as a date never is, the import stops at that line or before it, and hands back no record.
pub no_other_shape : (s : List ℕ) (k : ℕ) (fs : List (List ℕ)) → k < length (lines_of s) → fields_of (line_of k s) ≡ columns fs
    → is_code (column 5 fs) ≡ false → StopsBy s k
no_other_shape s k fs h l e =
    let b = other_shape fs e in
    bad_line_stops s k b.0 h (ap row_of l ∙ b.1)

-- And where all else on the line can be read and the lines before it are good, it is refused with 43 at that line.
pub other_shape_named : (s : List ℕ) (k : ℕ) (fs : List (List ℕ)) → k < length (lines_of s) → ((j : ℕ) → j < k → (r : Record) × (line_row (line_of j s) ≡ good r))
    → fields_of (line_of k s) ≡ columns fs → length fs ≡ 6 → readable fs ≡ true → is_code (column 5 fs) ≡ false → import_of s ≡ refused (refusal 43 k)
unfolding row_of
other_shape_named s k fs h g l six r e = first_bad_line s k 43 h g (ap row_of l ∙ rw (six, r, e))
