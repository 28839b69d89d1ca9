-- A text that comes in pieces, however it is cut, is imported as the pieces together. What is known after some bytes, with the bytes
-- that are still to come, gives the whole answer; each byte keeps that. Assumes nothing.
use mathlib.Core.Path.{◌≡◌, refl, sym, ap, ◌∙◌}
use mathlib.Core.Bool.{Bool, true, false, ◌&&◌, ◌||◌, not}
use mathlib.Core.List.{List, [], ◌∷◌, ◌++◌}
use Prim.Native.Nat.{ℕ, suc, ◌+◌, ◌<◌, min}
use native.Mathlib.Omega.{arith}
use lib.Dec.{eqb}
use lib.ListN.{length, drop, get_or, replicate, length-append}
use lib.Seq.{append_snoc}
use borrow.Author.Tests.{ne_eqb, eqb-true, eqb-false}
use Rattle.std.specs.Prelude.{if◌then◌else◌}
use Rattle.numbers.specs.Fits.{All, IsByte}
use Rattle.records.specs.Records.{blank}
use Rattle.records.specs.declared.Record.{Record}
use Rattle.records.proofs.Entries.{all_append}
use Rattle.plan.specs.Limits.{most_records}
use Rattle.plan.specs.ReplyNumbers.{refusal}
use Rattle.values.specs.Inside.{fresh, with, with_all}
use Rattle.values.specs.declared.Seen.{Seen}
use Rattle.fields.specs.Quoting.{Columns, broken, columns, quote, comma, cr, lf, is_break, with_byte, with_field, bare_act, act_of, fields_from}
use Rattle.fields.specs.Inside.{ends_line, is_begin, is_quoted, end_step, kept, act_step, step_of}
use Rattle.fields.specs.declared.Place.{Place}
use Rattle.fields.specs.declared.Place.TheVariants.{Begin, Bare, Quoted, Closed}
use Rattle.fields.specs.declared.Act.{Act}
use Rattle.fields.specs.declared.Act.TheVariants.{Keep, Skip, Cut, Break}
use Rattle.fields.specs.declared.Step.TheVariants.{Broken}
use Rattle.office.specs.Sheets.{Row, bad, good, row_of, rows_of, pieces, without_rest, lines_of, refused, import_rows, import_of}
use Rattle.office.specs.Inside.{first_line, end_from, as_line, line_by}
use Rattle.office.specs.Feeding.{line_begins, begun, stopped, counted, cells_with, lined, stepped, fed_byte, fed_of, fed_all, joined_text, last_of, answered, finished_of}
use Rattle.office_text.specs.declared.Feeding.{Feeding}
use Rattle.office.specs.declared.Refused.{Refused}
use Rattle.std.specs.Prelude.{Result}
use Rattle.plan.specs.declared.Plan.{Plan}
use Rattle.office.proofs.Lines.{ends_is, end_moves, lines_first}
use Rattle.office.proofs.Rows.{seen_of, Cells, line_by_lem, store}
use Rattle.office.proofs.Judged.{Records, with_record_lem, judged_is}
use Rattle.office.proofs.Growers.{bad_number}

-- ---- the field that has begun, and those before it

-- its bytes in front of what is left
with_bytes : List ℕ → Columns → Columns
with_bytes [] r = r
with_bytes (c ∷ g) r = with_byte c (with_bytes g r)

bytes_one : (g : List ℕ) (c : ℕ) (r : Columns) → with_bytes g (with_byte c r) ≡ with_bytes (g ++ (c ∷ [])) r
unfolding with_bytes
bytes_one [] c r = refl
bytes_one (d ∷ g) c r = ap (with_byte d) (bytes_one g c r)

pub byte_field : (c : ℕ) (g : List ℕ) (r : Columns) → with_byte c (with_field g r) ≡ with_field (c ∷ g) r
byte_field c g broken = refl
byte_field c g (columns fs) = refl

bytes_field : (g : List ℕ) (r : Columns) → with_bytes g (with_field [] r) ≡ with_field g r
unfolding with_bytes
bytes_field [] r = refl
bytes_field (c ∷ g) r = ap (with_byte c) (bytes_field g r) ∙ byte_field c g r

bytes_broken : (g : List ℕ) → with_bytes g broken ≡ broken
unfolding with_bytes
bytes_broken [] = refl
bytes_broken (c ∷ g) = ap (with_byte c) (bytes_broken g)

-- what is kept of it
with_last : (s : Seen) (f : List ℕ) (c : ℕ) → with (with_all s f) c ≡ with_all s (f ++ (c ∷ []))
unfolding with_all
with_last s [] c = refl
with_last s (d ∷ f) c = with_last (with s d) f c

-- the fields before it in front
abbrev in_front : List (List ℕ) → Columns → Columns
in_front fs broken = broken
in_front fs (columns gs) = columns (fs ++ gs)

front_one : (fs : List (List ℕ)) (g : List ℕ) (r : Columns) → in_front fs (with_field g r) ≡ in_front (fs ++ (g ∷ [])) r
front_one fs g broken = refl
front_one fs g (columns gs) = ap columns (sym (append_snoc fs g gs))

front_none : (r : Columns) → in_front [] r ≡ r
front_none broken = refl
front_none (columns gs) = refl

-- ---- what is still to come

-- the text behind its first line
abbrev rest : List ℕ → List ℕ
rest t = drop (end_from 0 t) t

-- a byte that is no CR is one of the line
line_on : (c : ℕ) (s : List ℕ) → (c ≡ cr → ⊥) → (first_line (c ∷ s) ≡ c ∷ first_line s) × (rest (c ∷ s) ≡ rest s)
unfolding first_line end_from
line_on c s n =
    let e : ends_line (c ∷ s) ≡ false = rw (ends_is c s, ne_eqb c cr n) in
    let z : 1 + end_from 0 s ≡ suc (end_from 0 s) = omega arith in
    (rw e, rw (e, end_moves 1 s, z))

-- the answer by the records before the line, the fields before the one that has begun, its bytes, and the text from there on
abbrev whole : List Record → List (List ℕ) → List ℕ → Place → List ℕ → Result Plan Refused
whole done gone part p t = import_rows done (row_of (in_front gone (with_bytes part (fields_from p (first_line t)))) ∷ rows_of (lines_of (rest t)))

-- nothing is kept of nothing
none_seen : fresh ≡ seen_of []
unfolding with_all
none_seen = refl

-- a byte that goes on in a field is behind its beginning
abbrev NotBegin : Act → Type 0
NotBegin (Keep q) = is_begin q ≡ false
NotBegin (Skip q) = is_begin q ≡ false
NotBegin Cut = Unit {0}
NotBegin Break = Unit {0}

bare_on : (c : ℕ) → NotBegin (bare_act c)
bare_on c = go (eqb c comma) (eqb c quote || is_break c)
  where
    go : (a b : Bool) → NotBegin (if a then Cut else (if b then Break else Keep Bare))
    go true b = tt
    go false true = tt
    go false false = refl

goes_on_lem : (p : Place) (c : ℕ) → NotBegin (act_of p c)
goes_on_lem Begin c = go (eqb c quote)
  where
    go : (a : Bool) → NotBegin (if a then Skip Quoted else bare_act c)
    go true = refl
    go false = bare_on c
goes_on_lem Bare c = bare_on c
goes_on_lem Quoted c = go (eqb c quote) (is_break c)
  where
    go : (a b : Bool) → NotBegin (if a then Skip Closed else (if b then Break else Keep Quoted))
    go true b = refl
    go false true = tt
    go false false = refl
goes_on_lem Closed c = go (eqb c quote) (eqb c comma)
  where
    go : (a b : Bool) → NotBegin (if a then Keep Quoted else (if b then Cut else Break))
    go true b = refl
    go false true = tt
    go false false = tt

abbrev most : ℕ
most = 18446744073709551616

module _ (answer : Result Plan Refused) where
  -- inside a line, t being what is still to come
  record Inside (n : ℕ) (records : List Record) (k : ℕ) (cells : List Seen) (p : Place) (u : Seen) (t : List ℕ) : Type 0 where
    done : List Record
    gone : List (List ℕ)
    part : List ℕ
    count : n ≡ length done
    stored : Records done records
    commas : k ≡ min (length gone) 6
    bytes : All (All IsByte) gone
    held : Cells gone cells
    letters : All IsByte part
    seen : u ≡ seen_of part
    still : whole done gone part p t ≡ answer

  -- where a line begins, and where a bad line has stopped it
  data Whole (s : List ℕ) : Feeding → Type 0 where
    begins : (done records : List Record) → Records done records → length done + length s < most → import_rows done (rows_of (lines_of s)) ≡ answer
        → Whole s (line_begins (length done) records)
    over : (m l : ℕ) → (m ≡ 0 → ⊥) → refused (refusal m l) ≡ answer → Whole s (stopped m l)

  abbrev state : ℕ → List Record → ℕ → List Seen → Place → Seen → Bool → Feeding
  state n records k cells p u t =
      record { number = 0; lines = n; records = records; commas = k; cells = cells; spot = record { place = p; seen = u; turned = t } }

  -- the CR that was kept is still to come
  abbrev with_cr : Bool → List ℕ → List ℕ
  with_cr true s = cr ∷ s
  with_cr false s = s

  data Stands (s : List ℕ) : Feeding → Type 0 where
    between : (f : Feeding) → Whole s f → Stands s f
    inside : (n : ℕ) (records : List Record) (k : ℕ) (cells : List Seen) (p : Place) (u : Seen) (t : Bool)
        → Inside n records k cells p u (with_cr t s) → n + 1 + length s < most → ((is_begin p && not t) && eqb k 0) ≡ false
        → Stands s (state n records k cells p u t)

  module _ (n : ℕ) (records : List Record) (k : ℕ) (cells : List Seen) (p : Place) (u : Seen) (t : List ℕ) (i : Inside n records k cells p u t) where
    -- the line's quoting is broken
    wrong : fields_from p (first_line t) ≡ broken → refused (refusal 40 n) ≡ answer
    unfolding import_rows row_of
    wrong e = rw i.count (rw (e, bytes_broken i.part) at i.still)

    -- the line ends
    ends : (s : List ℕ) → fields_from p (first_line t) ≡ columns ([] ∷ []) → rest t ≡ s → n + 1 + length s < most
        → Whole s (lined n records (line_by k (cells_with k cells u)))
    unfolding import_rows
    ends s e d fits =
        rw (i.commas, i.seen, line_by_lem i.gone i.part i.bytes i.letters cells i.held)
        (go (row_of (columns (i.gone ++ (i.part ∷ [])))) refl (rw (e, bytes_field i.part (columns []), d) at i.still))
      where
        go : (r : Row) → row_of (columns (i.gone ++ (i.part ∷ []))) ≡ r → import_rows i.done (r ∷ rows_of (lines_of s)) ≡ answer
            → Whole s (lined n records (as_line r))
        go (bad m) q a = let b = bad_number _ m q in over m n (λ z. omega (arith, b.0)) (rw i.count a)
        go (good r) q a =
            let z = length-append i.done (r ∷ []) in
            let c : counted n ≡ length (i.done ++ (r ∷ [])) = omega (arith, i.count) in
            rw (c, i.count) (begins (i.done ++ (r ∷ [])) _ (with_record_lem i.done records r i.stored) (omega (arith, i.count)) a)

    -- a byte that is no CR
    module _ (c : ℕ) (b : IsByte c) (s : List ℕ) (is : t ≡ c ∷ s) (never : c ≡ cr → ⊥) (fits : n + 1 + length s < most) where
      on : whole i.done i.gone i.part p (c ∷ s) ≡ answer
      on = rw is at i.still

      by_act : (a : Act) → act_of p c ≡ a → NotBegin a → Stands s (stepped (state n records k cells p u false) (act_step a u c))
      unfolding fields_from with_bytes
      by_act (Keep q) e o =
          inside n records k cells q (with u c) false
          (record {
            done = i.done;
            gone = i.gone;
            part = i.part ++ (c ∷ []);
            count = i.count;
            stored = i.stored;
            commas = i.commas;
            bytes = i.bytes;
            held = i.held;
            letters = all_append IsByte i.part (c ∷ []) i.letters (b, tt);
            seen = rw i.seen (with_last fresh i.part c);
            still = rw (bytes_one i.part c (fields_from q (first_line s))) at (rw ((line_on c s never).0, (line_on c s never).1, e) at on);
          })
          fits
          (rw o)
      by_act (Skip q) e o =
          inside n records k cells q u false
          (record {
            done = i.done;
            gone = i.gone;
            part = i.part;
            count = i.count;
            stored = i.stored;
            commas = i.commas;
            bytes = i.bytes;
            held = i.held;
            letters = i.letters;
            seen = i.seen;
            still = rw ((line_on c s never).0, (line_on c s never).1, e) at on;
          })
          fits
          (rw o)
      by_act Cut e o =
          let z = length-append i.gone (i.part ∷ []) in
          let k' : min (k + 1) 6 ≡ min (length (i.gone ++ (i.part ∷ []))) 6 = omega (arith, i.commas) in
          inside n records (min (k + 1) 6) (cells_with k cells u) Begin fresh false
          (record {
            done = i.done;
            gone = i.gone ++ (i.part ∷ []);
            part = [];
            count = i.count;
            stored = i.stored;
            commas = k';
            bytes = all_append (All IsByte) i.gone (i.part ∷ []) i.bytes (i.letters, tt);
            held = rw (i.commas, i.seen) (store i.gone i.part cells i.held);
            letters = tt;
            seen = none_seen;
            still =
                rw (bytes_field i.part (fields_from Begin (first_line s)), front_one i.gone i.part (fields_from Begin (first_line s)))
                at (rw ((line_on c s never).0, (line_on c s never).1, e) at on);
          })
          fits
          (ne_eqb (min (k + 1) 6) 0 (λ q. omega arith))
      by_act Break e o = between _ (over 40 n (λ q. omega arith) (wrong (rw (is, (line_on c s never).0, e))))

  -- a CR is kept until the byte behind it
  by_cr : (n : ℕ) (records : List Record) (k : ℕ) (cells : List Seen) (p : Place) (u : Seen) (s : List ℕ)
      → Inside n records k cells p u (cr ∷ s) → n + 1 + length s < most → Stands s (state n records k cells p u true)
  by_cr n records k cells p u s i fits = inside n records k cells p u true i fits (go (is_begin p))
    where
      go : (b : Bool) → ((b && false) && eqb k 0) ≡ false
      go true = refl
      go false = refl

  -- behind it an LF ends the line, except inside quotes
  by_lf : (n : ℕ) (records : List Record) (k : ℕ) (cells : List Seen) (p : Place) (u : Seen) (s : List ℕ)
      → Inside n records k cells p u (cr ∷ lf ∷ s) → n + 1 + length s < most → Whole s (stepped (state n records k cells p u true) (end_step p))
  unfolding first_line end_from ends_line fields_from
  by_lf n records k cells Begin u s i fits = ends n records k cells Begin u (cr ∷ lf ∷ s) i s refl refl fits
  by_lf n records k cells Bare u s i fits = ends n records k cells Bare u (cr ∷ lf ∷ s) i s refl refl fits
  by_lf n records k cells Quoted u s i fits = over 40 n (λ q. omega arith) (wrong n records k cells Quoted u (cr ∷ lf ∷ s) i refl)
  by_lf n records k cells Closed u s i fits = ends n records k cells Closed u (cr ∷ lf ∷ s) i s refl refl fits

  -- a CR alone breaks the quoting
  alone : (p : Place) (s : List ℕ) → ends_line (cr ∷ s) ≡ false → fields_from p (first_line (cr ∷ s)) ≡ broken
  unfolding first_line fields_from
  alone Begin s e = rw e
  alone Bare s e = rw e
  alone Quoted s e = rw e
  alone Closed s e = rw e

  by_other : (n : ℕ) (records : List Record) (k : ℕ) (cells : List Seen) (p : Place) (u : Seen) (c : ℕ) (s : List ℕ)
      → Inside n records k cells p u (cr ∷ c ∷ s) → (c ≡ lf → ⊥) → Whole s (stopped 40 n)
  unfolding ends_line
  by_other n records k cells p u c s i never = over 40 n (λ q. omega arith) (wrong n records k cells p u (cr ∷ c ∷ s) i (alone p (c ∷ s) (rw (ne_eqb c lf never))))

  -- one byte more, inside a line
  by_byte : (n : ℕ) (records : List Record) (k : ℕ) (cells : List Seen) (p : Place) (u : Seen) (t : Bool) (c : ℕ) (s : List ℕ) → IsByte c
      → Inside n records k cells p u (with_cr t (c ∷ s)) → n + 1 + length s < most
      → Stands s (stepped (state n records k cells p u t) (step_of (state n records k cells p u t).spot c))
  unfolding step_of
  by_byte n records k cells p u true c s b i fits = go (eqb c lf) refl
    where
      go : (x : Bool) → eqb c lf ≡ x → Stands s (stepped (state n records k cells p u true) (if x then end_step p else Broken))
      go true e = between _ (by_lf n records k cells p u s (rw (eqb-true c lf e) at i) (omega arith))
      go false e = between _ (by_other n records k cells p u c s i (eqb-false c lf e))
  by_byte n records k cells p u false c s b i fits = go (eqb c cr) refl
    where
      go : (x : Bool) → eqb c cr ≡ x → Stands s (stepped (state n records k cells p u false) (if x then kept p u true else act_step (act_of p c) u c))
      go true e = by_cr n records k cells p u s (rw (eqb-true c cr e) at i) (omega arith)
      go false e = by_act n records k cells p u (c ∷ s) i c b s refl (eqb-false c cr e) (omega arith) (act_of p c) refl (goes_on_lem p c)

  -- a line that begins is inside one with the first byte
  entered : (done records : List Record) (c : ℕ) (s : List ℕ) → Records done records → import_rows done (rows_of (lines_of (c ∷ s))) ≡ answer
      → Inside (length done) records 0 (replicate 6 fresh) Begin fresh (c ∷ s)
  unfolding with_bytes
  entered done records c s e a =
      record {
        done = done;
        gone = [];
        part = [];
        count = refl;
        stored = e;
        commas = refl;
        bytes = tt;
        held = λ h. refl;
        letters = tt;
        seen = none_seen;
        still = rw (front_none (fields_from Begin (first_line (c ∷ s)))) (rw (lines_first (c ∷ s) (omega arith)) at a);
      }

  -- with a byte more it stands as well
  byte : (c : ℕ) (s : List ℕ) → IsByte c → (f : Feeding) → Stands (c ∷ s) f → Stands s (fed_byte f c)
  unfolding fed_byte
  byte c s b f (between _ (begins done records e fits a)) =
      by_byte (length done) records 0 (replicate 6 fresh) Begin fresh false c s b (entered done records c s e a) (omega arith)
  byte c s b f (between _ (over m l never a)) = rw (ne_eqb m 0 never) (between _ (over m l never a))
  byte c s b f (inside n records k cells p u t i fits o) = by_byte n records k cells p u t c s b i (omega arith)

  all : (s : List ℕ) → All IsByte s → (f : Feeding) → Stands s f → Stands [] (fed_of f s)
  unfolding fed_of
  all [] b f h = h
  all (c ∷ s) b f h = all s b.1 (fed_byte f c) (byte c s b.0 f h)

  -- ---- the end of the text

  answered_is : (f : Feeding) → Whole [] f → answered f ≡ answer
  unfolding answered import_rows pieces without_rest
  answered_is f (begins done records e fits a) = judged_is done records e ∙ a
  answered_is f (over m l never a) = rw (ne_eqb m 0 never) a

  last_is : (n : ℕ) (records : List Record) (k : ℕ) (cells : List Seen) (p : Place) (u : Seen) (t : Bool) → Inside n records k cells p u (with_cr t []) → n + 1 < most
      → Whole [] (if not (is_quoted p) && not t then lined n records (line_by k (cells_with k cells u)) else stopped 40 n)
  unfolding first_line end_from ends_line fields_from
  last_is n records k cells Begin u false i fits = ends n records k cells Begin u [] i [] refl refl (omega arith)
  last_is n records k cells Bare u false i fits = ends n records k cells Bare u [] i [] refl refl (omega arith)
  last_is n records k cells Quoted u false i fits = over 40 n (λ q. omega arith) (wrong n records k cells Quoted u [] i refl)
  last_is n records k cells Closed u false i fits = ends n records k cells Closed u [] i [] refl refl (omega arith)
  last_is n records k cells Begin u true i fits = over 40 n (λ q. omega arith) (wrong n records k cells Begin u (cr ∷ []) i refl)
  last_is n records k cells Bare u true i fits = over 40 n (λ q. omega arith) (wrong n records k cells Bare u (cr ∷ []) i refl)
  last_is n records k cells Quoted u true i fits = over 40 n (λ q. omega arith) (wrong n records k cells Quoted u (cr ∷ []) i refl)
  last_is n records k cells Closed u true i fits = over 40 n (λ q. omega arith) (wrong n records k cells Closed u (cr ∷ []) i refl)

  finished_is : (f : Feeding) → Stands [] f → finished_of f ≡ answer
  unfolding last_of
  finished_is f (between _ (begins done records e fits a)) = answered_is _ (begins done records e fits a)
  finished_is f (between _ (over m l never a)) = rw (ne_eqb m 0 never) (answered_is _ (over m l never a))
  finished_is f (inside n records k cells p u t i fits o) = rw o (answered_is _ (last_is n records k cells p u t i (omega arith)))

-- ---- the theorems

-- the bytes of a slice
pub all_bytes_lem : (s : List ℕ) → ((i : ℕ) → get_or s i 0 < 256) → All IsByte s
all_bytes_lem [] h = tt
all_bytes_lem (c ∷ s) h = (h 0, all_bytes_lem s (λ i. h (suc i)))

-- a text that is fed whole
pub fed_is : (s : List ℕ) → All IsByte s → length s < most → finished_of (fed_of begun s) ≡ import_of s
fed_is s b h = finished_is (import_of s) (fed_of begun s) (all (import_of s) s b begun (between _ (begins [] (replicate most_records blank) (λ l. refl) (omega arith) refl)))

-- a piece that is cut anywhere: what is known after both parts is what is known after the second from what is known after the first
pub fed_append : (f : Feeding) (s t : List ℕ) → fed_of f (s ++ t) ≡ fed_of (fed_of f s) t
unfolding fed_of
fed_append f [] t = refl
fed_append f (c ∷ s) t = fed_append (fed_byte f c) s t

fed_joined : (f : Feeding) (ss : List (List ℕ)) → fed_all f ss ≡ fed_of f (joined_text ss)
unfolding fed_all joined_text fed_of
fed_joined f [] = refl
fed_joined f (s ∷ ss) = fed_joined (fed_of f s) ss ∙ sym (fed_append f s (joined_text ss))

-- however a text is cut into pieces, feeding them and finishing answers what importing the text does
pub pieces_import : (ss : List (List ℕ)) → All IsByte (joined_text ss) → length (joined_text ss) < most → finished_of (fed_all begun ss) ≡ import_of (joined_text ss)
pieces_import ss b h = rw (fed_joined begun ss) (fed_is (joined_text ss) b h)
