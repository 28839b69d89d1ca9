-- A plan laid out on a sheet, record by record. Assumes nothing.
use mathlib.Core.Path.{◌≡◌, refl, sym, ap, ◌∙◌}
use mathlib.Core.Logic.{◌≢◌}
use mathlib.Core.Bool.{true}
use mathlib.Core.List.{List, [], ◌∷◌}
use Prim.Native.Nat.{ℕ, suc, ◌+◌, ◌-◌, ◌*◌, ◌<◌, ◌≤◌}
use native.Mathlib.Omega.{arith}
use native.Mathlib.Decide.{ℕ_discrete, dec_lt}
use lib.ListN.{length, get_or, set, drop, replicate, length-set, length-take, length-replicate, get_or-replicate, get_or-eq_default}
use lib.Seq.{get_or-set_same, get_or-set_other, get_or-take, drop-cons, drop-length}
use borrow.Author.Tests.{eq-eqb, ne_eqb}
use Rattle.std.specs.Prelude.{if◌then◌else◌}
use Rattle.plan.specs.Limits.{most_records}
use Rattle.plan.specs.APlan.{blank, first_that, records_of, is, link, wait, ends_at, gap_of, link_to}
use Rattle.numbers.specs.declared.Gap.{Gap}
use Rattle.records.specs.declared.Record.{Record}
use Rattle.plan.specs.declared.Plan.{Plan}
use Rattle.rows.specs.declared.sheet.Row.{Row}
use Rattle.rows.specs.Sheet.{width, sheet_room}
use Rattle.rows.specs.Layout.{row_from, row_of, bytes, Starts, RowIs, stored, LaidOut}

-- row q of the sheet is written, and no other
pub record Written (q : ℕ) (x : Row) (s s' : List ℕ) : Type 0 where
  pub long : length s' ≡ sheet_room
  pub here : RowIs s' q x
  pub other : (q' : ℕ) → q' ≢ q → (x' : Row) → RowIs s q' x' → RowIs s' q' x'
  pub past : (p : ℕ) → (q + 1) * width ≤ p → (r : ℕ) → get_or s p 0 ≡ r → get_or s' p 0 ≡ r

skip : (l : List ℕ) (i j v r : ℕ) → j ≢ i → get_or l j 0 ≡ r → get_or (set l i v) j 0 ≡ r
skip l i j v r n e = get_or-set_other l i j v 0 n ∙ e

-- six stores, and what they leave
module _ (q : ℕ) (x : Row) (s : List ℕ) (h : q < most_records) (long : length s ≡ sheet_room) where
  abbrev a : ℕ
  a = q * width

  abbrev s1 : List ℕ
  s1 = set s a x.kind

  abbrev s2 : List ℕ
  s2 = set s1 (a + 1) x.from

  abbrev s3 : List ℕ
  s3 = set s2 (a + 2) x.to

  abbrev s4 : List ℕ
  s4 = set s3 (a + 3) x.first

  abbrev s5 : List ℕ
  s5 = set s4 (a + 4) x.second

  abbrev s6 : List ℕ
  s6 = set s5 (a + 5) x.over

  same_room : length s6 ≡ sheet_room
  same_room = simp length-set long

  hit : (l : List ℕ) (i v : ℕ) → length l ≡ sheet_room → i < sheet_room → get_or (set l i v) i 0 ≡ v
  hit l i v e k = get_or-set_same l i v 0 (omega arith)

  here : RowIs s6 q x
  here = record {
    kind = skip s5 (a + 5) a x.over x.kind (omega arith) (skip s4 (a + 4) a x.second x.kind (omega arith) (skip s3 (a + 3) a x.first x.kind (omega arith) (skip s2 (a + 2) a x.to x.kind (omega arith) (skip s1 (a + 1) a x.from x.kind (omega arith) (hit s a x.kind long (omega arith))))));
    from = skip s5 (a + 5) (a + 1) x.over x.from (omega arith) (skip s4 (a + 4) (a + 1) x.second x.from (omega arith) (skip s3 (a + 3) (a + 1) x.first x.from (omega arith) (skip s2 (a + 2) (a + 1) x.to x.from (omega arith) (hit s1 (a + 1) x.from (simp length-set long) (omega arith)))));
    to = skip s5 (a + 5) (a + 2) x.over x.to (omega arith) (skip s4 (a + 4) (a + 2) x.second x.to (omega arith) (skip s3 (a + 3) (a + 2) x.first x.to (omega arith) (hit s2 (a + 2) x.to (simp length-set long) (omega arith))));
    first = skip s5 (a + 5) (a + 3) x.over x.first (omega arith) (skip s4 (a + 4) (a + 3) x.second x.first (omega arith) (hit s3 (a + 3) x.first (simp length-set long) (omega arith)));
    second = skip s5 (a + 5) (a + 4) x.over x.second (omega arith) (hit s4 (a + 4) x.second (simp length-set long) (omega arith));
    over = hit s5 (a + 5) x.over (simp length-set long) (omega arith);
  }

  far : (p r : ℕ) → (p ≢ a) × (p ≢ a + 1) × (p ≢ a + 2) × (p ≢ a + 3) × (p ≢ a + 4) × (p ≢ a + 5) → get_or s p 0 ≡ r → get_or s6 p 0 ≡ r
  far p r n e =
      skip s5 (a + 5) p x.over r n.5 (skip s4 (a + 4) p x.second r n.4 (skip s3 (a + 3) p x.first r n.3 (skip s2 (a + 2) p x.to r n.2 (skip s1 (a + 1) p x.from r n.1 (skip s a p x.kind r n.0 e)))))

  written : Written q x s s6
  written = record { long = same_room; here = here; other = other; past = λ p l r e. far p r (omega arith, omega arith, omega arith, omega arith, omega arith, omega arith) e }
    where
      apart : (q' j : ℕ) → q' ≢ q → j < width → (q' * width + j ≢ q * width) × (q' * width + j ≢ q * width + 1) × (q' * width + j ≢ q * width + 2) × (q' * width + j ≢ q * width + 3) × (q' * width + j ≢ q * width + 4) × (q' * width + j ≢ q * width + 5)
      apart q' j n l = (omega arith, omega arith, omega arith, omega arith, omega arith, omega arith)

      at_row : (q' : ℕ) → q' ≢ q → (q' * width ≢ q * width) × (q' * width ≢ q * width + 1) × (q' * width ≢ q * width + 2) × (q' * width ≢ q * width + 3) × (q' * width ≢ q * width + 4) × (q' * width ≢ q * width + 5)
      at_row q' n = (omega arith, omega arith, omega arith, omega arith, omega arith, omega arith)

      other : (q' : ℕ) → q' ≢ q → (x' : Row) → RowIs s q' x' → RowIs s6 q' x'
      other q' n x' r = record {
        kind = far (q' * width) x'.kind (at_row q' n) r.kind;
        from = far (q' * width + 1) x'.from (apart q' 1 n (omega arith)) r.from;
        to = far (q' * width + 2) x'.to (apart q' 2 n (omega arith)) r.to;
        first = far (q' * width + 3) x'.first (apart q' 3 n (omega arith)) r.first;
        second = far (q' * width + 4) x'.second (apart q' 4 n (omega arith)) r.second;
        over = far (q' * width + 5) x'.over (apart q' 5 n (omega arith)) r.over;
      }

-- the rows below q, and zeros behind them
pub record Laying (rs : List Record) (q : ℕ) (s : List ℕ) : Type 0 where
  pub long : length s ≡ sheet_room
  pub rows : (q' : ℕ) → q' < q → RowIs s q' (row_of rs (get_or rs q' blank))
  pub rest : (p : ℕ) → q * width ≤ p → get_or s p 0 ≡ 0

pub start : {rs : List Record} {s : List ℕ} → s ≡ replicate sheet_room 0 → Laying rs 0 s
start {rs} {s} e = record { long = long; rows = λ q h. absurd (omega arith); rest = λ p h. zero_at p (dec_lt p sheet_room) }
  where
    long : length s ≡ sheet_room
    long = rw e (length-replicate {A = ℕ} sheet_room 0)

    zero_at : (p : ℕ) → Dec (p < sheet_room) → get_or s p 0 ≡ 0
    zero_at p (yes l) = rw e (get_or-replicate {A = ℕ} sheet_room p 0 0 l)
    zero_at p (no m) = get_or-eq_default s 0 (omega (arith, long))

pub turn : {rs : List Record} {q : ℕ} {s s' : List ℕ} → Laying rs q s → Written q (row_of rs (get_or rs q blank)) s s' → Laying rs (q + 1) s'
turn {rs} {q} {s} {s'} l w = record { long = w.long; rows = rows; rest = λ p h. w.past p h 0 (l.rest p (omega arith)) }
  where
    rows : (q' : ℕ) → q' < q + 1 → RowIs s' q' (row_of rs (get_or rs q' blank))
    rows q' h = elim (ℕ_discrete q' q) [
      | yes e ↦ rw e w.here
      | no e ↦ w.other q' e (row_of rs (get_or rs q' blank)) (l.rows q' (omega arith))
    ]

pub ended : {rs : List Record} {q : ℕ} {s : List ℕ} → length rs ≡ q → Laying rs q s → LaidOut rs s
ended h l = record { rows = λ q k. l.rows q (omega arith); long = l.long; rest = λ p k. l.rest p (omega arith) }

-- ---- where links start

-- of the records from place q on
pub record Starting (p : Plan) (t : List ℕ) (q : ℕ) : Type 0 where
  pub room : length p.records ≡ most_records
  pub few : p.count ≤ most_records
  pub within : q ≤ p.count
  pub long : length t ≡ bytes
  pub each : (c : ℕ) → c < bytes → get_or t c 0 ≡ (link_to (drop q (records_of p)) c).a

pub starting_none : {p : Plan} → length p.records ≡ most_records → p.count ≤ most_records → Starting p (replicate bytes 0) p.count
unfolding first_that
starting_none {p} room few =
    record {
      room = room;
      few = few;
      within = omega arith;
      long = length-replicate {A = ℕ} bytes 0;
      each = λ c h. get_or-replicate {A = ℕ} bytes c 0 0 h ∙ sym (rw none refl);
    }
  where
    none : drop p.count (records_of p) ≡ []
    none =
        let e : p.count ≡ length (records_of p) = omega (arith, length-take p.count p.records) in
        ap (λ (k : ℕ). drop k (records_of p)) e ∙ drop-length (records_of p)

module _ {p : Plan} {t : List ℕ} {q : ℕ} (s : Starting p t q) (h : 0 < q) where
  abbrev r : Record
  r = get_or p.records (q - 1) blank

  at_hand : drop (q - 1) (records_of p) ≡ get_or p.records (q - 1) blank ∷ drop q (records_of p)
  at_hand =
      let z : suc (q - 1) ≡ q = omega arith in
      let l : q - 1 < length (records_of p) = omega (arith, length-take p.count p.records, s.room, s.few, s.within) in
      drop-cons (records_of p) (q - 1) blank l
      ∙ rw (z, get_or-take p.count p.records (q - 1) blank (omega (arith, s.within))) refl

  -- the first link that ends at a point counts
  pub starting_link : (get_or p.records (q - 1) blank).b < bytes → (get_or p.records (q - 1) blank).kind ≡ 2 → Starting p (set t (get_or p.records (q - 1) blank).b (get_or p.records (q - 1) blank).a) (q - 1)
  unfolding first_that
  starting_link b k =
      record { room = s.room; few = s.few; within = omega (arith, s.within); long = simp length-set s.long; each = λ c l. rw at_hand (each c l (ℕ_discrete c r.b)) }
    where
      its : is link (get_or p.records (q - 1) blank) ≡ true
      its = eq-eqb r.kind 2 k

      each : (c : ℕ) → c < bytes → Dec (c ≡ (get_or p.records (q - 1) blank).b)
          → get_or (set t (get_or p.records (q - 1) blank).b (get_or p.records (q - 1) blank).a) c 0 ≡ (first_that (ends_at c) (get_or p.records (q - 1) blank ∷ drop q (records_of p))).a
      each c l (yes i) = rw (i, its, eq-eqb r.b r.b refl, get_or-set_same t r.b r.a 0 (omega (arith, s.long, b))) refl
      each c l (no i) = rw (its, ne_eqb c r.b i, get_or-set_other t r.b c r.a 0 i) (s.each c l)

  pub starting_other : ((get_or p.records (q - 1) blank).kind ≡ 2 → ⊥) → Starting p t (q - 1)
  unfolding first_that
  starting_other n = record { room = s.room; few = s.few; within = omega (arith, s.within); long = s.long; each = λ c l. rw (at_hand, ne_eqb r.kind 2 n) (s.each c l) }

-- the row of the record that the code reads
laid_row : (p : Plan) (q : ℕ) {x : Row} {s s' : List ℕ} → p.count ≤ most_records → q < p.count → length s ≡ sheet_room → x ≡ row_of (records_of p) (get_or p.records q blank) → s' ≡ stored s q x
    → Written q (row_of (records_of p) (get_or (records_of p) q blank)) s s'
laid_row p q {x} {s} few h long e w = rw (get_or-take p.count p.records q blank h, ← e, w) (written q x s (omega arith) long)

pub records_in_lem : (p : Plan) {q : ℕ} → length p.records ≡ most_records → p.count ≤ most_records → q ≤ p.count → p.count ≤ q → length (records_of p) ≡ q
records_in_lem p long few h g = omega (arith, length-take p.count p.records)

-- a row put together from its parts
pub row_is : (r : Record) (start : ℕ) {k f t x y o a up down : ℕ} {g g' : Gap}
    → k ≡ r.kind → f ≡ r.a → o ≡ r.b → a ≡ start → t ≡ (if is wait r then a else o)
    → g ≡ gap_of r.first → g' ≡ gap_of r.second → x ≡ g.up → up ≡ g'.up → down ≡ g.down → y ≡ (if is link r then up else down)
    → record { kind = k; from = f; to = t; first = x; second = y; over = o } ≡ row_from r start
row_is r start ek ef eo ea et eg eg' ex eu ed ey = rw (ek, ef, et, ex, ey, eo, eu, ed, ea, eg, eg') refl

-- by the table of starts it is the record's row
started_row : {rs : List Record} {t : List ℕ} (r : Record) {x : Row} → Starts rs t → r.b < bytes → x ≡ row_from r (get_or t r.b 0) → x ≡ row_of rs r
started_row r s b e = e ∙ ap (row_from r) (s.each r.b b)

-- so the row that the code writes is the one of the record that it reads
pub laid_started : (p : Plan) (q : ℕ) {t : List ℕ} {x : Row} {s s' : List ℕ} → p.count ≤ most_records → q < p.count → length s ≡ sheet_room → Starts (records_of p) t → (get_or p.records q blank).b < bytes
    → x ≡ row_from (get_or p.records q blank) (get_or t (get_or p.records q blank).b 0) → s' ≡ stored s q x → Written q (row_of (records_of p) (get_or (records_of p) q blank)) s s'
laid_started p q few h long starts b e w = laid_row p q few h long (started_row (get_or p.records q blank) starts b e) w
