-- What a record's row says, by the record's kind: the entries of a list together are what the rules count. Assumes that the records
-- keep the rules of a plan.
use mathlib.Core.Path.{◌≡◌, refl, ◌∙◌, sym, ap}
use mathlib.Core.Bool.{Bool, true, false, ◌&&◌, ◌||◌}
use mathlib.Core.List.{List}
use Prim.Native.Nat.{ℕ, ◌+◌, ◌-◌, ◌%◌, ◌^◌, ◌<◌, ◌≤◌, min}
use native.Mathlib.Omega.{arith}
use borrow.Author.Tests.{lt-ltb, ne_eqb, eqb-true}
use lib.Dec.{eqb, ltb}
use lib.ListN.{length, get_or}
use Rattle.std.specs.Prelude.{if◌then◌else◌}
use Rattle.plan.specs.Limits.{most_points, most_records, farthest}
use Rattle.plan.specs.APlan.{ordinary, wait, point, link, is, one, how_many, kind_of, blank, link_to, gap_of, watched}
use Rattle.plan.specs.ReplyNumbers.{is_known}
use Rattle.records.specs.declared.Record.{Record}
use Rattle.plan.proofs.Accepted.{Accepted, not_a}
use Rattle.history.proofs.Tests.{clash}
use Rattle.lowhigh.specs.Rules.{greatest, least, never}
use Rattle.rows.specs.declared.sheet.Row.{Row}
use Rattle.rows.specs.Sheet.{row_at}
use Rattle.rows.specs.Layout.{RowIs, row_of}
use Rattle.neighbours.specs.Lists.{buckets, key_of, key_at, entries_of, top_at}
use Rattle.neighbours.proofs.Listing.{entries}
use Rattle.kept.specs.Rooms.{reach_of, holding, held_by, over_by, low_by, run_by, high_by}
use Rattle.keeping.specs.Counts.{frees, after_by, bound_by, starts_by}
use Rattle.keeping.specs.Keeps.{Listed}
use Rattle.keeping.proofs.Folding.{held_at, bound_at, off_at, low_on, run_on, high_on, sum_at, least_at, of, sum_places, top_places, least_places}

-- what is asked of a record: its points have places, its numbers are near
pub record Fine (rs : List Record) (r : Record) : Type 0 where
  pub known : is_known (kind_of r.kind) ≡ true
  pub first : is ordinary r ≡ true → r.a < most_points
  pub second : is ordinary r ≡ true → r.b < most_points
  pub up : is ordinary r ≡ true → (gap_of r.first).up ≤ farthest
  pub down : is ordinary r ≡ true → (gap_of r.first).down ≤ farthest
  pub waits : is wait r ≡ true → r.a < most_points
  pub over : is wait r ≡ true → r.b < most_points
  pub start : is wait r ≡ true → (link_to rs r.b).a < most_points
  pub most : is wait r ≡ true → (gap_of r.first).up ≤ farthest

-- ordinary, a wait, or neither
pub by_kind : (P : Type 0) (rs : List Record) (r : Record) → Fine rs r → (is ordinary r ≡ true → is wait r ≡ false → is link r ≡ false → ltb r.kind 3 ≡ false → ltb r.kind 4 ≡ true → P)
    → (is ordinary r ≡ false → is wait r ≡ true → is link r ≡ false → ltb r.kind 3 ≡ false → ltb r.kind 4 ≡ false → P)
    → (is ordinary r ≡ false → is wait r ≡ false → ltb r.kind 3 ≡ true → ltb r.kind 4 ≡ true → P) → P
by_kind P rs r fine f g h = go (is ordinary r) (is wait r) refl refl
  where
    low : (k : ℕ) → is_known (kind_of k) ≡ true → eqb k 3 ≡ false → eqb k 4 ≡ false → (ltb k 3 ≡ true) × (ltb k 4 ≡ true)
    low k e o w = at (eqb k 1) (eqb k 2) refl refl
      where
        at : (x y : Bool) → eqb k 1 ≡ x → eqb k 2 ≡ y → (ltb k 3 ≡ true) × (ltb k 4 ≡ true)
        at true y p q = let s = eqb-true k 1 p in (lt-ltb k 3 (omega arith), lt-ltb k 4 (omega arith))
        at false true p q = let s = eqb-true k 2 q in (lt-ltb k 3 (omega arith), lt-ltb k 4 (omega arith))
        at false false p q = clash (sym (rw (p, q, o, w) at e))

    go : (o w : Bool) → is ordinary r ≡ o → is wait r ≡ w → P
    go true w p q = let k = eqb-true r.kind 3 p in f p (rw k) (rw k) (rw k) (rw k)
    go false true p q = let k = eqb-true r.kind 4 q in g p q (rw k) (rw k) (rw k)
    go false false p q = let l = low r.kind fine.known p q in h p q l.0 l.1

-- the row of a record
pub row_is : {s : List ℕ} {q : ℕ} {x : Row} → RowIs s q x → row_at s q ≡ x
row_is r = λ i. record { kind = r.kind i; from = r.from i; to = r.to i; first = r.first i; second = r.second i; over = r.over i }

-- ---- tests

two : (x y n : Bool) → (if x then (if y then one (n || false) else 0) else 0) ≡ one (y && ((n && x) || false))
two true true true = refl
two true true false = refl
two true false n = refl
two false true true = refl
two false true false = refl
two false false n = refl

two_wait : (x y : Bool) → (if x then (if y then 1 else 0) else 0) ≡ one (y && x)
two_wait true true = refl
two_wait true false = refl
two_wait false true = refl
two_wait false false = refl

no_one : (y : Bool) → 0 ≡ one (y && false)
no_one true = refl
no_one false = refl

pub swap : (x y : Bool) (a v : ℕ) → (if x then (if y then v else a) else a) ≡ (if y && x then v else a)
swap true true a v = refl
swap true false a v = refl
swap false true a v = refl
swap false false a v = refl

pub none : (y : Bool) (a v : ℕ) → a ≡ (if y && false then v else a)
none true a v = refl
none false a v = refl

pub same : (x y : Bool) (a : ℕ) → (if x then (if y then a else a) else a) ≡ a
same true true a = refl
same true false a = refl
same false y a = refl

-- numbers that are near are reached as they are
pub by_gap : (t u d : ℕ) → t + farthest + farthest ≤ never → u ≤ farthest → d ≤ farthest → reach_of t 0 d u ≡ t + d - u
by_gap t u d h l m =
    let e : d % 2 ^ 32 ≡ d = omega arith in
    let f : u % 2 ^ 32 ≡ u = omega arith in
    rw (e, f) (omega arith)

pub by_wait : (t u : ℕ) → t + farthest ≤ never → u ≤ farthest → reach_of t 0 u 0 ≡ t + u
by_wait t u h l = let e : u % 2 ^ 32 ≡ u = omega arith in rw e (omega arith)

high_by_lem : (x y : Bool) (t u d : ℕ) → u ≤ farthest → d ≤ farthest
    → (if x then min (if y then reach_of t farthest u d else never) never else never) ≡ min (if y && (true && x) then t + farthest + u - d else never) never
high_by_lem true true t u d l m =
    let e : d % 2 ^ 32 ≡ d = omega arith in
    let f : u % 2 ^ 32 ≡ u = omega arith in
    rw (e, f) (omega arith)
high_by_lem true false t u d l m = refl
high_by_lem false true t u d l m = refl
high_by_lem false false t u d l m = refl

high_wait : (x y : Bool) → (if x then min (if y then never else never) never else never) ≡ never
high_wait true true = refl
high_wait true false = refl
high_wait false y = refl

high_none : (y : Bool) (v : ℕ) → never ≡ min (if y && false then v else never) never
high_none true v = refl
high_none false v = refl

-- ---- one record

-- what a row says in the list of z by what sets it free, and in the list of z by its first point
abbrev off_said : ℕ → ℕ → Row → ℕ
off_said z q x = if eqb (key_of 3 x.kind x.to) z then (if eqb (held_by x) q then one (holding x) else 0) else 0

abbrev low_said : ℕ → ℕ → ℕ → Row → ℕ
low_said t z q x = if eqb (key_of 3 x.kind x.to) z then (if eqb (held_by x) q then low_by x t else 0) else 0

abbrev run_said : ℕ → ℕ → ℕ → Row → ℕ
run_said t z q x = if eqb (key_of 3 x.kind x.to) z then (if eqb (held_by x) q then run_by x t else 0) else 0

abbrev high_said : ℕ → ℕ → ℕ → Row → ℕ
high_said t z q x = if eqb (key_of 3 x.kind x.from) z then min (if eqb (over_by x) q then high_by x t else never) never else never

module _ (rs : List Record) (r : Record) (fine : Fine rs r) (z : ℕ) (small : z < most_points) (q : ℕ) where
  no_key : eqb most_points z ≡ false
  no_key = ne_eqb 32 z (λ e. omega arith)

  -- what r takes off the count of q
  off_said_lem : off_said z q (row_of rs r) ≡ one (frees rs z q r)
  off_said_lem =
      by_kind (off_said z q (row_of rs r) ≡ one (frees rs z q r)) rs r fine
      (λ o w l k m.
      let j : r.b % buckets ≡ r.b = omega (arith, fine.second o) in
      let a : r.a % most_points ≡ r.a = omega (arith, fine.first o) in
      rw (o, w, l, k, j, a) (two (eqb r.b z) (eqb r.a q) (ltb 0 (gap_of r.first).down)))
      (λ o w l k m.
      let j : (link_to rs r.b).a % buckets ≡ (link_to rs r.b).a = omega (arith, fine.start w) in
      let a : r.a % most_points ≡ r.a = omega (arith, fine.waits w) in
      rw (o, w, k, j, a) (two_wait (eqb (link_to rs r.b).a z) (eqb r.a q)))
      (λ o w k m. rw (o, w, k, no_key) (no_one (eqb r.a q)))

  -- the minute to which r raises the window of q, and where it is a wait, its running waits
  module _ (t : ℕ) (soon : t + farthest + farthest ≤ never) where
    low_said_lem : low_said t z q (row_of rs r) ≡ after_by t z q r
    low_said_lem =
        by_kind (low_said t z q (row_of rs r) ≡ after_by t z q r) rs r fine
        (λ o w l k m.
        let j : r.b % buckets ≡ r.b = omega (arith, fine.second o) in
        let a : r.a % most_points ≡ r.a = omega (arith, fine.first o) in
        let v = by_gap t (gap_of r.first).up (gap_of r.first).down soon (fine.up o) (fine.down o) in
        rw (o, w, l, k, j, a, v) (swap (eqb r.b z) (eqb r.a q) 0 (t + (gap_of r.first).down - (gap_of r.first).up)))
        (λ o w l k m.
        rw (o, w, k) (same (eqb ((link_to rs r.b).a % buckets) z) (eqb (r.a % most_points) q) 0 ∙ none (eqb r.a q) 0 (t + (gap_of r.first).down - (gap_of r.first).up)))
        (λ o w k m. rw (o, w, k, no_key) (none (eqb r.a q) 0 (t + (gap_of r.first).down - (gap_of r.first).up)))

    run_said_lem : run_said t z q (row_of rs r) ≡ starts_by rs t z q r
    run_said_lem =
        by_kind (run_said t z q (row_of rs r) ≡ starts_by rs t z q r) rs r fine
        (λ o w l k m. rw (w, k) (same (eqb (r.b % buckets) z) (eqb (r.a % most_points) q) 0 ∙ none (eqb r.a q) 0 (t + (gap_of r.first).up)))
        (λ o w l k m.
        let j : (link_to rs r.b).a % buckets ≡ (link_to rs r.b).a = omega (arith, fine.start w) in
        let a : r.a % most_points ≡ r.a = omega (arith, fine.waits w) in
        let v = by_wait t (gap_of r.first).up (omega arith) (fine.most w) in
        rw (w, k, j, a, v) (swap (eqb (link_to rs r.b).a z) (eqb r.a q) 0 (t + (gap_of r.first).up)))
        (λ o w k m. rw (w, k, no_key) (none (eqb r.a q) 0 (t + (gap_of r.first).up)))

    -- the minute, 100,000 up, past which it does not let q come
    high_said_lem : high_said t z q (row_of rs r) ≡ min (bound_by t z q r) never
    high_said_lem =
        by_kind (high_said t z q (row_of rs r) ≡ min (bound_by t z q r) never) rs r fine
        (λ o w l k m.
        let j : r.a % buckets ≡ r.a = omega (arith, fine.first o) in
        let a : r.b % most_points ≡ r.b = omega (arith, fine.second o) in
        rw (o, l, k, j, a) (high_by_lem (eqb r.a z) (eqb r.b q) t (gap_of r.first).up (gap_of r.first).down (fine.up o) (fine.down o)))
        (λ o w l k m.
        rw (o, k) (high_wait (eqb (r.a % buckets) z) (eqb (r.b % most_points) q) ∙ high_none (eqb r.b q) (t + farthest + (gap_of r.first).up - (gap_of r.first).down)))
        (λ o w k m. rw (o, k, no_key) (high_none (eqb r.b q) (t + farthest + (gap_of r.first).up - (gap_of r.first).down)))

-- every record of an accepted plan is fine
pub all_fine : (rs : List Record) → Accepted rs → (i : ℕ) → i < length rs → Fine rs (get_or rs i blank)
all_fine rs ok i h =
    let x = ok.each i h in
    record {
      known = x.known;
      first = λ o. omega (arith, (x.names (not_a (get_or rs i blank) ordinary point (λ e. omega arith) o)).0, ok.few);
      second = λ o. omega (arith, (x.names (not_a (get_or rs i blank) ordinary point (λ e. omega arith) o)).1, ok.few);
      up = λ o. (x.ordinary_bounds o).0;
      down = λ o. (x.ordinary_bounds o).1;
      waits = λ w. omega (arith, (x.names (not_a (get_or rs i blank) wait point (λ e. omega arith) w)).0, ok.few);
      over = λ w. omega (arith, (x.names (not_a (get_or rs i blank) wait point (λ e. omega arith) w)).1, ok.few);
      start = λ w. start_of (get_or rs i blank).b (x.wait_watched w);
      most = λ w. omega (arith, (x.wait_bounds w).1, long_of (get_or rs i blank).b (x.wait_watched w));
    }
  where
    start_of : (c : ℕ) → watched rs c ≡ true → (link_to rs c).a < most_points
    start_of c w =
        let e = ok.ends c w in
        let l = rw e.2.2 at (ok.each e.2.0 e.2.1) in
        omega (arith, (l.names (not_a (link_to rs c) link point (λ u. omega arith) e.0)).0, ok.few)

    long_of : (c : ℕ) → watched rs c ≡ true → (gap_of (link_to rs c).second).up ≤ farthest
    long_of c w =
        let e = ok.ends c w in
        let l = rw e.2.2 at (ok.each e.2.0 e.2.1) in
        (l.link_bounds e.0).2

-- ---- all records

module _ (rs : List Record) (rows into out ends : List ℕ) (laid : Listed rs rows into out ends) (ok : Accepted rs) (few : length rs ≤ most_records) (z : ℕ) (small : z < most_points) (q : ℕ) where
  inside : z < buckets
  inside = omega arith

  -- what a law says of the record's row, it says of the row in the room
  at_row : (f : Row → ℕ) (k : ℕ) → k < length rs → (v : ℕ) → f (row_of rs (get_or rs k blank)) ≡ v → f (row_at rows (0 + k)) ≡ v
  at_row f k h v e = let d : 0 + k ≡ k = omega arith in rw d (ap f (row_is (laid.laid.rows k h)) ∙ e)

  -- the entries of z together take off what z sets free
  pub off_all : sum_at (of (held_at rows) q 0 (off_at rows)) (entries_of into z) ≡ how_many (frees rs z q) rs
  off_all =
      rw (entries (key_at rows 3 2) (length rs) into few laid.into_is z inside)
      (sum_places (key_at rows 3 2) (of (held_at rows) q 0 (off_at rows)) z (frees rs z q) 0 rs
      (λ k h. at_row (off_said z q) k h (one (frees rs z q (get_or rs k blank))) (off_said_lem rs (get_or rs k blank) (all_fine rs ok k h) z small q)))

  module _ (t : ℕ) (soon : t + farthest + farthest ≤ never) where
    pub low_all : top_at (of (held_at rows) q 0 (low_on rows t)) (entries_of into z) ≡ greatest (after_by t z q) rs
    low_all =
        rw (entries (key_at rows 3 2) (length rs) into few laid.into_is z inside)
        (top_places (key_at rows 3 2) (of (held_at rows) q 0 (low_on rows t)) z (after_by t z q) 0 rs
        (λ k h. at_row (low_said t z q) k h (after_by t z q (get_or rs k blank)) (low_said_lem rs (get_or rs k blank) (all_fine rs ok k h) z small q t soon)))

    pub run_all : top_at (of (held_at rows) q 0 (run_on rows t)) (entries_of into z) ≡ greatest (starts_by rs t z q) rs
    run_all =
        rw (entries (key_at rows 3 2) (length rs) into few laid.into_is z inside)
        (top_places (key_at rows 3 2) (of (held_at rows) q 0 (run_on rows t)) z (starts_by rs t z q) 0 rs
        (λ k h. at_row (run_said t z q) k h (starts_by rs t z q (get_or rs k blank)) (run_said_lem rs (get_or rs k blank) (all_fine rs ok k h) z small q t soon)))

    pub high_all : least_at (of (bound_at rows) q never (high_on rows t)) (entries_of out z) ≡ least (bound_by t z q) rs
    high_all =
        rw (entries (key_at rows 3 1) (length rs) out few laid.out_is z inside)
        (least_places (key_at rows 3 1) (of (bound_at rows) q never (high_on rows t)) z (bound_by t z q) 0 rs
        (λ k h. at_row (high_said t z q) k h (min (bound_by t z q (get_or rs k blank)) never) (high_said_lem rs (get_or rs k blank) (all_fine rs ok k h) z small q t soon)))
