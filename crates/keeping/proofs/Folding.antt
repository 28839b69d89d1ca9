-- What a fold along a list of entries does to each place of the room, and what the entries of a list give together: a
-- count, largest or least over all records. Assumes nothing.
use mathlib.Core.Path.{◌≡◌, refl, ◌∙◌, sym}
use mathlib.Core.Bool.{Bool, true, false, ◌&&◌}
use mathlib.Core.List.{List, [], ◌∷◌}
use Prim.Native.Nat.{ℕ, suc, ◌+◌, ◌-◌, ◌<◌, ◌≤◌, min, max}
use native.Mathlib.Omega.{arith}
use native.Mathlib.Decide.{ℕ_discrete}
use borrow.Author.Tests.{eq-eqb, ne_eqb}
use lib.Dec.{eqb}
use lib.ListN.{length, get_or, set, length-set}
use lib.Seq.{get_or-set_same, get_or-set_other}
use Rattle.std.specs.Prelude.{if◌then◌else◌, Some}
use Rattle.plan.specs.Limits.{most_points}
use Rattle.plan.specs.APlan.{one, how_many, blank}
use Rattle.records.specs.declared.Record.{Record}
use Rattle.history.proofs.Tests.{clash}
use Rattle.lowhigh.specs.Rules.{greatest, least, never, place_from, number_at}
use Rattle.rows.specs.Sheet.{row_at}
use Rattle.neighbours.specs.Lists.{places_of, over, top_at, first_at}
use Rattle.kept.specs.Rooms.{lows_at, runs_at, highs_at, minutes_at, kept_room, holding, held_by, over_by, low_by, run_by, high_by, freed_at, bounded_at}
use Rattle.keeping.proofs.Changes.{least_never}

-- ---- what a row says, by its number

abbrev pub held_at : List ℕ → ℕ → ℕ
held_at rows i = held_by (row_at rows i)

abbrev pub bound_at : List ℕ → ℕ → ℕ
bound_at rows i = over_by (row_at rows i)

abbrev pub off_at : List ℕ → ℕ → ℕ
off_at rows i = one (holding (row_at rows i))

abbrev pub low_on : List ℕ → ℕ → ℕ → ℕ
low_on rows t i = low_by (row_at rows i) t

abbrev pub run_on : List ℕ → ℕ → ℕ → ℕ
run_on rows t i = run_by (row_at rows i) t

abbrev pub high_on : List ℕ → ℕ → ℕ → ℕ
high_on rows t i = high_by (row_at rows i) t

-- ---- what the entries give together

pub sum_at : (ℕ → ℕ) → List ℕ → ℕ
sum_at val [] = 0
sum_at val (i ∷ is) = val i + sum_at val is

pub least_at : (ℕ → ℕ) → List ℕ → ℕ
least_at val [] = never
least_at val (i ∷ is) = min (val i) (least_at val is)

-- the entry i's value where it is about the point q
abbrev pub of : (ℕ → ℕ) → ℕ → ℕ → (ℕ → ℕ) → ℕ → ℕ
of place q none val i = if eqb (place i) q then val i else none

-- ---- one place of a room

put_off : (xs : List ℕ) (p q v : ℕ) → p < length xs → get_or (set xs p (get_or xs p 0 - v)) q 0 ≡ get_or xs q 0 - (if eqb p q then v else 0)
put_off xs p q v h = go (ℕ_discrete q p)
  where
    go : Dec (q ≡ p) → get_or (set xs p (get_or xs p 0 - v)) q 0 ≡ get_or xs q 0 - (if eqb p q then v else 0)
    go (yes e) = rw (e, eq-eqb p p refl, get_or-set_same xs p (get_or xs p 0 - v) 0 h)
    go (no n) = rw (get_or-set_other xs p q (get_or xs p 0 - v) 0 n, ne_eqb p q (λ e. n (sym e))) (omega arith)

put_top : (xs : List ℕ) (p q v : ℕ) → p < length xs → get_or (set xs p (max (get_or xs p 0) v)) q 0 ≡ max (get_or xs q 0) (if eqb p q then v else 0)
put_top xs p q v h = go (ℕ_discrete q p)
  where
    go : Dec (q ≡ p) → get_or (set xs p (max (get_or xs p 0) v)) q 0 ≡ max (get_or xs q 0) (if eqb p q then v else 0)
    go (yes e) = rw (e, eq-eqb p p refl, get_or-set_same xs p (max (get_or xs p 0) v) 0 h)
    go (no n) = rw (get_or-set_other xs p q (max (get_or xs p 0) v) 0 n, ne_eqb p q (λ e. n (sym e))) (omega arith)

put_least : (xs : List ℕ) (p q v : ℕ) → p < length xs → get_or xs q 0 ≤ never → get_or (set xs p (min (get_or xs p 0) v)) q 0 ≡ min (get_or xs q 0) (if eqb p q then v else never)
put_least xs p q v h l = go (ℕ_discrete q p)
  where
    go : Dec (q ≡ p) → get_or (set xs p (min (get_or xs p 0) v)) q 0 ≡ min (get_or xs q 0) (if eqb p q then v else never)
    go (yes e) = rw (e, eq-eqb p p refl, get_or-set_same xs p (min (get_or xs p 0) v) 0 h)
    go (no n) = rw (get_or-set_other xs p q (min (get_or xs p 0) v) 0 n, ne_eqb p q (λ e. n (sym e))) (omega arith)

shift : (a p q : ℕ) → eqb (a + p) (a + q) ≡ eqb p q
shift a p q = go (ℕ_discrete p q)
  where
    go : Dec (p ≡ q) → eqb (a + p) (a + q) ≡ eqb p q
    go (yes e) = rw (e, eq-eqb q q refl, eq-eqb (a + q) (a + q) refl)
    go (no n) = rw (ne_eqb p q n, ne_eqb (a + p) (a + q) (λ e. n (omega arith)))

clamped : (a b x y : ℕ) → y ≡ x → x ≤ never → min a never ≡ min b never → min a y ≡ min b x
clamped a b x y e l h = rw e (omega arith)

unbound : (b x y : ℕ) → y ≡ x → x ≤ never → never ≡ min b never → y ≡ min b x
unbound b x y e l h = rw e (omega arith)

-- ---- one entry

module _ (rows : List ℕ) (t : ℕ) (kept : List ℕ) (long : length kept ≡ kept_room) (i : ℕ) where
  abbrev held : ℕ
  held = held_at rows i

  abbrev low : ℕ
  low = max (get_or kept (lows_at + held) 0) (low_on rows t i)

  abbrev run : ℕ
  run = max (get_or kept (runs_at + held) 0) (run_on rows t i)

  abbrev first : List ℕ
  first = set kept held (get_or kept held 0 - off_at rows i)

  abbrev second : List ℕ
  second = set first (lows_at + held) low

  freed_long : length (freed_at rows t kept i) ≡ kept_room
  freed_long = simp length-set long

  -- a place past the three tables stays
  freed_past : (p : ℕ) → highs_at ≤ p → get_or (freed_at rows t kept i) p 0 ≡ get_or kept p 0
  freed_past p h =
      get_or-set_other second (runs_at + held) p run 0 (λ e. omega arith)
      ∙ (get_or-set_other first (lows_at + held) p low 0 (λ e. omega arith) ∙ get_or-set_other kept held p (get_or kept held 0 - off_at rows i) 0 (λ e. omega arith))

  module _ (q : ℕ) (here : q < most_points) where
    freed_hold : get_or (freed_at rows t kept i) q 0 ≡ get_or kept q 0 - of (held_at rows) q 0 (off_at rows) i
    freed_hold =
        get_or-set_other second (runs_at + held) q run 0 (λ e. omega arith)
        ∙ (get_or-set_other first (lows_at + held) q low 0 (λ e. omega arith) ∙ put_off kept held q (off_at rows i) (omega arith))

    freed_low : get_or (freed_at rows t kept i) (lows_at + q) 0 ≡ max (get_or kept (lows_at + q) 0) (of (held_at rows) q 0 (low_on rows t) i)
    freed_low =
        let s = get_or-set_other kept held (lows_at + held) (get_or kept held 0 - off_at rows i) 0 (λ e. omega arith) in
        let o = get_or-set_other kept held (lows_at + q) (get_or kept held 0 - off_at rows i) 0 (λ e. omega arith) in
        get_or-set_other second (runs_at + held) (lows_at + q) run 0 (λ e. omega arith)
        ∙ rw (s, o, shift lows_at held q) at (put_top first (lows_at + held) (lows_at + q) (low_on rows t i) (simp length-set (omega arith)))

    freed_run : get_or (freed_at rows t kept i) (runs_at + q) 0 ≡ max (get_or kept (runs_at + q) 0) (of (held_at rows) q 0 (run_on rows t) i)
    freed_run =
        let s : get_or second (runs_at + held) 0 ≡ get_or kept (runs_at + held) 0 = get_or-set_other first (lows_at + held) (runs_at + held) low 0 (λ e. omega arith) ∙ get_or-set_other kept held (runs_at + held) (get_or kept held 0 - off_at rows i) 0 (λ e. omega arith) in
        let o : get_or second (runs_at + q) 0 ≡ get_or kept (runs_at + q) 0 = get_or-set_other first (lows_at + held) (runs_at + q) low 0 (λ e. omega arith) ∙ get_or-set_other kept held (runs_at + q) (get_or kept held 0 - off_at rows i) 0 (λ e. omega arith) in
        rw (s, o, shift runs_at held q) at (put_top second (runs_at + held) (runs_at + q) (run_on rows t i) (simp length-set (omega arith)))

-- ---- all entries of a list

-- what is kept after every record of the list is free
pub record Freed (rows : List ℕ) (t : ℕ) (kept : List ℕ) (is : List ℕ) (end : List ℕ) : Type 0 where
  pub long : length end ≡ kept_room
  pub holds : (q : ℕ) → q < most_points → get_or end q 0 ≡ get_or kept q 0 - sum_at (of (held_at rows) q 0 (off_at rows)) is
  pub lows : (q : ℕ) → q < most_points → get_or end (lows_at + q) 0 ≡ max (get_or kept (lows_at + q) 0) (top_at (of (held_at rows) q 0 (low_on rows t)) is)
  pub runs : (q : ℕ) → q < most_points → get_or end (runs_at + q) 0 ≡ max (get_or kept (runs_at + q) 0) (top_at (of (held_at rows) q 0 (run_on rows t)) is)
  pub past : (p : ℕ) → highs_at ≤ p → get_or end p 0 ≡ get_or kept p 0

less : (a b c : ℕ) → a - b - c ≡ a - (b + c)
less a b c = omega arith

most : (a b c : ℕ) → max (max a b) c ≡ max a (max b c)
most a b c = omega arith

fewest : (a b c : ℕ) → min (min a b) c ≡ min a (min b c)
fewest a b c = omega arith

pub freed : (rows : List ℕ) (t : ℕ) (kept : List ℕ) → length kept ≡ kept_room → (is : List ℕ) → Freed rows t kept is (over (freed_at rows t) kept is)
unfolding over sum_at top_at
freed rows t kept long [] =
    record {
      long = long;
      holds = λ q h. omega arith;
      lows = λ q h. omega arith;
      runs = λ q h. omega arith;
      past = λ p h. refl;
    }
freed rows t kept long (i ∷ is) =
    let f = freed rows t (freed_at rows t kept i) (freed_long rows t kept long i) is in
    record {
      long = f.long;
      holds = λ q h. f.holds q h ∙ rw (freed_hold rows t kept long i q h) (less (get_or kept q 0) (of (held_at rows) q 0 (off_at rows) i) (sum_at (of (held_at rows) q 0 (off_at rows)) is));
      lows = λ q h. f.lows q h ∙ rw (freed_low rows t kept long i q h) (most (get_or kept (lows_at + q) 0) (of (held_at rows) q 0 (low_on rows t) i) (top_at (of (held_at rows) q 0 (low_on rows t)) is));
      runs = λ q h. f.runs q h ∙ rw (freed_run rows t kept long i q h) (most (get_or kept (runs_at + q) 0) (of (held_at rows) q 0 (run_on rows t) i) (top_at (of (held_at rows) q 0 (run_on rows t)) is));
      past = λ p h. f.past p h ∙ freed_past rows t kept long i p h;
    }

-- what is kept after every record of the list has bounded its point
pub record Bounded (rows : List ℕ) (t : ℕ) (kept : List ℕ) (is : List ℕ) (end : List ℕ) : Type 0 where
  pub long : length end ≡ kept_room
  pub highs : (q : ℕ) → q < most_points → get_or kept (highs_at + q) 0 ≤ never → get_or end (highs_at + q) 0 ≡ min (get_or kept (highs_at + q) 0) (least_at (of (bound_at rows) q never (high_on rows t)) is)
  pub before : (p : ℕ) → p < highs_at → get_or end p 0 ≡ get_or kept p 0
  pub past : (p : ℕ) → minutes_at ≤ p → get_or end p 0 ≡ get_or kept p 0

pub bounded : (rows : List ℕ) (t : ℕ) (kept : List ℕ) → length kept ≡ kept_room → (is : List ℕ) → Bounded rows t kept is (over (bounded_at rows t) kept is)
unfolding over least_at
bounded rows t kept long [] = record { long = long; highs = λ q h l. omega arith; before = λ p h. refl; past = λ p h. refl }
bounded rows t kept long (i ∷ is) =
    let v = min (get_or kept (highs_at + bound_at rows i) 0) (high_on rows t i) in
    let f = bounded rows t (bounded_at rows t kept i) (simp length-set long) is in
    record {
      long = f.long;
      highs = λ q h l.
          let o = rw (shift highs_at (bound_at rows i) q) at (put_least kept (highs_at + bound_at rows i) (highs_at + q) (high_on rows t i) (omega arith) l) in
          f.highs q h (omega (arith, o))
          ∙ rw o (fewest (get_or kept (highs_at + q) 0) (of (bound_at rows) q never (high_on rows t) i) (least_at (of (bound_at rows) q never (high_on rows t)) is));
      before = λ p h. f.before p h ∙ get_or-set_other kept (highs_at + bound_at rows i) p v 0 (λ e. omega arith);
      past = λ p h. f.past p h ∙ get_or-set_other kept (highs_at + bound_at rows i) p v 0 (λ e. omega arith);
    }

-- ---- the entries of a list, over the records

module _ (key val : ℕ → ℕ) (z : ℕ) where
  pub sum_places : (so : Record → Bool) (i : ℕ) (rs : List Record)
      → ((k : ℕ) → k < length rs → (if eqb (key (i + k)) z then val (i + k) else 0) ≡ one (so (get_or rs k blank)))
      → sum_at val (places_of key z i (length rs)) ≡ how_many so rs
  unfolding sum_at places_of how_many
  sum_places so i [] e = refl
  sum_places so i (r ∷ rs) e = go (eqb (key i) z) refl (sum_places so (suc i) rs later)
    where
      later : (k : ℕ) → k < length rs → (if eqb (key (suc i + k)) z then val (suc i + k) else 0) ≡ one (so (get_or rs k blank))
      later k h = let d : i + suc k ≡ suc i + k = omega arith in rw d at (e (suc k) (omega arith))

      here : (if eqb (key i) z then val i else 0) ≡ one (so r)
      here = let d : i + 0 ≡ i = omega arith in rw d at (e 0 (omega arith))

      go : (b : Bool) → eqb (key i) z ≡ b → sum_at val (places_of key z (suc i) (length rs)) ≡ how_many so rs
          → sum_at val (if b then i ∷ places_of key z (suc i) (length rs) else places_of key z (suc i) (length rs)) ≡ one (so r) + how_many so rs
      go true h it = omega (arith, it, rw h at here)
      go false h it = omega (arith, it, rw h at here)

  pub top_places : (f : Record → ℕ) (i : ℕ) (rs : List Record)
      → ((k : ℕ) → k < length rs → (if eqb (key (i + k)) z then val (i + k) else 0) ≡ f (get_or rs k blank))
      → top_at val (places_of key z i (length rs)) ≡ greatest f rs
  unfolding top_at places_of greatest
  top_places f i [] e = refl
  top_places f i (r ∷ rs) e = go (eqb (key i) z) refl (top_places f (suc i) rs later)
    where
      later : (k : ℕ) → k < length rs → (if eqb (key (suc i + k)) z then val (suc i + k) else 0) ≡ f (get_or rs k blank)
      later k h = let d : i + suc k ≡ suc i + k = omega arith in rw d at (e (suc k) (omega arith))

      here : (if eqb (key i) z then val i else 0) ≡ f r
      here = let d : i + 0 ≡ i = omega arith in rw d at (e 0 (omega arith))

      go : (b : Bool) → eqb (key i) z ≡ b → top_at val (places_of key z (suc i) (length rs)) ≡ greatest f rs
          → top_at val (if b then i ∷ places_of key z (suc i) (length rs) else places_of key z (suc i) (length rs)) ≡ max (f r) (greatest f rs)
      go true h it = omega (arith, it, rw h at here)
      go false h it = omega (arith, it, rw h at here)

  pub least_places : (f : Record → ℕ) (i : ℕ) (rs : List Record)
      → ((k : ℕ) → k < length rs → (if eqb (key (i + k)) z then min (val (i + k)) never else never) ≡ min (f (get_or rs k blank)) never)
      → least_at val (places_of key z i (length rs)) ≡ least f rs
  unfolding least_at places_of least
  least_places f i [] e = refl
  least_places f i (r ∷ rs) e = go (eqb (key i) z) refl (least_places f (suc i) rs later)
    where
      later : (k : ℕ) → k < length rs → (if eqb (key (suc i + k)) z then min (val (suc i + k)) never else never) ≡ min (f (get_or rs k blank)) never
      later k h = let d : i + suc k ≡ suc i + k = omega arith in rw d at (e (suc k) (omega arith))

      here : (if eqb (key i) z then min (val i) never else never) ≡ min (f r) never
      here = let d : i + 0 ≡ i = omega arith in rw d at (e 0 (omega arith))

      go : (b : Bool) → eqb (key i) z ≡ b → least_at val (places_of key z (suc i) (length rs)) ≡ least f rs
          → least_at val (if b then i ∷ places_of key z (suc i) (length rs) else places_of key z (suc i) (length rs)) ≡ min (f r) (least f rs)
      go true h it = clamped (val i) (f r) (least f rs) (least_at val (places_of key z (suc i) (length rs))) it (least_never f rs) (rw h at here)
      go false h it = unbound (f r) (least f rs) (least_at val (places_of key z (suc i) (length rs))) it (least_never f rs) (rw h at here)

  -- the first entry that is so is the first record that is
  pub first_places : (at : ℕ → Bool) (so : Record → Bool) (i : ℕ) (rs : List Record)
      → ((k : ℕ) → k < length rs → (eqb (key (i + k)) z && at (i + k)) ≡ so (get_or rs k blank))
      → first_at at (places_of key z i (length rs)) ≡ number_at (place_from i so rs)
  unfolding first_at places_of place_from
  first_places at so i [] e = refl
  first_places at so i (r ∷ rs) e = go (eqb (key i) z) (at i) (so r) here (first_places at so (suc i) rs later) refl refl
    where
      later : (k : ℕ) → k < length rs → (eqb (key (suc i + k)) z && at (suc i + k)) ≡ so (get_or rs k blank)
      later k h = let d : i + suc k ≡ suc i + k = omega arith in rw d at (e (suc k) (omega arith))

      here : (eqb (key i) z && at i) ≡ so r
      here = let d : i + 0 ≡ i = omega arith in rw d at (e 0 (omega arith))

      go : (b a s : Bool) → (b && a) ≡ s → first_at at (places_of key z (suc i) (length rs)) ≡ number_at (place_from (suc i) so rs)
          → eqb (key i) z ≡ b → at i ≡ a → first_at at (if b then i ∷ places_of key z (suc i) (length rs) else places_of key z (suc i) (length rs)) ≡ number_at (if s then Some i else place_from (suc i) so rs)
      go true true true h it p u = rw u
      go true true false h it p u = clash h
      go true false true h it p u = clash (sym h)
      go true false false h it p u = rw u it
      go false a true h it p u = clash (sym h)
      go false a false h it p u = it
