-- A link ends: the running waits of each point with a wait on it are made anew. Assumes that the records keep the rules of a plan.
use mathlib.Core.Path.{◌≡◌, refl, ◌∙◌, sym, ap}
use mathlib.Core.Bool.{Bool, true, false, not, ◌&&◌, ◌||◌}
use mathlib.Core.List.{List, [], ◌∷◌}
use mathlib.Core.Logic.{◌⊎◌, ⊎_elim}
use Prim.Native.Nat.{ℕ, zero, suc, ◌+◌, ◌-◌, ◌%◌, ◌<◌, ◌≤◌}
use native.Mathlib.Omega.{arith}
use native.Mathlib.Decide.{ℕ_discrete}
use borrow.Author.Tests.{eq-eqb, ne_eqb, eqb-true}
use lib.Dec.{eqb}
use lib.ListN.{length, get_or, set, length-set}
use lib.Seq.{get_or-set_same, get_or-set_other}
use Rattle.points.specs.Sets.{member}
use Rattle.std.specs.Prelude.{if◌then◌else◌}
use Rattle.plan.specs.Limits.{most_points, most_records, farthest}
use Rattle.plan.specs.APlan.{wait, is, blank, link_to, gap_of, watched}
use Rattle.records.specs.declared.Record.{Record}
use Rattle.plan.proofs.Accepted.{Accepted}
use Rattle.history.specs.History.{minute_in}
use Rattle.history.proofs.Tests.{clash, either}
use Rattle.lowhigh.specs.Rules.{never}
use Rattle.rows.specs.declared.sheet.Row.{Row}
use Rattle.rows.specs.Layout.{row_of}
use Rattle.neighbours.specs.Lists.{buckets, key_of, key_at, places_of, entries_of, over, top_at}
use Rattle.neighbours.proofs.Listing.{entries}
use Rattle.kept.specs.Rooms.{runs_at, highs_at, minutes_at, done_at, kept_room, running, running_at, remade_at}
use Rattle.keeping.specs.Counts.{awaits, wait_of}
use Rattle.keeping.specs.Keeps.{Listed}
use Rattle.keeping.proofs.Folding.{held_at, top_places}
use Rattle.keeping.proofs.Laying.{Fine, by_kind, none, all_fine, row_is, by_wait}

-- the room has these done points and these minutes
pub record Shows (done : ℕ) (minutes kept : List ℕ) : Type 0 where
  pub minute : (q : ℕ) → q < most_points → get_or kept (minutes_at + q) 0 ≡ minute_in minutes q
  pub dones : get_or kept done_at 0 ≡ done

early : (x : Bool) (a : ℕ) → (if x then a else a) ≡ a
early true a = refl
early false a = refl

pick : (x y : Bool) (v : ℕ) → (if x then (if y then v else 0) else 0) ≡ (if x && (true && (true && y)) then v else 0)
pick true true v = refl
pick true false v = refl
pick false y v = refl

neither : (x y : Bool) → (x || y) ≡ false → (x ≡ false) × (y ≡ false)
neither true y e = clash e
neither false y e = (refl, e)

pub by_dec : {P A : Type 0} → Dec A → (A → P) → ((A → ⊥) → P) → P
by_dec (yes a) f g = f a
by_dec (no n) f g = g n

-- what a row says in the list of q by its first point
abbrev now_said : List ℕ → ℕ → Row → ℕ
now_said kept q x = if eqb (key_of 3 x.kind x.from) q then running x kept else 0

module _ (rs : List Record) (ok : Accepted rs) (done : ℕ) (minutes : List ℕ) (near : (q : ℕ) → q < most_points → minute_in minutes q + farthest ≤ never) (kept : List ℕ) (s : Shows done minutes kept) (q : ℕ) (here : q < most_points) where
  no_key : eqb most_points q ≡ false
  no_key = ne_eqb 32 q (λ e. omega arith)

  -- what a record in the list of q gives
  run_now : (r : Record) → Fine rs r → (is wait r ≡ true → watched rs r.b ≡ true) → now_said kept q (row_of rs r) ≡ awaits rs done minutes q r
  run_now r fine known =
      by_kind (now_said kept q (row_of rs r) ≡ awaits rs done minutes q r) rs r fine
      (λ o w l k m. rw (w, k) (early (eqb (r.a % buckets) q) 0 ∙ none (eqb r.a q) 0 (minute_in minutes (link_to rs r.b).a + (gap_of r.first).up)))
      (λ o w l k m.
      let j : r.a % buckets ≡ r.a = omega (arith, fine.waits w) in
      let a : (link_to rs r.b).a % most_points ≡ (link_to rs r.b).a = omega (arith, fine.start w) in
      let c : r.b % most_points ≡ r.b = omega (arith, fine.over w) in
      let e = ok.ends r.b (known w) in
      let v = by_wait (minute_in minutes (link_to rs r.b).a) (gap_of r.first).up (near (link_to rs r.b).a (fine.start w)) (fine.most w) in
      rw (w, k, j, a, c, s.dones, s.minute (link_to rs r.b).a (fine.start w), v, e.0, e.1)
      (pick (eqb r.a q) (member done (link_to rs r.b).a && not (member done r.b)) (minute_in minutes (link_to rs r.b).a + (gap_of r.first).up)))
      (λ o w k m. rw (w, k, no_key) (none (eqb r.a q) 0 (minute_in minutes (link_to rs r.b).a + (gap_of r.first).up)))

  -- the list of q gives its running waits
  pub runs_now : (rows into out ends : List ℕ) → Listed rs rows into out ends → length rs ≤ most_records → top_at (running_at rows kept) (entries_of out q) ≡ wait_of rs done minutes q
  runs_now rows into out ends laid few =
      rw (entries (key_at rows 3 1) (length rs) out few laid.out_is q (omega arith))
      (top_places (key_at rows 3 1) (running_at rows kept) q (awaits rs done minutes q) 0 rs
      (λ k h. let e : 0 + k ≡ k = omega arith in rw e (ap (now_said kept q) (row_is (laid.laid.rows k h)) ∙ run_now (get_or rs k blank) (all_fine rs ok k h) (ok.each k h).wait_watched)))

-- ---- the fold

-- one of the entries holds q
pub held_in : List ℕ → ℕ → List ℕ → Bool
held_in rows q [] = false
held_in rows q (i ∷ is) = eqb (held_at rows i) q || held_in rows q is

-- where none does, no record with that key holds q
pub not_held : (rows : List ℕ) (key : ℕ → ℕ) (q z i n : ℕ) → held_in rows q (places_of key z i n) ≡ false → (k : ℕ) → k < n → key (i + k) ≡ z → eqb (held_at rows (i + k)) q ≡ false
unfolding held_in places_of
not_held rows key q z i zero e k h u = absurd (omega arith)
not_held rows key q z i (suc n) e k h u = go (eqb (key i) z) refl k h u (λ f m l v. not_held rows key q z (suc i) n f m l v)
  where
    go : (so : Bool) → eqb (key i) z ≡ so → (k : ℕ) → k < suc n → key (i + k) ≡ z
        → (held_in rows q (places_of key z (suc i) n) ≡ false → (m : ℕ) → m < n → key (suc i + m) ≡ z → eqb (held_at rows (suc i + m)) q ≡ false)
        → eqb (held_at rows (i + k)) q ≡ false
    go true p zero h u on = let d : i + 0 ≡ i = omega arith in rw d (neither (eqb (held_at rows i) q) (held_in rows q (places_of key z (suc i) n)) (rw p at e)).0
    go false p zero h u on = let d : i + 0 ≡ i = omega arith in clash (sym (eq-eqb (key i) z (rw d at u)) ∙ p)
    go true p (suc m) h u on =
        let d : i + suc m ≡ suc i + m = omega arith in
        rw d (on (neither (eqb (held_at rows i) q) (held_in rows q (places_of key z (suc i) n)) (rw p at e)).1 m (omega arith) (rw d at u))
    go false p (suc m) h u on =
        let d : i + suc m ≡ suc i + m = omega arith in
        rw d (on (rw p at e) m (omega arith) (rw d at u))

module _ (rs : List Record) (ok : Accepted rs) (rows into out ends : List ℕ) (laid : Listed rs rows into out ends) (few : length rs ≤ most_records)
    (done : ℕ) (minutes : List ℕ) (near : (q : ℕ) → q < most_points → minute_in minutes q + farthest ≤ never) where
  -- what is kept after the running waits of the entries' points are made anew
  pub record Remade (kept is end : List ℕ) : Type 0 where
    pub long : length end ≡ kept_room
    pub before : (p : ℕ) → p < runs_at → get_or end p 0 ≡ get_or kept p 0
    pub past : (p : ℕ) → highs_at ≤ p → get_or end p 0 ≡ get_or kept p 0
    pub right : (q : ℕ) → q < most_points → get_or kept (runs_at + q) 0 ≡ wait_of rs done minutes q → get_or end (runs_at + q) 0 ≡ wait_of rs done minutes q
    pub anew : (q : ℕ) → q < most_points → held_in rows q is ≡ true → get_or end (runs_at + q) 0 ≡ wait_of rs done minutes q

  pub remade : (kept : List ℕ) → length kept ≡ kept_room → Shows done minutes kept → (is : List ℕ) → Remade kept is (over (remade_at rows out) kept is)
  unfolding over held_in
  remade kept long s [] = record { long = long; before = λ p h. refl; past = λ p h. refl; right = λ q h e. e; anew = λ q h e. clash (sym e) }
  remade kept long s (i ∷ is) =
      let v = held_at rows i in
      let x = top_at (running_at rows kept) (entries_of out v) in
      let now = runs_now rs ok done minutes near kept s v (omega arith) rows into out ends laid few in
      let s' : Shows done minutes (set kept (runs_at + v) x) =
      record {
        minute = λ q h. get_or-set_other kept (runs_at + v) (minutes_at + q) x 0 (λ e. omega arith) ∙ s.minute q h;
        dones = get_or-set_other kept (runs_at + v) done_at x 0 (λ e. omega arith) ∙ s.dones;
      }
      in
      let f = remade (set kept (runs_at + v) x) (simp length-set long) s' is in
      let same_v : (q : ℕ) → q ≡ v → get_or (set kept (runs_at + v) x) (runs_at + q) 0 ≡ wait_of rs done minutes q = λ q e. rw e (get_or-set_same kept (runs_at + v) x 0 (omega arith) ∙ now) in
      record {
        long = f.long;
        before = λ p h. f.before p h ∙ get_or-set_other kept (runs_at + v) p x 0 (λ e. omega arith);
        past = λ p h. f.past p h ∙ get_or-set_other kept (runs_at + v) p x 0 (λ e. omega arith);
        right = λ q h e. f.right q h (by_dec (ℕ_discrete q v) (same_v q) (λ n. get_or-set_other kept (runs_at + v) (runs_at + q) x 0 (λ u. n (omega arith)) ∙ e));
        anew = λ q h e. ⊎_elim (λ u. f.right q h (same_v q (sym (eqb-true v q u)))) (λ u. f.anew q h u) (either (eqb v q) (held_in rows q is) e);
      }
