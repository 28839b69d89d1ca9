-- What is kept after an event's points are done is what the whole plan gives after them. Assumes that the records keep the rules of a
-- plan.
use mathlib.Core.Path.{◌≡◌, refl, ◌∙◌, sym, ap}
use mathlib.Core.Bool.{Bool, true, false, ◌||◌}
use mathlib.Core.List.{List, [], ◌∷◌}
use Prim.Native.Nat.{ℕ, ◌+◌, ◌-◌, ◌%◌, ◌<◌, ◌≤◌}
use native.Mathlib.Omega.{arith}
use native.Mathlib.Decide.{ℕ_discrete}
use borrow.Author.Tests.{ne_eqb, eqb-true}
use lib.Dec.{eqb, ltb}
use lib.ListN.{length, get_or, set, length-set}
use lib.Seq.{get_or-set_same, get_or-set_other}
use Rattle.points.specs.Sets.{member, with_of}
use Rattle.plan.specs.Limits.{most_points, most_records, farthest}
use Rattle.plan.specs.APlan.{wait, is, blank, link_to, watched}
use Rattle.records.specs.declared.Record.{Record}
use Rattle.plan.proofs.Accepted.{Accepted}
use Rattle.history.specs.History.{minute_in}
use Rattle.history.proofs.Tests.{clash}
use Rattle.lowhigh.specs.Rules.{never}
use Rattle.rows.specs.declared.sheet.Row.{Row}
use Rattle.rows.specs.Layout.{row_of}
use Rattle.neighbours.specs.Lists.{key_of, key_at, entries_of}
use Rattle.neighbours.proofs.Listing.{entries}
use Rattle.kept.specs.Rooms.{lows_at, runs_at, highs_at, minutes_at, calls_at, clock_at, done_at, last_at, held_by, marked_by, done_by, all_done_by}
use Rattle.keeping.specs.Counts.{wait_of}
use Rattle.keeping.specs.Keeps.{Listed, Kept}
use Rattle.keeping.proofs.Changes.{done_more, minute_same, minute_new}
use Rattle.keeping.proofs.Marking.{holds_kept, lows_kept, highs_kept, minutes_kept, calls_kept, runs_kept, long_all, clock_kept, last_kept, done_kept}
use Rattle.keeping.proofs.Folding.{held_at}
use Rattle.keeping.proofs.Laying.{all_fine, row_is}
use Rattle.keeping.proofs.Ending.{Shows, held_in, not_held, Remade, remade, by_dec}

-- of what is done: there is room for it, the minutes are small, and each ended link was started
pub record Fair (rs : List Record) (done : ℕ) (minutes calls : List ℕ) : Type 0 where
  pub room : length minutes ≡ most_points
  pub numbers : length calls ≡ most_points
  pub near : (q : ℕ) → q < most_points → minute_in minutes q + farthest ≤ never
  pub started : (c : ℕ) → watched rs c ≡ true → member done c ≡ true → member done (link_to rs c).a ≡ true

-- the done points, the minutes and the numbers after some points
unfoldable pub done_all : List ℕ → ℕ → ℕ
done_all [] done = done
done_all (z ∷ zs) done = done_all zs (with_of done z)

unfoldable pub set_all : ℕ → List ℕ → List ℕ → List ℕ
set_all t [] minutes = minutes
set_all t (z ∷ zs) minutes = set_all t zs (set minutes z t)

-- a wait's place in the lists of waits by C
ends_key : (x : Row) (b : ℕ) → ltb x.kind 4 ≡ false → x.over ≡ b → b < most_points → key_of 4 x.kind x.over ≡ b
ends_key x b k o h = rw (k, o) (omega arith)

module _ (rs : List Record) (ok : Accepted rs) (few : length rs ≤ most_records) (rows into out ends : List ℕ) (laid : Listed rs rows into out ends)
    (clock t n last : ℕ) (soon : t + farthest + farthest ≤ never) where
  module _ (done : ℕ) (minutes calls : List ℕ) (fair : Fair rs done minutes calls) (z : ℕ) (small : z < most_points) (new : member done z ≡ false) (begun : watched rs z ≡ true → member done (link_to rs z).a ≡ true) where
    near_after : (q : ℕ) → q < most_points → minute_in (set minutes z t) q + farthest ≤ never
    near_after q h = by_dec (ℕ_discrete q z) (λ e. rw (e, minute_new rs done minutes t z small new fair.room) (omega arith)) (λ x. rw (minute_same rs done minutes t z small new q x) (fair.near q h))

    started_after : (c : ℕ) → watched rs c ≡ true → member (with_of done z) c ≡ true → member (with_of done z) (link_to rs c).a ≡ true
    started_after c w d = rw (done_more rs done minutes t z small new (link_to rs c).a) (or_true (eqb (link_to rs c).a z) (was (eqb c z) refl (rw (done_more rs done minutes t z small new c) at d)))
      where
        or_true : (x : Bool) {y : Bool} → y ≡ true → (x || y) ≡ true
        or_true true e = refl
        or_true false e = e

        was : (x : Bool) → eqb c z ≡ x → (eqb c z || member done c) ≡ true → member done (link_to rs c).a ≡ true
        was true e u = let v = eqb-true c z e in rw v (begun (rw v at w))
        was false e u = fair.started c w (rw e at u)

    pub fair_after : Fair rs (with_of done z) (set minutes z t) (set calls z n)
    fair_after = record { room = simp length-set fair.room; numbers = simp length-set fair.numbers; near = near_after; started = started_after }

    module _ (kept : List ℕ) (k : Kept rs clock done minutes calls last kept) where
      abbrev marked : List ℕ
      marked = marked_by rows into out t n z kept

      -- a wait's key in the third list is its C, and it holds its own point
      listed : (j : ℕ) → j < length rs → is wait (get_or rs j blank) ≡ true → (key_at rows 4 5 j ≡ (get_or rs j blank).b) × (held_at rows j ≡ (get_or rs j blank).a)
      listed j h w =
          let r = get_or rs j blank in
          let f = all_fine rs ok j h in
          let e = row_is (laid.laid.rows j h) in
          let kind = eqb-true r.kind 4 w in
          let row : Row = row_of rs r in (
            ap (λ (x : Row). key_of 4 x.kind x.over) e ∙ ends_key row r.b (rw kind) refl (f.over w),
            ap held_by e ∙ placed r.a (f.waits w),
          )
        where
          placed : (a : ℕ) → a < most_points → a % most_points ≡ a
          placed a l = omega arith

      -- a point that no entry of the list of links to z holds has no wait on such a link
      apart : (q : ℕ) → held_in rows q (entries_of ends z) ≡ false → (j : ℕ) → j < length rs → is wait (get_or rs j blank) ≡ true → eqb (get_or rs j blank).a q ≡ true → eqb (get_or rs j blank).b z ≡ false
      apart q e j h w a = ne_eqb (get_or rs j blank).b z
          (λ u.
          let i = listed j h w in
          let l : 0 + j ≡ j = omega arith in
          let held : eqb (held_at rows j) q ≡ false = rw l at (not_held rows (key_at rows 4 5) q z 0 (length rs) (rw (entries (key_at rows 4 5) (length rs) ends few laid.ends_is z (omega arith)) at e) j h (rw l (i.0 ∙ u))) in
          clash (sym a ∙ rw i.1 at held))

      shown : Shows (with_of done z) (set minutes z t) marked
      shown =
          record {
            minute = minutes_kept rs rows into out ends laid ok few clock done minutes calls last fair.room kept k t n z small new soon;
            dones = done_kept rs rows into out ends laid ok few clock done minutes calls last fair.room kept k t n z small new soon;
          }

      remake : Remade rs ok rows into out ends laid few (with_of done z) (set minutes z t) near_after marked (entries_of ends z) (done_by rows into out ends t n z kept)
      remake = remade rs ok rows into out ends laid few (with_of done z) (set minutes z t) near_after marked (long_all rs rows into out ends laid ok few clock done minutes calls last fair.room kept k t n z small new soon) shown (entries_of ends z)

      -- ONE POINT MORE: what is kept is again what the whole plan gives
      pub kept_done : Kept rs clock (with_of done z) (set minutes z t) (set calls z n) last (done_by rows into out ends t n z kept)
      kept_done =
          record {
            long = remake.long;
            holds = λ q h. remake.before q (omega arith) ∙ holds_kept rs rows into out ends laid ok few clock done minutes calls last fair.room kept k t n z small new soon q h;
            lows = λ q h. remake.before (lows_at + q) (omega arith) ∙ lows_kept rs rows into out ends laid ok few clock done minutes calls last fair.room kept k t n z small new soon q h;
            runs = λ q h. go q h (held_in rows q (entries_of ends z)) refl;
            highs = λ q h. remake.past (highs_at + q) (omega arith) ∙ highs_kept rs rows into out ends laid ok few clock done minutes calls last fair.room kept k t n z small new soon q h;
            minute = λ q h. remake.past (minutes_at + q) (omega arith) ∙ minutes_kept rs rows into out ends laid ok few clock done minutes calls last fair.room kept k t n z small new soon q h;
            call = λ q h. remake.past (calls_at + q) (omega arith) ∙ calls_kept rs rows into out ends laid ok few clock done minutes calls last fair.room kept k t n z small new soon fair.numbers q h;
            clocks = remake.past clock_at (omega arith) ∙ clock_kept rs rows into out ends laid ok few clock done minutes calls last fair.room kept k t n z small new soon;
            dones = remake.past done_at (omega arith) ∙ done_kept rs rows into out ends laid ok few clock done minutes calls last fair.room kept k t n z small new soon;
            lasts = remake.past last_at (omega arith) ∙ last_kept rs rows into out ends laid ok few clock done minutes calls last fair.room kept k t n z small new soon;
          }
        where
          go : (q : ℕ) → q < most_points → (so : Bool) → held_in rows q (entries_of ends z) ≡ so → get_or (done_by rows into out ends t n z kept) (runs_at + q) 0 ≡ wait_of rs (with_of done z) (set minutes z t) q
          go q h true e = remake.anew q h e
          go q h false e = remake.right q h (runs_kept rs rows into out ends laid ok few clock done minutes calls last fair.room kept k t n z small new soon fair.started q h (apart q e))

  -- the points of an event, one after the other
  abbrev pub Doable : ℕ → List ℕ → Type 0
  Doable done [] = Unit {0}
  Doable done (z ∷ zs) = (z < most_points) × (member done z ≡ false) × (watched rs z ≡ true → member done (link_to rs z).a ≡ true) × Doable (with_of done z) zs

  -- SOME POINTS: what is kept is what the whole plan gives after them
  pub kept_all : (zs : List ℕ) (done : ℕ) (minutes calls : List ℕ) → Fair rs done minutes calls → Doable done zs → (kept : List ℕ) → Kept rs clock done minutes calls last kept
      → Kept rs clock (done_all zs done) (set_all t zs minutes) (set_all n zs calls) last (all_done_by rows into out ends t n zs kept)
  unfolding done_all set_all all_done_by
  kept_all [] done minutes calls fair d kept k = k
  kept_all (z ∷ zs) done minutes calls fair d kept k =
      kept_all zs (with_of done z) (set minutes z t) (set calls z n) (fair_after done minutes calls fair z d.0 d.1 d.2) d.3 (done_by rows into out ends t n z kept)
      (kept_done done minutes calls fair z d.0 d.1 d.2 kept k)

-- the clock and the number of the last event alone
pub kept_timed : (rs : List Record) (clock done : ℕ) (minutes calls : List ℕ) (last : ℕ) (kept : List ℕ) (t n : ℕ) → Kept rs clock done minutes calls last kept
    → Kept rs t done minutes calls n (set (set kept clock_at t) last_at n)
kept_timed rs clock done minutes calls last kept t n k =
    let other : (p : ℕ) → (p ≡ clock_at → ⊥) → (p ≡ last_at → ⊥) → get_or (set (set kept clock_at t) last_at n) p 0 ≡ get_or kept p 0 =
    λ p f g. get_or-set_other (set kept clock_at t) last_at p n 0 g ∙ get_or-set_other kept clock_at p t 0 f in
    record {
      long = simp length-set k.long;
      holds = λ q h. other q (λ e. omega arith) (λ e. omega arith) ∙ k.holds q h;
      lows = λ q h. other (lows_at + q) (λ e. omega arith) (λ e. omega arith) ∙ k.lows q h;
      runs = λ q h. other (runs_at + q) (λ e. omega arith) (λ e. omega arith) ∙ k.runs q h;
      highs = λ q h. other (highs_at + q) (λ e. omega arith) (λ e. omega arith) ∙ k.highs q h;
      minute = λ q h. other (minutes_at + q) (λ e. omega arith) (λ e. omega arith) ∙ k.minute q h;
      call = λ q h. other (calls_at + q) (λ e. omega arith) (λ e. omega arith) ∙ k.call q h;
      clocks = get_or-set_other (set kept clock_at t) last_at clock_at n 0 (λ e. omega arith) ∙ get_or-set_same kept clock_at t 0 (omega (arith, k.long));
      dones = other done_at (λ e. omega arith) (λ e. omega arith) ∙ k.dones;
      lasts = get_or-set_same (set kept clock_at t) last_at n 0 (simp length-set (omega (arith, k.long)));
    }
