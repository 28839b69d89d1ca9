-- What is kept after one point more is done is what the whole plan gives with that point done; the running waits of the points with a
-- wait on a link that ends there are left to `Ending`. Assumes that the records keep the rules of a plan.
use mathlib.Core.Path.{◌≡◌, refl, ◌∙◌, sym, ap}
use mathlib.Core.Bool.{Bool, true, false, not, ◌&&◌}
use mathlib.Core.List.{List, [], ◌∷◌}
use Prim.Native.Nat.{ℕ, suc, ◌+◌, ◌-◌, ◌<◌, ◌≤◌, max}
use native.Mathlib.Omega.{arith}
use native.Mathlib.Decide.{ℕ_discrete}
use borrow.Author.Tests.{eq-eqb, ne_eqb}
use lib.Dec.{eqb}
use lib.ListN.{length, get_or, set, length-set}
use lib.Seq.{get_or-set_same, get_or-set_other}
use Rattle.points.specs.Sets.{member, with_of}
use Rattle.std.specs.Prelude.{if◌then◌else◌}
use Rattle.plan.specs.Limits.{most_points, most_records, farthest}
use Rattle.plan.specs.APlan.{wait, is, how_many, blank, link_to, gap_of, watched}
use Rattle.records.specs.declared.Record.{Record}
use Rattle.plan.proofs.Accepted.{Accepted}
use Rattle.history.specs.History.{minute_in}
use Rattle.history.proofs.Tests.{clash}
use Rattle.calls.specs.Calls.{call_in}
use Rattle.lowhigh.specs.Rules.{greatest, never, bound as bound_of}
use Rattle.neighbours.specs.Lists.{entries_of, over}
use Rattle.kept.specs.Rooms.{lows_at, runs_at, highs_at, minutes_at, calls_at, clock_at, done_at, last_at, kept_room, freed_at, bounded_at, marked_by}
use Rattle.keeping.specs.Counts.{holds_of, low_of, wait_of, high_of, awaits, frees, starts_by}
use Rattle.keeping.specs.Keeps.{Listed, Kept}
use Rattle.keeping.proofs.Changes.{holds_fall, low_rises, high_falls, least_never, done_more, minute_same, minute_new}
use Rattle.keeping.proofs.Folding.{freed, bounded}
use Rattle.keeping.proofs.Laying.{off_all, low_all, run_all, high_all}

-- ---- running waits, where no link ends

greatest_max_at : (f g h : Record → ℕ) (rs : List Record) → ((k : ℕ) → k < length rs → f (get_or rs k blank) ≡ max (g (get_or rs k blank)) (h (get_or rs k blank)))
    → greatest f rs ≡ max (greatest g rs) (greatest h rs)
unfolding greatest
greatest_max_at f g h [] e = refl
greatest_max_at f g h (r ∷ rs) e = omega (arith, e 0 (omega arith), greatest_max_at f g h rs (λ k l. e (suc k) (omega arith)))

-- a wait that starts to run, and one that goes on as it did
started : (a w : Bool) (v u : ℕ) → (if a && (w && true) then v else 0) ≡ max (if a && (w && false) then u else 0) (if a && (w && true) then v else 0)
started true true v u = omega arith
started true false v u = refl
started false w v u = refl

went : (a w c : Bool) (v u : ℕ) → (if a && (w && c) then v else 0) ≡ max (if a && (w && c) then v else 0) (if a && (w && false) then u else 0)
went true true true v u = omega arith
went true true false v u = refl
went true false c v u = refl
went false w c v u = refl

none : (a : Bool) (v u x : ℕ) → (if a && false then v else 0) ≡ max (if a && false then u else 0) (if a && false then x else 0)
none true v u x = refl
none false v u x = refl

unended : (c : Bool) {a : Bool} → c ≡ c → (c ≡ true → a ≡ true) → a ≡ false → c ≡ false
unended true e h n = clash (sym (h refl) ∙ n)
unended false e h n = refl

module _ (rs : List Record) (ok : Accepted rs) (done : ℕ) (minutes : List ℕ) (long : length minutes ≡ most_points) (t z : ℕ) (small : z < most_points) (new : member done z ≡ false) where
  module _ (sound : (c : ℕ) → watched rs c ≡ true → member done c ≡ true → member done (link_to rs c).a ≡ true) where
    -- a wait on q that is not on a link to z
    one_wait : (q : ℕ) (r : Record) → (is wait r ≡ true → watched rs r.b ≡ true) → (is wait r ≡ true → eqb r.a q ≡ true → eqb r.b z ≡ false)
        → awaits rs (with_of done z) (set minutes z t) q r ≡ max (awaits rs done minutes q r) (starts_by rs t z q r)
    one_wait q r known apart = go (is wait r) (eqb r.a q) refl refl
      where
        at : (watched rs r.b ≡ true) → eqb r.b z ≡ false → Dec ((link_to rs r.b).a ≡ z) → awaits rs (with_of done z) (set minutes z t) q r ≡ max (awaits rs done minutes q r) (starts_by rs t z q r)
        at h other (yes e) =
            let l = ok.ends r.b h in
            let not_ended : member done r.b ≡ false = unended (member done r.b) refl (sound r.b h) (rw e new) in
            rw (
              l.0,
              l.1,
              done_more rs done minutes t z small new (link_to rs r.b).a,
              done_more rs done minutes t z small new r.b,
              other,
              not_ended,
              e,
              minute_new rs done minutes t z small new long,
              new,
              eq-eqb z z refl,
            )
            (started (eqb r.a q) (is wait r) (t + (gap_of r.first).up) (minute_in minutes z + (gap_of r.first).up))
        at h other (no n) =
            let l = ok.ends r.b h in
            rw (
              l.0,
              l.1,
              done_more rs done minutes t z small new (link_to rs r.b).a,
              done_more rs done minutes t z small new r.b,
              other,
              minute_same rs done minutes t z small new (link_to rs r.b).a n,
              ne_eqb (link_to rs r.b).a z n,
            )
            (went (eqb r.a q) (is wait r) (member done (link_to rs r.b).a && not (member done r.b)) (minute_in minutes (link_to rs r.b).a + (gap_of r.first).up) (t + (gap_of r.first).up))

        go : (w a : Bool) → is wait r ≡ w → eqb r.a q ≡ a → awaits rs (with_of done z) (set minutes z t) q r ≡ max (awaits rs done minutes q r) (starts_by rs t z q r)
        go true true p u = at (known p) (apart p u) (ℕ_discrete (link_to rs r.b).a z)
        go true false p u = rw u
        go false a p u = rw p (none (eqb r.a q) (minute_in (set minutes z t) (link_to rs r.b).a + (gap_of r.first).up) (minute_in minutes (link_to rs r.b).a + (gap_of r.first).up) (t + (gap_of r.first).up))

    -- where no wait on q is on a link to z, the running waits of q rise to what the links that start at z give
    pub waits_rise : (q : ℕ) → ((k : ℕ) → k < length rs → is wait (get_or rs k blank) ≡ true → eqb (get_or rs k blank).a q ≡ true → eqb (get_or rs k blank).b z ≡ false)
        → wait_of rs (with_of done z) (set minutes z t) q ≡ max (wait_of rs done minutes q) (greatest (starts_by rs t z q) rs)
    waits_rise q apart = greatest_max_at (awaits rs (with_of done z) (set minutes z t) q) (awaits rs done minutes q) (starts_by rs t z q) rs (λ k h. one_wait q (get_or rs k blank) (ok.each k h).wait_watched (apart k h))

-- ---- one point more is done

fall : (x y a : ℕ) → a + y ≡ x → x - y ≡ a
fall x y a e = omega arith

module _ (rs : List Record) (rows into out ends : List ℕ) (laid : Listed rs rows into out ends) (ok : Accepted rs) (few : length rs ≤ most_records)
    (clock done : ℕ) (minutes calls : List ℕ) (last : ℕ) (long : length minutes ≡ most_points) (kept : List ℕ) (k : Kept rs clock done minutes calls last kept)
    (t n z : ℕ) (small : z < most_points) (new : member done z ≡ false) (soon : t + farthest + farthest ≤ never) where
  abbrev free : List ℕ
  free = over (freed_at rows t) kept (entries_of into z)

  abbrev bound : List ℕ
  bound = over (bounded_at rows t) free (entries_of out z)

  abbrev timed : List ℕ
  timed = set bound (minutes_at + z) t

  abbrev called : List ℕ
  called = set timed (calls_at + z) n

  abbrev all : List ℕ
  all = marked_by rows into out t n z kept

  abbrev more : ℕ
  more = with_of (get_or kept done_at 0) z

  long_bound : length bound ≡ kept_room
  long_bound = (bounded rows t free (freed rows t kept k.long (entries_of into z)).long (entries_of out z)).long

  -- of the places that a mark does not store at
  other : (p : ℕ) → (p ≡ minutes_at + z → ⊥) → (p ≡ calls_at + z → ⊥) → (p ≡ done_at → ⊥) → get_or all p 0 ≡ get_or bound p 0
  other p f g h =
      get_or-set_other called done_at p more 0 h
      ∙ (get_or-set_other timed (calls_at + z) p n 0 g ∙ get_or-set_other bound (minutes_at + z) p t 0 f)

  early : (p : ℕ) → p < minutes_at → get_or all p 0 ≡ get_or bound p 0
  early p h = other p (λ e. omega arith) (λ e. omega arith) (λ e. omega arith)

  earlier : (p : ℕ) → p < highs_at → get_or all p 0 ≡ get_or free p 0
  earlier p h = early p (omega arith) ∙ (bounded rows t free (freed rows t kept k.long (entries_of into z)).long (entries_of out z)).before p h

  late : (p : ℕ) → minutes_at ≤ p → get_or bound p 0 ≡ get_or kept p 0
  late p h =
      (bounded rows t free (freed rows t kept k.long (entries_of into z)).long (entries_of out z)).past p h
      ∙ (freed rows t kept k.long (entries_of into z)).past p (omega arith)

  pub holds_kept : (q : ℕ) → q < most_points → get_or all q 0 ≡ holds_of rs (with_of done z) q
  holds_kept q h =
      earlier q (omega arith)
      ∙ (rw (off_all rs rows into out ends laid ok few z small q, k.holds q h) at ((freed rows t kept k.long (entries_of into z)).holds q h)
      ∙ fall (holds_of rs done q) (how_many (frees rs z q) rs) (holds_of rs (with_of done z) q) (holds_fall rs done minutes t z small new q))

  pub lows_kept : (q : ℕ) → q < most_points → get_or all (lows_at + q) 0 ≡ low_of rs (with_of done z) (set minutes z t) q
  lows_kept q h =
      earlier (lows_at + q) (omega arith)
      ∙ (rw (low_all rs rows into out ends laid ok few z small q t soon, k.lows q h) at ((freed rows t kept k.long (entries_of into z)).lows q h)
      ∙ sym (low_rises rs done minutes t z small new long q))

  pub highs_kept : (q : ℕ) → q < most_points → get_or all (highs_at + q) 0 ≡ high_of rs (with_of done z) (set minutes z t) q
  highs_kept q h =
      let p : get_or free (highs_at + q) 0 ≡ high_of rs done minutes q = (freed rows t kept k.long (entries_of into z)).past (highs_at + q) (omega arith) ∙ k.highs q h in
      let g = (bounded rows t free (freed rows t kept k.long (entries_of into z)).long (entries_of out z)).highs q h (omega (arith, p, k.highs q h, least_never (bound_of done minutes q) rs)) in
      early (highs_at + q) (omega arith) ∙ (rw (high_all rs rows into out ends laid ok few z small q t soon, p) at g ∙ sym (high_falls rs done minutes t z small new long q))

  pub minutes_kept : (q : ℕ) → q < most_points → get_or all (minutes_at + q) 0 ≡ minute_in (set minutes z t) q
  minutes_kept q h =
      get_or-set_other called done_at (minutes_at + q) more 0 (λ e. omega arith) ∙ (get_or-set_other timed (calls_at + z) (minutes_at + q) n 0 (λ e. omega arith) ∙ go (ℕ_discrete q z))
    where
      go : Dec (q ≡ z) → get_or timed (minutes_at + q) 0 ≡ minute_in (set minutes z t) q
      go (yes e) = rw e (get_or-set_same bound (minutes_at + z) t 0 (omega (arith, long_bound)) ∙ sym (minute_new rs done minutes t z small new long))
      go (no x) = get_or-set_other bound (minutes_at + z) (minutes_at + q) t 0 (λ e. x (omega arith)) ∙ (late (minutes_at + q) (omega arith) ∙ (k.minute q h ∙ sym (minute_same rs done minutes t z small new q x)))

  pub calls_kept : length calls ≡ most_points → (q : ℕ) → q < most_points → get_or all (calls_at + q) 0 ≡ call_in (set calls z n) q
  calls_kept room q h = get_or-set_other called done_at (calls_at + q) more 0 (λ e. omega arith) ∙ go (ℕ_discrete q z)
    where
      go : Dec (q ≡ z) → get_or called (calls_at + q) 0 ≡ call_in (set calls z n) q
      go (yes e) = rw e (get_or-set_same timed (calls_at + z) n 0 (simp length-set (omega (arith, long_bound))) ∙ sym (get_or-set_same calls z n 0 (omega arith)))
      go (no x) =
          get_or-set_other timed (calls_at + z) (calls_at + q) n 0 (λ e. x (omega arith))
          ∙ (get_or-set_other bound (minutes_at + z) (calls_at + q) t 0 (λ e. omega arith) ∙ (late (calls_at + q) (omega arith) ∙ (k.call q h ∙ sym (get_or-set_other calls z q n 0 x))))

  -- the running waits of a point with no wait on a link to z
  pub runs_kept : ((c : ℕ) → watched rs c ≡ true → member done c ≡ true → member done (link_to rs c).a ≡ true) → (q : ℕ) → q < most_points
      → ((j : ℕ) → j < length rs → is wait (get_or rs j blank) ≡ true → eqb (get_or rs j blank).a q ≡ true → eqb (get_or rs j blank).b z ≡ false) → get_or all (runs_at + q) 0 ≡ wait_of rs (with_of done z) (set minutes z t) q
  runs_kept sound q h apart =
      earlier (runs_at + q) (omega arith)
      ∙ (rw (run_all rs rows into out ends laid ok few z small q t soon, k.runs q h) at ((freed rows t kept k.long (entries_of into z)).runs q h)
      ∙ sym (waits_rise rs ok done minutes long t z small new sound q apart))

  pub long_all : length all ≡ kept_room
  long_all = simp length-set long_bound

  pub clock_kept : get_or all clock_at 0 ≡ clock
  clock_kept = other clock_at (λ e. omega arith) (λ e. omega arith) (λ e. omega arith) ∙ (late clock_at (omega arith) ∙ k.clocks)

  pub last_kept : get_or all last_at 0 ≡ last
  last_kept = other last_at (λ e. omega arith) (λ e. omega arith) (λ e. omega arith) ∙ (late last_at (omega arith) ∙ k.lasts)

  pub done_kept : get_or all done_at 0 ≡ with_of done z
  done_kept = get_or-set_same called done_at more 0 (simp length-set (omega (arith, long_bound))) ∙ ap (λ (s : ℕ). with_of s z) k.dones
