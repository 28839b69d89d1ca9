-- What the whole plan gives at the fresh board, and that the room begins with it. Assumes that the records keep the rules of a plan.
use mathlib.Core.Path.{◌≡◌, refl, ◌∙◌, sym, ap}
use mathlib.Core.Bool.{Bool, true, false, ◌&&◌, ◌||◌}
use mathlib.Core.List.{List, [], ◌∷◌}
use Prim.Native.Nat.{ℕ, zero, suc, ◌+◌, ◌-◌, ◌%◌, ◌≤◌, min}
use native.Mathlib.Omega.{arith}
use lib.Dec.{eqb, ltb}
use lib.ListN.{length, get_or, take, get_or-replicate}
use Rattle.points.proofs.Laws.{member_empty, members_empty}
use Rattle.std.specs.Prelude.{if◌then◌else◌}
use Rattle.plan.specs.Limits.{most_points, most_records, farthest}
use Rattle.plan.specs.APlan.{ordinary, wait, link, is, one, how_many, blank, link_to, gap_of}
use Rattle.records.specs.declared.Record.{Record}
use Rattle.plan.proofs.Accepted.{Accepted}
use Rattle.plan.proofs.Records.{many_snoc, one_more, all_of}
use Rattle.history.specs.History.{minute_in, largest}
use Rattle.lowhigh.specs.Rules.{shuts, greatest, least, bound, never}
use Rattle.board.specs.Boards.{fresh}
use Rattle.board.specs.Calls.{last_call}
use Rattle.rows.specs.declared.sheet.Row.{Row}
use Rattle.rows.specs.Layout.{LaidOut, row_of}
use Rattle.kept.specs.Rooms.{lows_at, runs_at, highs_at, minutes_at, calls_at, clock_at, done_at, last_at, holding, held_by}
use Rattle.kept.specs.Begins.{hold_at, sum_to, Begun}
use Rattle.keeping.specs.Counts.{holds_of, low_of, wait_of, high_of, after, awaits, holds_first}
use Rattle.keeping.specs.Keeps.{KeptOf}
use Rattle.keeping.proofs.Laying.{Fine, by_kind, all_fine, row_is}

-- ---- the whole plan at the fresh board

many_same : (f g : Record → Bool) → ((r : Record) → f r ≡ g r) → (rs : List Record) → how_many f rs ≡ how_many g rs
unfolding how_many
many_same f g e [] = refl
many_same f g e (r ∷ rs) = rw (e r, many_same f g e rs)

all_zero : (f : Record → ℕ) → ((r : Record) → f r ≡ 0) → (rs : List Record) → greatest f rs ≡ 0
unfolding greatest
all_zero f e [] = refl
all_zero f e (r ∷ rs) = rw (e r, all_zero f e rs)

all_never : (f : Record → ℕ) → ((r : Record) → f r ≡ never) → (rs : List Record) → least f rs ≡ never
unfolding least
all_never f e [] = refl
all_never f e (r ∷ rs) = rw (e r, all_never f e rs)

held : (a o n w : Bool) → (a && ((o && (n && true)) || (w && true))) ≡ (a && ((o && n) || w))
held false o n w = refl
held true true true w = refl
held true true false true = refl
held true true false false = refl
held true false n true = refl
held true false n false = refl

no : (a o : Bool) (v u : ℕ) → (if a && (o && false) then v else u) ≡ u
no true true v u = refl
no true false v u = refl
no false o v u = refl

no_run : (a w l : Bool) (v : ℕ) → (if a && (w && (l && false)) then v else 0) ≡ 0
no_run true true true v = refl
no_run true true false v = refl
no_run true false l v = refl
no_run false w l v = refl

module _ (rs : List Record) (q : ℕ) where
  fresh_holds : holds_of rs 0 q ≡ how_many (holds_first q) rs
  fresh_holds =
      many_same (shuts rs 0 q) (holds_first q)
      (λ r. rw (member_empty r.b, member_empty (link_to rs r.b).a) (held (eqb r.a q) (is ordinary r) (ltb 0 (gap_of r.first).down) (is wait r)))
      rs

  module _ (minutes : List ℕ) where
    fresh_low : low_of rs 0 minutes q ≡ 0
    fresh_low = all_zero (after 0 minutes q) (λ r. rw (member_empty r.b) (no (eqb r.a q) (is ordinary r) (minute_in minutes r.b + (gap_of r.first).down - (gap_of r.first).up) 0)) rs

    fresh_wait : wait_of rs 0 minutes q ≡ 0
    fresh_wait = all_zero (awaits rs 0 minutes q) (λ r. rw (member_empty (link_to rs r.b).a) (no_run (eqb r.a q) (is wait r) (is link (link_to rs r.b)) (minute_in minutes (link_to rs r.b).a + (gap_of r.first).up))) rs

    fresh_high : high_of rs 0 minutes q ≡ never
    fresh_high = all_never (bound 0 minutes q) (λ r. rw (member_empty r.a) (no (eqb r.b q) (is ordinary r) (minute_in minutes r.a + farthest + (gap_of r.first).up - (gap_of r.first).down) never)) rs

-- ---- the room

if_one : (x n : Bool) → (if x then one n else 0) ≡ one (x && n)
if_one true n = refl
if_one false n = refl

no_one : (x y : Bool) → (if x then 0 else 0) ≡ one (y && false)
no_one true true = refl
no_one true false = refl
no_one false true = refl
no_one false false = refl

-- what a row adds to a count is what its record adds
abbrev adds : ℕ → Row → ℕ
adds q x = if eqb (held_by x) q then one (holding x) else 0

added : (rs : List Record) (r : Record) → Fine rs r → (q : ℕ) → adds q (row_of rs r) ≡ one (holds_first q r)
added rs r fine q =
    by_kind (adds q (row_of rs r) ≡ one (holds_first q r)) rs r fine
    (λ o w l k m. let a : r.a % most_points ≡ r.a = omega (arith, fine.first o) in rw (o, w, l, a) (if_one (eqb r.a q) (ltb 0 (gap_of r.first).down || false)))
    (λ o w l k m. let a : r.a % most_points ≡ r.a = omega (arith, fine.waits w) in rw (o, w, a) (if_one (eqb r.a q) true))
    (λ o w k m. rw (o, w) (no_one (eqb (r.a % most_points) q) (eqb r.a q)))

many_le : (so : Record → Bool) (rs : List Record) → how_many so rs ≤ length rs
unfolding how_many
many_le so [] = omega arith
many_le so (r ∷ rs) = go (so r) (many_le so rs)
  where
    go : (b : Bool) → how_many so rs ≤ length rs → one b + how_many so rs ≤ suc (length rs)
    go true h = omega arith
    go false h = omega arith

no_calls : last_call fresh ≡ 0
unfolding largest
no_calls = rw members_empty

module _ (rs : List Record) (ok : Accepted rs) (few : length rs ≤ most_records) (rows : List ℕ) (laid : LaidOut rs rows) where
  sum_is : (q n : ℕ) → n ≤ length rs → sum_to (hold_at rows q) n ≡ how_many (holds_first q) (take n rs)
  unfolding sum_to how_many
  sum_is q zero h = refl
  sum_is q (suc n) h =
      let e : n + 1 ≡ suc n = omega arith in
      let m = rw e at (one_more rs n (omega arith)) in
      let a : hold_at rows q n ≡ one (holds_first q (get_or rs n blank)) = ap (adds q) (row_is (laid.rows n (omega arith))) ∙ added rs (get_or rs n blank) (all_fine rs ok n (omega arith)) q in
      rw (m, many_snoc (holds_first q) (take n rs) (get_or rs n blank), sum_is q n (omega arith), a)

  -- THE BEGINNING: the room that `begin_kept` fills is what the whole plan gives at the fresh board
  pub kept_fresh : (kept : List ℕ) → Begun rows (length rs) kept → KeptOf rs fresh kept
  kept_fresh kept b = rw no_calls
      (record {
        long = b.long;
        holds = λ q h. b.holds q h ∙ (rw (sum_is q (length rs) (omega arith), all_of rs (length rs) (omega arith)) (small q) ∙ sym (fresh_holds rs q));
        lows = λ q h. b.lows (lows_at + q) (omega arith) (omega arith) ∙ sym (fresh_low rs q fresh.minutes);
        runs = λ q h. b.lows (runs_at + q) (omega arith) (omega arith) ∙ sym (fresh_wait rs q fresh.minutes);
        highs = λ q h. b.highs (highs_at + q) (omega arith) (omega arith) ∙ sym (fresh_high rs q fresh.minutes);
        minute = λ q h. b.rest (minutes_at + q) (omega arith) ∙ sym (get_or-replicate {A = ℕ} most_points q 0 0 h);
        call = λ q h. b.rest (calls_at + q) (omega arith) ∙ sym (get_or-replicate {A = ℕ} most_points q 0 0 h);
        clocks = b.rest clock_at (omega arith);
        dones = b.rest done_at (omega arith);
        lasts = b.rest last_at (omega arith);
      })
    where
      small : (q : ℕ) → min (how_many (holds_first q) rs) never ≡ how_many (holds_first q) rs
      small q = omega (arith, many_le (holds_first q) rs)
