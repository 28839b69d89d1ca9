-- The windows from what is kept are those of the rules, and the first record that holds a point is the rules' first. Assumes that the
-- room is what the whole plan gives.
use mathlib.Core.Path.{◌≡◌, refl, ◌∙◌, sym, ap}
use mathlib.Core.Bool.{Bool, true, false, not, ◌&&◌, ◌||◌}
use mathlib.Core.List.{List, [], ◌∷◌}
use Prim.Native.Nat.{ℕ, ◌+◌, ◌%◌, ◌<◌, ◌≤◌}
use native.Mathlib.Omega.{arith}
use borrow.Author.Tests.{ne_eqb}
use lib.Dec.{eqb, ltb}
use lib.ListN.{length, get_or, drop}
use lib.Seq.{get_or-drop}
use Rattle.points.specs.Sets.{member}
use Rattle.std.specs.Prelude.{if◌then◌else◌, Option, Some, None}
use Rattle.plan.specs.Limits.{most_points, most_records}
use Rattle.plan.specs.APlan.{one, how_many, some, blank, link_to, gap_of}
use Rattle.records.specs.declared.Record.{Record}
use Rattle.plan.proofs.Accepted.{Accepted}
use Rattle.links.specs.Inside.{LinksOf}
use Rattle.links.specs.declared.Links.{Links}
use Rattle.history.proofs.Tests.{clash}
use Rattle.lowhigh.specs.Rules.{shuts, is_open, place_from, is_nothing, number_at, holder}
use Rattle.lowhigh.proofs.Firsts.{nothing_so}
use Rattle.windows.specs.Inside.{WindowsOf}
use Rattle.windows.specs.declared.Windows.{Windows}
use Rattle.rows.specs.declared.sheet.Row.{Row}
use Rattle.rows.specs.Layout.{row_of}
use Rattle.neighbours.specs.Lists.{buckets, key_of, key_at, entries_of, first_at}
use Rattle.neighbours.proofs.Listing.{entries}
use Rattle.kept.specs.Rooms.{highs_at}
use Rattle.keeping.specs.Keeps.{Listed, Kept}
use Rattle.keeping.proofs.Changes.{low_is}
use Rattle.keeping.proofs.Folding.{first_places}
use Rattle.keeping.proofs.Laying.{Fine, by_kind, all_fine, row_is}
use Rattle.kept_windows.specs.Answers.{open_at, shut_by, shut_at, holder_at, Answered}

-- none is so exactly where the count is 0
pub none_is : (so : Record → Bool) (rs : List Record) → eqb (how_many so rs) 0 ≡ not (some so rs)
unfolding how_many some
none_is so [] = refl
none_is so (r ∷ rs) = go (so r) (none_is so rs)
  where
    go : (b : Bool) → eqb (how_many so rs) 0 ≡ not (some so rs) → eqb (one b + how_many so rs) 0 ≡ not (b || some so rs)
    go true h = ne_eqb (1 + how_many so rs) 0 (λ e. omega arith)
    go false h = let e : 0 + how_many so rs ≡ how_many so rs = omega arith in rw e h

-- ---- the first record that holds a point

-- what a row says in the list of q by its first point
abbrev shut_said : ℕ → ℕ → Row → Bool
shut_said done q x = eqb (key_of 3 x.kind x.from) q && shut_by x done

swap : (x n y : Bool) → (x && ((n || false) && not y)) ≡ (x && ((n && not y) || false))
swap true true true = refl
swap true true false = refl
swap true false y = refl
swap false n y = refl

none : (x : Bool) → false ≡ (x && false)
none true = refl
none false = refl

module _ (rs : List Record) (ok : Accepted rs) (done q : ℕ) (here : q < most_points) where
  no_key : eqb most_points q ≡ false
  no_key = ne_eqb 32 q (λ e. omega arith)

  shut_said_lem : (r : Record) → Fine rs r → shut_said done q (row_of rs r) ≡ shuts rs done q r
  shut_said_lem r fine =
      by_kind (shut_said done q (row_of rs r) ≡ shuts rs done q r) rs r fine
      (λ o w l k m.
      let j : r.a % buckets ≡ r.a = omega (arith, fine.first o) in
      let c : r.b % most_points ≡ r.b = omega (arith, fine.second o) in
      rw (o, w, l, k, j, c) (swap (eqb r.a q) (ltb 0 (gap_of r.first).down) (member done r.b)))
      (λ o w l k m.
      let j : r.a % buckets ≡ r.a = omega (arith, fine.waits w) in
      let c : (link_to rs r.b).a % most_points ≡ (link_to rs r.b).a = omega (arith, fine.start w) in
      rw (o, w, k, j, c))
      (λ o w k m. rw (o, w, k, no_key) (none (eqb r.a q)))

  -- the first entry of q that still holds is the first record of all that does
  pub holder_is : (rows into out ends : List ℕ) → Listed rs rows into out ends → length rs ≤ most_records → first_at (shut_at rows done) (entries_of out q) ≡ holder rs done q
  holder_is rows into out ends laid few =
      rw (entries (key_at rows 3 1) (length rs) out few laid.out_is q (omega arith))
      (first_places (key_at rows 3 1) (λ (i : ℕ). i) q (shut_at rows done) (shuts rs done q) 0 rs
      (λ k h. let e : 0 + k ≡ k = omega arith in rw e (ap (shut_said done q) (row_is (laid.laid.rows k h)) ∙ shut_said_lem (get_or rs k blank) (all_fine rs ok k h))))

-- where nothing holds there is no record
none_held : (f : Option ℕ) (b : Bool) → is_nothing f ≡ not b → (if not b then 0 else number_at f) ≡ number_at f
none_held None true e = refl
none_held None false e = refl
none_held (Some i) true e = refl
none_held (Some i) false e = clash (sym e)

-- ---- the windows

module _ (rs : List Record) (clock done : ℕ) (minutes calls : List ℕ) (last : ℕ) (kept : List ℕ) (k : Kept rs clock done minutes calls last kept) (l : Links) (links : LinksOf rs l) where
  pub open_is : (q : ℕ) → q < most_points → open_at kept l.points l.watched q ≡ is_open rs done q
  open_is q h = rw (links.points, links.watches q h, k.dones, k.holds q h, none_is (shuts rs done q) rs, nothing_so 0 (shuts rs done q) rs)

  module _ (ok : Accepted rs) (few : length rs ≤ most_records) (rows into out ends : List ℕ) (laid : Listed rs rows into out ends) where
    -- the record that holds a point
    pub record_is : (q : ℕ) → q < most_points → holder_at rows out kept q ≡ holder rs done q
    record_is q h = rw (k.dones, k.holds q h, none_is (shuts rs done q) rs, holder_is rs ok done q h rows into out ends laid few) (none_held (place_from 0 (shuts rs done q) rs) (some (shuts rs done q) rs) (nothing_so 0 (shuts rs done q) rs))

    -- the windows that the kept numbers give are those of the plan
    pub windows_are : (w : Windows) → Answered rows out kept l.points l.watched w → WindowsOf rs clock done minutes w
    windows_are w a =
        record {
          fits = a.fits;
          long = a.long;
          opens = λ q h. a.opens q h ∙ open_is q h;
          holders = λ q h. a.holders q h ∙ record_is q h;
          lows = λ q h. a.lows q h ∙ rw (k.clocks, k.lows q h, k.runs q h, low_is rs done minutes q);
          highs = drop highs_at kept;
          high_by_lem = λ q h. get_or-drop highs_at kept q 0 ∙ k.highs q h;
          high = a.high;
        }
