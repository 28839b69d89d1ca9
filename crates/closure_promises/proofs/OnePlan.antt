-- A plan without links and waits: its edges are its ordinary records, whatever the durations; it has one projection; and the
-- verdict on it goes by those records. Assumes nothing.
use mathlib.Core.Path.{◌≡◌, refl, sym, ap, ◌∙◌}
use mathlib.Core.Bool.{Bool, true, false, ◌||◌}
use mathlib.Core.List.{List, [], ◌∷◌}
use Prim.Native.Nat.{ℕ, zero, suc, ◌+◌, ◌<◌}
use native.Mathlib.Omega.{arith}
use lib.Dec.{eqb-suc-zero}
use lib.ListN.{length, get_or}
use borrow.Author.Tests.{leb-true, le-leb, eqb-false}
use Rattle.plan.specs.APlan.{link, ordinary, wait, is, some, points, watched, blank, gap_of, records_of}
use Rattle.plan.specs.ReplyNumbers.{check_of}
use Rattle.plan.proofs.Accepted.{get_d_some}
use Rattle.records.specs.declared.Record.{Record}
use Rattle.plan.specs.declared.Plan.{Plan}
use Rattle.bounds.specs.Bounds.{bound_kept}
use Rattle.calls.proofs.Laws.{numbered_by}
use Rattle.board.specs.Boards.{minute, in_bounds, each, sound}
use Rattle.board.specs.Calls.{earlier}
use Rattle.board.specs.declared.Board.{Board}
use Rattle.verdict.specs.Verdicts.{kept, first_broken, ended_of, verdict_of}
use Rattle.verdict.specs.declared.Verdict.{Verdict}
use Rattle.verdict.specs.declared.Verdict.TheVariants.{Refused, Kept, Broken}
use Rattle.vee.specs.PlanTest.{Has, OrdinaryIn, spans}
use Rattle.vee.proofs.Rules.{clash}
use Rattle.vee.proofs.Orders.{span_not}
use Rattle.closure.specs.Closing.{is_step, has_steps}
use Rattle.closure.proofs.Networks.{Keeps}
use Rattle.closure.proofs.Making.{or_true}

-- ---- the records, one by one

neither : (a b : Bool) → (a || b) ≡ false → (a ≡ false) × (b ≡ false)
neither false b e = (refl, e)
neither true b e = clash e

-- a record that is no step is neither a link nor a wait
module _ (r : Record) (rs : List Record) (no : has_steps (r ∷ rs) ≡ false) where
  first_no : (is link r ≡ false) × (is wait r ≡ false)
  unfolding some
  first_no = neither (is link r) (is wait r) (neither (is_step r) (some is_step rs) no).0

  rest_no : has_steps rs ≡ false
  unfolding some
  rest_no = (neither (is_step r) (some is_step rs) no).1

-- it has no links to choose durations for
pub no_spans : (rs : List Record) → has_steps rs ≡ false → spans rs ≡ []
unfolding spans
no_spans [] z = refl
no_spans (r ∷ rs) z = span_not r rs (eqb-false r.kind 2 (first_no r rs z).0) ∙ no_spans rs (rest_no r rs z)

-- no link is out of bounds on any board
pub no_bounds : (b : Board) (rs : List Record) → has_steps rs ≡ false → each (in_bounds b) rs ≡ true
unfolding each
no_bounds b [] z = refl
no_bounds b (r ∷ rs) z = rw (first_no r rs z).0 (no_bounds b rs (rest_no r rs z))

-- no link is out of order on any board
no_order : (b : Board) (rs : List Record) → has_steps rs ≡ false → each (earlier b) rs ≡ true
unfolding each
no_order b [] z = refl
no_order b (r ∷ rs) z = rw (first_no r rs z).0 (no_order b rs (rest_no r rs z))

-- no point is watched
no_watched : (rs : List Record) → has_steps rs ≡ false → (c : ℕ) → watched rs c ≡ false
unfolding some
no_watched [] z c = refl
no_watched (r ∷ rs) z c = rw (first_no r rs z).0 (no_watched rs (rest_no r rs z) c)

-- ---- minutes

-- the minutes g keep the ordinary records of rs, by the rule of the verdict, just where they keep each as an edge
module _ (rs : List Record) (g : ℕ → ℕ) where
  abbrev pub KeptIn : Type 0
  KeptIn = (r : Record) → Has rs ordinary r → bound_kept (g r.a) r.first (g r.b) ≡ true

  pub kept_edges : KeptIn → Keeps g (λ X Y u d. OrdinaryIn rs X u d Y)
  kept_edges k X Y u d o =
      let r = o.what in
      let l = leb-true (g r.b + (gap_of r.first).down) (g r.a + (gap_of r.first).up) (k r o.has) in
      omega (arith, l, ap g o.from, ap g o.to, o.up, o.down)

  pub edges_kept : Keeps g (λ X Y u d. OrdinaryIn rs X u d Y) → KeptIn
  edges_kept k r h =
      le-leb (g r.b + (gap_of r.first).down) (g r.a + (gap_of r.first).up) (k r.a r.b (gap_of r.first).up (gap_of r.first).down (record { what = r; has = h; from = refl; to = refl; up = refl; down = refl }))

-- ---- the verdict

abbrev case : Verdict → ℕ
case (Refused n i) = 2
case Kept = 1
case (Broken i) = 0

broken_kept : (i : ℕ) → Broken i ≡ Kept → ⊥
broken_kept i z = let y : ◌≡◌ {A = ℕ} 0 1 = ap case z in omega arith

not_kept : (n i : ℕ) → Refused n i ≡ Kept → ⊥
not_kept n i z = let y : ◌≡◌ {A = ℕ} 2 1 = ap case z in omega arith

module _ (rs : List Record) (b : Board) where
  -- no record is broken just where each is kept
  none_broken : (i : ℕ) (xs : List Record) → ((j : ℕ) → j < length xs → kept rs b (get_or xs j blank) ≡ true) → first_broken rs b i xs ≡ Kept
  unfolding first_broken
  none_broken i [] h = refl
  none_broken i (x ∷ xs) h = rw (h 0 (omega arith)) (none_broken (suc i) xs (λ j l. h (suc j) (omega arith)))

  all_kept : (i : ℕ) (xs : List Record) → first_broken rs b i xs ≡ Kept → (j : ℕ) → j < length xs → kept rs b (get_or xs j blank) ≡ true
  unfolding first_broken
  all_kept i [] e j h = absurd (omega arith)
  all_kept i (x ∷ xs) e j h = go (kept rs b x) refl j h (λ k j l. all_kept (suc i) xs k j l)
    where
      go : (t : Bool) → kept rs b x ≡ t → (j : ℕ) → j < length (x ∷ xs) → (first_broken rs b (suc i) xs ≡ Kept → (j : ℕ) → j < length xs → kept rs b (get_or xs j blank) ≡ true)
          → kept rs b (get_or (x ∷ xs) j blank) ≡ true
      go true k zero h rec = k
      go true k (suc j) h rec = rec (rw k at e) j (omega arith)
      go false k j h rec = absurd (broken_kept i (rw k at e))

-- a plan that is accepted and has no steps: a board is kept just where it is not refused and its minutes keep each ordinary record
module _ (p : Plan) (none : has_steps (records_of p) ≡ false) (b : Board) where
  is_kept_lem : KeptIn (records_of p) (minute b) → (j : ℕ) → j < length (records_of p) → kept (records_of p) b (get_or (records_of p) j blank) ≡ true
  is_kept_lem k j h = go (is ordinary (get_or (records_of p) j blank)) refl (is wait (get_or (records_of p) j blank)) refl
    where
      go : (o : Bool) → is ordinary (get_or (records_of p) j blank) ≡ o → (w : Bool) → is wait (get_or (records_of p) j blank) ≡ w → kept (records_of p) b (get_or (records_of p) j blank) ≡ true
      go true e w f = rw e (k (get_or (records_of p) j blank) (record { place = j; listed = h; here = refl; kind = e }))
      go false e false f = rw (e, f) refl
      go false e true f = clash (sym (get_d_some is_step (records_of p) j h (rw f (or_true (is link (get_or (records_of p) j blank))))) ∙ none)

  keeps_each : ((j : ℕ) → j < length (records_of p) → kept (records_of p) b (get_or (records_of p) j blank) ≡ true) → KeptIn (records_of p) (minute b)
  keeps_each k r h = rw h.kind at (rw h.here at (k h.place h.listed))

  pub verdict_by : KeptIn (records_of p) (minute b) → (ended_of p b).number ≡ 0 → verdict_of p b ≡ Kept
  unfolding verdict_of
  verdict_by k e = rw e (none_broken (records_of p) b 0 (records_of p) (is_kept_lem k))

  pub by_verdict : verdict_of p b ≡ Kept → ((ended_of p b).number ≡ 0) × KeptIn (records_of p) (minute b)
  unfolding verdict_of
  by_verdict e = go (ended_of p b).number refl
    where
      go : (n : ℕ) → (ended_of p b).number ≡ n → ((ended_of p b).number ≡ 0) × KeptIn (records_of p) (minute b)
      go zero h = (h, keeps_each (all_kept (records_of p) b 0 (records_of p) (rw h at e)))
      go (suc n) h = absurd (not_kept (suc n) (ended_of p b).place (rw (h, eqb-suc-zero n) at e))

-- what comes before a verdict is the same of two plans that are accepted, have no steps and have as many points
pub same_ended : (p q : Plan) → (check_of p).number ≡ 0 → (check_of q).number ≡ 0 → has_steps (records_of p) ≡ false → has_steps (records_of q) ≡ false
    → points (records_of q) ≡ points (records_of p) → (b : Board) → ended_of q b ≡ ended_of p b
unfolding ended_of sound
same_ended p q hp hq sp sq e b =
    let same = numbered_by (watched (records_of q)) (watched (records_of p)) b.done b.minutes b.calls
    (λ c l. no_watched (records_of q) sq c ∙ sym (no_watched (records_of p) sp c)) in
    rw (
      hp,
      hq,
      e,
      no_bounds b (records_of p) sp,
      no_bounds b (records_of q) sq,
      no_order b (records_of p) sp,
      no_order b (records_of q) sq,
      same,
    ) refl
