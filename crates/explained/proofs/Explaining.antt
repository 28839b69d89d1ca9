-- The explanation of a plan, put together: what is shown on the sheet of a plan's records holds of the plan. Assumes nothing.
use mathlib.Core.Path.{◌≡◌, refl, sym, ap, subst, ◌∙◌}
use mathlib.Core.List.{List, [], ◌∷◌, ◌++◌, append_assoc}
use Prim.Native.Nat.{ℕ, suc, min, ◌+◌, ◌<◌, ◌≤◌}
use native.Mathlib.Omega.{arith}
use native.Mathlib.Decide.{ℕ_discrete, dec_lt}
use lib.ListN.{length, get_or, length-take}
use borrow.Author.Tests.{ltb-true, ne_eqb}
use Rattle.numbers.specs.Fits.{All}
use Rattle.plan.specs.Limits.{most_records}
use Rattle.plan.specs.APlan.{link, is, how_many, points, links, blank, gap_of, records_of}
use Rattle.plan.specs.ReplyNumbers.{check_of}
use Rattle.records.specs.declared.Record.{Record}
use Rattle.plan.specs.declared.Plan.{Plan}
use Rattle.network.specs.Walks.{Walk, nil, step, Vee, vee}
use Rattle.network.specs.Passing.{Joined, Cycle}
use Rattle.network.proofs.Laws.{over, not_fine}
use Rattle.rows.specs.Sheet.{by, SheetEdge, SheetReady, Laid, first_at, over_at}
use Rattle.rows.specs.Sheet.Laid.{ordinary as l_ordinary, there as l_there, back as l_back, wait as l_wait}
use Rattle.rows.specs.Layout.{row_of, RowIs, LaidOut}
use Rattle.rows.proofs.Lays.{inside}
use Rattle.projection.specs.Judging.{FirstBad}
use Rattle.projection.proofs.Laws.{ends, fine_outside}
use Rattle.vee.specs.declared.Answer.{Answer}
use Rattle.vee.specs.declared.Answer.TheVariants as answer
use Rattle.vee.specs.PlanTest.{spans, projections, unset, many, most_projections, edges_of, Found, good, cycle, pair, Tested, tested}
use Rattle.vee.specs.Walked.{spans_in, WalkReady, RowsReady, CountedAs}
use Rattle.vee.specs.TestOf.{arc, arcs_of}
use Rattle.vee.proofs.Rules.{Valid, no_more, one_more}
use Rattle.vee.proofs.Plans.{more}
use Rattle.vee.proofs.Sheets.{sheet_ready, to_sheet, from_sheet, to_plain, to_start, second_plain}
use Rattle.vee.proofs.Testing.{accepted_plan, links_are, may_walk}
use Rattle.choices.specs.Choices.{chosen, ChooseAsks, ChosenAs}
use Rattle.choices.proofs.Decoding.{numbered, projection_chosen}
use Rattle.lengths.specs.declared.Length.{Length}
use Rattle.std.specs.Prelude.{Option, None, Some}
use Rattle.lengths.specs.Lengths.{length_of, Least, nothing, least}
use Rattle.ways.specs.declared.steps.Step.{Step}
use Rattle.ways.specs.Steps.{Leads, ups, downs, StepIn}
use Rattle.ways.proofs.Laws.{all_over}
use Rattle.explained.specs.declared.reasons.Why.{Why}
use Rattle.explained.specs.declared.Explanation.{Explanation}
use Rattle.explained.specs.Drives.{drives_of, drives_from, most_links, DriveAsks, DurationAsks}
use Rattle.explained.specs.Reasons.{why_as, PairIn, PairShown, RoundIn, RoundShown}
use Rattle.explained.specs.Explained.{durations_of, OneOf, here, later, StepOf, explanation_as, nothing_more, Explained, plainly, by_cycle, by_pair}

-- ---- the projection that fails

-- what holds of the projection that is found, of those from number j on
record FoundAt (P : List ℕ → Type 0) (j i : ℕ) (ws : List (List ℕ)) : Type 0 where
  k : ℕ
  number : i ≡ j + k
  listed : k < length ws
  holds : P (get_or ws k [])

later_on : {P : List ℕ → Type 0} {j i : ℕ} {w : List ℕ} {ws : List (List ℕ)} → FoundAt P (j + 1) i ws → FoundAt P j i (w ∷ ws)
later_on f = record { k = suc f.k; number = omega (arith, f.number); listed = omega (arith, f.listed); holds = f.holds }

cycle_at : {E : List ℕ → ℕ → ℕ → ℕ → ℕ → Type 0} {j i : ℕ} {ws : List (List ℕ)} → Found E j ws (answer.Cycle i) → FoundAt (λ w. Cycle (E w)) j i ws
cycle_at (good g f) = later_on (cycle_at f)
cycle_at (cycle c) = record { k = 0; number = omega arith; listed = omega arith; holds = c }

pair_at : {E : List ℕ → ℕ → ℕ → ℕ → ℕ → Type 0} {j i X Y : ℕ} {ws : List (List ℕ)} → Found E j ws (answer.Pair i X Y) → FoundAt (λ w. FirstBad (E w) X Y) j i ws
pair_at (good g f) = later_on (pair_at f)
pair_at (pair b) = record { k = 0; number = omega arith; listed = omega arith; holds = b }

pub record Fails (p : Plan) (i : ℕ) (P : List ℕ → Type 0) : Type 0 where
  pub ok : (check_of p).number ≡ 0
  pub few : many (spans (records_of p)) ≤ most_projections
  pub one : i < many (spans (records_of p))
  pub holds : P (durations_of p i)

fails : {p : Plan} {i : ℕ} {P : List ℕ → Type 0} → (check_of p).number ≡ 0 → many (spans (records_of p)) ≤ most_projections → FoundAt P 0 i (projections (spans (records_of p)) unset) → Fails p i P
fails {p} {i} {P} ok few f =
    let e : f.k ≡ i = omega (arith, f.number) in
    record { ok = ok; few = few; one = omega (arith, f.listed, numbered (spans (records_of p)) unset); holds = rw e at f.holds }

module _ {p : Plan} where
  pub fails_by_cycle : {i : ℕ} → Tested p (answer.Cycle i) → Fails p i (λ w. Cycle (edges_of (records_of p) w))
  fails_by_cycle (tested ok m f) = fails ok m (cycle_at f)

  pub fails_by_pair : {i X Y : ℕ} → Tested p (answer.Pair i X Y) → Fails p i (λ w. FirstBad (edges_of (records_of p) w) X Y)
  fails_by_pair (tested ok m f) = fails ok m (pair_at f)

-- ---- the links are few

few_links : {pre rs : List Record} → Valid pre rs → how_many (is link) pre ≤ most_links → how_many (is link) (pre ++ rs) ≤ most_links
unfolding how_many
few_links {pre} no_more h = omega (arith, more (is link) pre [], none)
  where
    none : how_many (is link) [] ≡ 0
    none = refl
few_links {pre} (one_more {r = r} {rs = rs} k v) h = subst (λ (l : List Record). how_many (is link) l ≤ most_links) (append_assoc pre (r ∷ []) rs) (few_links v (omega (arith, more (is link) pre (r ∷ []), last)))
  where
    last : how_many (is link) pre + how_many (is link) (r ∷ []) ≤ most_links
    last = elim (ℕ_discrete r.kind 2) [
      | yes e ↦ rw e (omega (arith, ltb-true (how_many (is link) pre) most_links (rw e at k.room)))
      | no e ↦ rw (ne_eqb r.kind 2 e) (omega arith)
    ]

-- ---- the drives of rows are those of their records

long_drives : (w : List ℕ) (rs : List Record) → length (drives_of w rs) ≡ how_many (is link) rs
unfolding drives_of how_many
long_drives w [] = refl
long_drives w (r ∷ rs) = elim (ℕ_discrete r.kind 2) [
  | yes e ↦ rw e (omega (arith, long_drives w rs))
  | no e ↦ rw (ne_eqb r.kind 2 e) (omega (arith, long_drives w rs))
]

same_drives : (s w : List ℕ) (RS rs : List Record) (q : ℕ) → ((i : ℕ) → i < length rs → RowIs s (q + i) (row_of RS (get_or rs i blank))) → drives_from s w q (length rs) ≡ drives_of w rs
unfolding drives_from drives_of
same_drives s w RS [] q rows = refl
same_drives s w RS (r ∷ rs) q rows =
    let z : q + 0 ≡ q = omega arith in
    let x : RowIs s q (row_of RS r) = rw z at (rows 0 (omega arith)) in
    let on = same_drives s w RS rs (suc q) (λ i h. let y : q + suc i ≡ suc q + i = omega arith in rw y at (rows (suc i) (omega arith))) in
    rw (x.kind, x.from, x.over, on) refl

-- ---- an edge of a row is one of its record

module _ (rs : List Record) (s w : List ℕ) (q : ℕ) (r : Record) (x : RowIs s q (row_of rs r)) where
  edge_of : {X Y u d : ℕ} → Laid s w q X Y u d → OneOf (arc X Y u d) (arcs_of rs w r)
  edge_of (l_ordinary k a b f g) =
      let e : r.kind ≡ 3 = sym x.kind ∙ k in
      rw (a ∙ x.from, b ∙ to_plain s q rs r x (λ h. omega arith), f ∙ x.first, g ∙ second_plain s q rs r x (λ h. omega arith), e) here
  edge_of (l_there k a b f g) =
      let e : r.kind ≡ 2 = sym x.kind ∙ k in
      rw (a ∙ x.from, b ∙ to_plain s q rs r x (λ h. omega arith), f ∙ ap (by w) x.over, g, e) here
  edge_of (l_back k a b f g) =
      let e : r.kind ≡ 2 = sym x.kind ∙ k in
      rw (a ∙ to_plain s q rs r x (λ h. omega arith), b ∙ x.from, f, g ∙ ap (by w) x.over, e) (later here)
  edge_of (l_wait k a b f g) =
      let e : r.kind ≡ 4 = sym x.kind ∙ k in
      let d : min (first_at s q) (by w (over_at s q)) ≡ min (gap_of r.first).up (by w r.b) = rw (x.first, x.over) refl in
      rw (a ∙ x.from, b ∙ to_start s q rs r x e, f, g ∙ d, e) here

-- steps make a walk
walked : {s w : List ℕ} {m : ℕ} (es : List Step) (X Y : ℕ) → All (StepIn s w m) es → Leads es X Y → Walk (SheetEdge s w m) X Y (ups es) (downs es)
unfolding Leads ups downs
walked {s} {w} {m} [] X Y a l = rw l nil
walked {s} {w} {m} (e ∷ es) X Y a l = rw l.0 (step (record { row = e.row; below = a.0.below; edge = a.0.edge }) (walked es e.to Y a.1 l.1))

-- ---- a plan and its sheet

module _ (p : Plan) (ok : (check_of p).number ≡ 0) (few : many (spans (records_of p)) ≤ most_projections) (long : length p.records ≡ most_records) {s : List ℕ} (laid : LaidOut (records_of p) s) {n k : ℕ} (en : n ≡ points (records_of p)) (ek : k ≡ links (records_of p)) where
  v : Valid [] (records_of p)
  v = (accepted_plan p ok).1

  all_records : length (records_of p) ≡ p.count
  all_records = omega (arith, length-take p.count p.records, (accepted_plan p ok).0)

  room : length (records_of p) ≤ most_records
  room = omega (arith, all_records, (accepted_plan p ok).0)

  same_links : spans_in s (n + k) k ≡ spans (records_of p)
  same_links = rw (en, ek) (links_are (records_of p) v s laid room)

  few_all : how_many (is link) (records_of p) ≤ most_links
  unfolding how_many
  few_all = few_links v (omega arith)

  walks : WalkReady s unset p.count n (n + k) k 0
  walks =
      let f : many (spans_in s (n + k) k) ≤ most_projections = omega (arith, ap many same_links, few) in
      rw (← all_records, en, ek) (may_walk (records_of p) v s laid room (rw (en, ek) at f))

  pub plan_durations : {i : ℕ} → i < many (spans (records_of p)) → DurationAsks s (n + k) k i
  plan_durations h = record { m = p.count; n = n; walk = walks; one = omega (arith, ap many same_links) }

  module _ {i : ℕ} (h : i < many (spans (records_of p))) {w : List ℕ} (c : ChosenAs s (n + k) k i w) where
    durations_are : w ≡ durations_of p i
    durations_are = c.is ∙ ap (λ ls. chosen ls unset i) same_links ∙ sym (projection_chosen (spans (records_of p)) unset i h)

    ready : SheetReady s w p.count n
    ready = rw (← all_records, en) (sheet_ready (records_of p) v s laid w room c.wide c.small)

    drives_are : drives_from s w 0 p.count ≡ drives_of w (records_of p)
    drives_are = ap (λ (c : ℕ). drives_from s w 0 c) (sym all_records) ∙ (same_drives s w (records_of p) (records_of p) 0 (λ j l. let z : 0 + j ≡ j = omega arith in rw z (laid.rows j l)))

    drive_asks : DriveAsks s w p.count
    drive_asks =
        record {
          rows = ready.rows;
          over = ready.over;
          few = omega (arith, ap length drives_are, long_drives w (records_of p), few_all);
        }

    there : (X Y u d : ℕ) → SheetEdge s w p.count X Y u d → edges_of (records_of p) w X Y u d
    there X Y u d e = from_sheet (records_of p) v s laid w X Y u d (rw (← all_records) at e)

    back : (X Y u d : ℕ) → edges_of (records_of p) w X Y u d → SheetEdge s w p.count X Y u d
    back X Y u d e = rw all_records at (to_sheet (records_of p) v s laid w X Y u d e)

    steps_are : (es : List Step) → All (StepIn s w p.count) es → All (StepOf (records_of p) w) es
    steps_are es a = all_over (StepIn s w p.count) (StepOf (records_of p) w) es (λ e f. let l : e.row < length (records_of p) = omega (arith, f.below, all_records) in record { listed = l; edge = edge_of (records_of p) s w e.row (get_or (records_of p) e.row blank) (laid.rows e.row l) f.edge }) a

    vee_over : {E F : ℕ → ℕ → ℕ → ℕ → Type 0} → ((X Y u d : ℕ) → E X Y u d → F X Y u d) → {X Y u d : ℕ} → Vee E X Y u d → Vee F X Y u d
    vee_over f (vee a b) = vee (over (λ X Y u d e. record { edge = f X Y u d e.edge; below = e.below }) a) (over (λ X Y u d e. record { edge = f X Y u d e.edge; above = e.above }) b)

    least_over : {X Y : ℕ} {l : Option Length} → Least (Vee (SheetEdge s w p.count) X Y) l → Least (Vee (edges_of (records_of p) w) X Y) l
    least_over (nothing f) = nothing (λ u d g. f u d (vee_over back g))
    least_over (least a f) = least (vee_over there a) (λ u d g. f u d (vee_over back g))

    -- a cycle
    pub plan_round : Cycle (edges_of (records_of p) (durations_of p i)) → RoundIn s w p.count n
    plan_round z =
        let y : Cycle (edges_of (records_of p) w) = rw durations_are z in
        record { ready = ready; cycle = record { at = y.at; up = y.up; down = y.down; walk = over back y.walk; below = y.below }; drives = drive_asks }

    pub plan_rounded : Tested p (answer.Cycle i) → {y : Why} → RoundShown s w p.count y → Explained p (explanation_as (answer.Cycle i) y)
    plan_rounded t {y} g =
        let e : y ≡ why_as (drives_of (durations_of p i) (records_of p)) None None g.steps = g.is ∙ rw (drives_are, durations_are) refl in
        rw e (by_cycle g.at g.steps t (rw durations_are at (steps_are g.steps g.each)) g.leads g.below)

    -- a pair
    module _ {X Y : ℕ} where
      pub plan_pair : FirstBad (edges_of (records_of p) (durations_of p i)) X Y → PairIn s w p.count n X Y
      plan_pair z =
          let b : FirstBad (edges_of (records_of p) w) X Y = rw durations_are z in
          let j : Joined (SheetEdge s w p.count) X Y = record { up = b.bad.joined.up; down = b.bad.joined.down; walk = over back b.bad.joined.walk } in
          let in_plan : (X Y u d : ℕ) → edges_of (records_of p) w X Y u d → (X < n) × (Y < n) = λ X Y u d e. inside ready (omega arith) X Y u d (back X Y u d e) in
          let hx : X < n = elim (dec_lt X n) [ yes h ↦ h | no h ↦ absurd (not_fine (edges_of (records_of p) w) (fine_outside (edges_of (records_of p) w) n in_plan h) b.bad) ] in
          record {
            ready = ready;
            consistent = record { round = λ g. b.consistent.round (over there g) };
            joined = j;
            from = hx;
            to = ends (edges_of (records_of p) w) n in_plan hx b.bad.joined.walk;
            drives = drive_asks;
          }

      pub plan_paired : Tested p (answer.Pair i X Y) → {y : Why} → PairShown s w p.count X Y y → Explained p (explanation_as (answer.Pair i X Y) y)
      plan_paired t {y} g =
          let e : y ≡ why_as (drives_of (durations_of p i) (records_of p)) (Some (length_of (ups g.steps) (downs g.steps))) g.best g.steps = g.is ∙ rw (drives_are, durations_are) refl in
          let l : Least (Walk (edges_of (records_of p) w) X Y) (Some (length_of (ups g.steps) (downs g.steps))) = least (over there (walked g.steps X Y g.each g.leads)) (λ u d z. g.least u d (over back z)) in
          rw e (by_pair g.steps t (rw durations_are at (steps_are g.steps g.each)) g.leads (rw durations_are at l) (rw durations_are at (least_over g.allowed)))

-- ---- nothing to explain

never_refused : {E : List ℕ → ℕ → ℕ → ℕ → ℕ → Type 0} {i n j : ℕ} {ws : List (List ℕ)} → Found E i ws (answer.Refused n j) → ⊥
never_refused (good g f) = never_refused f

module _ {p : Plan} where
  pub plain : (r : Answer) → ((i : ℕ) → r ≡ answer.Cycle i → ⊥) → ((i X Y : ℕ) → r ≡ answer.Pair i X Y → ⊥) → Tested p r → {x : Explanation} → x ≡ nothing_more r → Explained p x
  plain (answer.Refused n i) no_cycle no_pair t e = rw e (plainly t refl)
  plain (answer.Yes k) no_cycle no_pair t e = rw e (plainly t refl)
  plain (answer.Cycle i) no_cycle no_pair t e = absurd (no_cycle i refl)
  plain (answer.Pair i X Y) no_cycle no_pair t e = absurd (no_pair i X Y refl)

-- ---- the number of projections, as the code counts them

module _ {s : List ℕ} {past k i : ℕ} (a : DurationAsks s past k i) where
  pub count_asks : RowsReady s past k
  count_asks = record { before = a.walk.before; rows = omega (arith, a.walk.rows, a.walk.ready.rows); some = a.walk.some; short = a.walk.short }

  module _ {total : ℕ} (c : CountedAs s past k total) where
    pub count_few : total ≤ most_projections
    count_few = elim (dec_lt most_projections total) [
      | yes h ↦ absurd (omega (arith, c.many_more h, a.walk.room))
      | no h ↦ omega arith
    ]

    pub count_chooses : ChooseAsks s past k total i
    count_chooses = record { m = a.m; n = a.n; walk = a.walk; counted = c.few count_few; one = omega (arith, c.few count_few, a.one) }

pub fails_few : {p : Plan} {i : ℕ} (P : List ℕ → Type 0) → Fails p i P → p.count ≤ most_records
fails_few {p} P f = (accepted_plan p f.ok).0
