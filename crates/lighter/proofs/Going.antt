-- The loop over the records: what is kept so far and what is still to come stand in one plan, which is accepted and passes. Assumes
-- nothing.
use mathlib.Core.Path.{◌≡◌, refl, sym, ap, subst, ◌∙◌}
use mathlib.Core.Bool.{Bool, true, false}
use mathlib.Core.List.{List, [], ◌∷◌, ◌++◌, append-nil, append_assoc}
use Prim.Native.Nat.{ℕ, suc, ◌+◌, ◌-◌, ◌<◌, ◌≤◌}
use native.Mathlib.Omega.{arith}
use native.Mathlib.Decide.{ℕ_discrete}
use native.Mathlib.Numerals.{add-one}
use lib.ListN.{length, get_or, set, drop, replicate, length-append, length-take, length-drop, length-replicate}
use lib.Seq.{append_snoc, drop-cons, drop-length, take_at, drop_at, get_or_at, take_all}
use borrow.Author.Tests.{eqb-true}
use Rattle.std.specs.Prelude.{if◌then◌else◌}
use Rattle.plan.specs.Limits.{most_records}
use Rattle.plan.specs.APlan.{one, points, blank, records_of, plan_of}
use Rattle.records.specs.declared.Record.{Record}
use Rattle.plan.specs.declared.Plan.{Plan}
use Rattle.network.specs.Passing.{Passes}
use Rattle.vee.specs.PlanTest.{net_of, spans, many, most_projections}
use Rattle.vee.proofs.Rules.{Valid}
use Rattle.vee.proofs.Testing.{accepted_plan}
use Rattle.dropping.specs.Spare.{Told, told_yes, told_no, Spare, SpareAsks, SpareReady}
use Rattle.lighter.specs.declared.Lighter.{Lighter}
use Rattle.lighter.specs.Lighter.{MayGo, Goes, ends, drops, keeps, lighter_as}
use Rattle.lighter.specs.Inside.{but, DropAsks, Dropped}
use Rattle.lighter.proofs.Skips.{spans_skip}
use Rattle.lighter.proofs.Accepts.{valid_without, records_of_lem, plan_accepted, same_points, its_rules, some_left}
use Rattle.lighter.proofs.Sparing.{told_may}
use Rattle.lighter.proofs.Copying.{stored, stored_again}

-- rs are the records of an accepted plan that passes, and has so many projections; ks are kept so far and ds are the numbers dropped,
-- of those below number i
pub record Going (rs : List Record) (total : ℕ) (kept : Plan) (dropped : List ℕ) (count i : ℕ) : Type 0 where
  pub few : length rs ≤ most_records
  pub counted : total ≡ many (spans rs)
  pub few_projections : total ≤ most_projections
  pub ks : List Record
  pub ds : List ℕ
  pub within : i ≤ length rs
  pub kept_is : kept ≡ plan_of (ks ++ drop i rs)
  pub kept_many : length ks + count ≡ i
  pub numbers : dropped ≡ ds ++ replicate (most_records - count) 0
  pub numbers_many : length ds ≡ count
  pub valid : Valid [] (ks ++ drop i rs)
  pub passes : Passes (net_of (ks ++ drop i rs))
  pub links : spans (ks ++ drop i rs) ≡ spans rs
  pub on : (qs : List Record) (es : List ℕ) → Goes ks i (drop i rs) qs es → Goes [] 0 rs qs (ds ++ es)

-- the plan of all records is the one without a record past the last
module _ {p : Plan} {total : ℕ} (long : length p.records ≡ most_records) (a : DropAsks p total) where
  pub start_few : p.count ≤ most_records
  start_few = (accepted_plan p a.ok).0

  all : length (records_of p) ≡ p.count
  all = omega (arith, length-take p.count p.records, start_few)

  none : (l : List Record) → length l ≡ 0 → l ≡ []
  none [] e = refl
  none (x ∷ l) e = absurd (omega arith)

  same : but p.count (records_of p) ≡ records_of p
  same =
      let t = take_all p.count (records_of p) (omega (arith, all)) in
      let d = none (drop (suc p.count) (records_of p)) (omega (arith, length-drop (suc p.count) (records_of p), all)) in
      rw (d, t) (append-nil (records_of p))

  module _ {kept : Plan} (e : kept ≡ plan_of (but p.count (records_of p))) where
    start_plan : kept ≡ plan_of (records_of p)
    start_plan = e ∙ ap plan_of same

    pub start_records : records_of kept ≡ records_of p
    start_records = ap records_of start_plan ∙ records_of_lem (records_of p)

    pub start_many : length (records_of kept) ≡ p.count
    start_many = ap (λ (l : List Record). length l) start_records ∙ all

    pub going_start : Going (records_of kept) total kept (replicate most_records 0) 0 0
    going_start =
        rw start_records
        (record {
          few = omega (arith, all, start_few);
          counted = a.counted;
          few_projections = a.few;
          ks = [];
          ds = [];
          within = omega arith;
          kept_is = start_plan;
          kept_many = omega arith;
          numbers = refl;
          numbers_many = refl;
          valid = (accepted_plan p a.ok).1;
          passes = a.passes;
          links = refl;
          on = λ qs es g. g;
        })

    -- what the walk makes of them is made of the plan
    pub going_dropped : {r : Lighter} {qs : List Record} {ds : List ℕ} → Goes [] 0 (records_of kept) qs ds → r ≡ lighter_as qs ds → Dropped p r
    going_dropped {r} {qs} {ds} g e = record { left = qs; numbers = ds; goes = rw start_records at g; is = e }

-- the room of a plan that some records make
plan_room : (rs : List Record) → length rs ≤ most_records → length (plan_of rs).records ≡ most_records
plan_room rs h = omega (arith, length-append rs (replicate (most_records - length rs) blank), length-replicate (most_records - length rs) blank)

module _ {rs : List Record} {total : ℕ} {kept : Plan} {dropped : List ℕ} {count i : ℕ} (g : Going rs total kept dropped count i) where
  many_left : length (g.ks ++ drop i rs) ≡ length g.ks + (length rs - i)
  many_left = omega (arith, length-append g.ks (drop i rs), length-drop i rs)

  few_left : length (g.ks ++ drop i rs) ≤ most_records
  few_left = omega (arith, many_left, g.few, g.within, g.kept_many)

  pub going_few : kept.count ≤ most_records
  going_few = rw g.kept_is few_left

  pub going_room : length kept.records ≡ most_records
  going_room = rw g.kept_is (plan_room (g.ks ++ drop i rs) few_left)

  pub going_list : length dropped ≡ most_records
  going_list =
      rw g.numbers (omega (arith, length-append g.ds (replicate (most_records - count) 0), length-replicate {A = ℕ} (most_records - count) 0, g.numbers_many, g.kept_many, g.within, g.few))

  module _ (h : i < length rs) {k : ℕ} (ek : k ≡ i - count) where
    abbrev r : Record
    r = get_or rs i blank

    abbrev more : List Record
    more = drop (suc i) rs

    to_come : drop i rs ≡ get_or rs i blank ∷ drop (suc i) rs
    to_come = drop-cons rs i blank h

    place : length g.ks ≡ k
    place = omega (arith, g.kept_many)

    records_here : g.ks ++ drop i rs ≡ g.ks ++ (r ∷ more)
    records_here = ap (λ (l : List Record). g.ks ++ l) to_come

    -- the record that is read is the next one of the plan as it came in
    going_record : get_or kept.records k blank ≡ get_or rs i blank
    going_record =
        rw (g.kept_is, records_here)
        (ap (λ (l : List Record). get_or l k blank) (append_assoc g.ks (r ∷ more) (replicate (most_records - length (g.ks ++ (r ∷ more))) blank))
        ∙ get_or_at g.ks r (more ++ replicate (most_records - length (g.ks ++ (r ∷ more))) blank) blank k place)

    next_cut : (x : Record) (l : List Record) → drop (suc k) (g.ks ++ (x ∷ l)) ≡ l
    next_cut x l = ap (λ (q : List Record). drop (suc k) q) (sym (append_snoc g.ks x l)) ∙ drop_at (g.ks ++ (x ∷ [])) l (suc k) (omega (arith, length-append g.ks (x ∷ []), place))

    valid_here : Valid [] (g.ks ++ (r ∷ more))
    valid_here = subst (λ (l : List Record). Valid [] l) records_here g.valid

    passes_here : Passes (net_of (g.ks ++ (r ∷ more)))
    passes_here = subst (λ (l : List Record). Passes (net_of l)) records_here g.passes

    -- the plan without it
    module _ {rest : Plan} (er : rest ≡ plan_of (but k (records_of kept))) where
      rest_is : rest ≡ plan_of (g.ks ++ drop (suc i) rs)
      rest_is =
          let q : records_of kept ≡ g.ks ++ (r ∷ more) = ap records_of g.kept_is ∙ records_of_lem (g.ks ++ drop i rs) ∙ records_here in
          er ∙ rw q (rw (take_at g.ks (r ∷ more) k place, next_cut r more) refl)

      rest_records : records_of rest ≡ g.ks ++ drop (suc i) rs
      rest_records = ap records_of rest_is ∙ records_of_lem (g.ks ++ drop (suc i) rs)

      rest_many : length (g.ks ++ drop (suc i) rs) ≤ most_records
      rest_many = omega (arith, length-append g.ks (drop (suc i) rs), length-drop (suc i) rs, g.few, g.kept_many)

      module _ (kind : (get_or rs i blank).kind ≡ 3) where
        rest_valid : Valid [] (g.ks ++ drop (suc i) rs)
        rest_valid = valid_without g.ks r more kind valid_here

        same_links : spans (g.ks ++ drop (suc i) rs) ≡ spans rs
        same_links = sym (spans_skip g.ks r more (rw kind refl)) ∙ ap spans (sym records_here) ∙ g.links

        rest_ready : SpareReady (plan_of (g.ks ++ drop (suc i) rs)) r total
        rest_ready =
            let e = records_of_lem (g.ks ++ drop (suc i) rs) in
            let n : points (records_of (plan_of (g.ks ++ drop (suc i) rs))) ≡ points (g.ks ++ drop (suc i) rs) = ap (λ (l : List Record). points l) e in
            let k = its_rules g.ks r more kind valid_here in
            let m = same_points g.ks r more kind valid_here in
            record {
              ok = plan_accepted (g.ks ++ drop (suc i) rs) (some_left g.ks r more kind valid_here) rest_many rest_valid;
              counted = g.counted ∙ ap many (sym (ap spans e ∙ same_links));
              few = g.few_projections;
              from = omega (arith, k.from, m, n);
              to = omega (arith, k.to, m, n);
              up = k.up;
              down = k.down;
            }

      pub going_asks : SpareAsks rest (get_or kept.records k blank) total
      going_asks = rw (rest_is, going_record) (record { ready = λ e. rest_ready (eqb-true r.kind 3 e) })

      -- what the code is told of it
      module _ {gone : Bool} (t : Told (Spare (records_of rest) (get_or kept.records k blank)) gone) where
        told_here : Told (MayGo g.ks (get_or rs i blank) (drop (suc i) rs)) gone
        told_here =
            let t' : Told (Spare (g.ks ++ drop (suc i) rs) (get_or rs i blank)) gone = rw (rest_records, going_record) at t in
            elim (ℕ_discrete (get_or rs i blank).kind 3) [
              | yes e ↦ told_may g.ks r more e (rest_valid e) passes_here t'
              | no e ↦ other e t'
            ]
          where
            other : {b : Bool} → ((get_or rs i blank).kind ≡ 3 → ⊥) → Told (Spare (g.ks ++ drop (suc i) rs) (get_or rs i blank)) b → Told (MayGo g.ks (get_or rs i blank) (drop (suc i) rs)) b
            other e (told_yes s) = absurd (e (eqb-true r.kind 3 s.is))
            other e (told_no n) = told_no (λ m. e (eqb-true r.kind 3 m.ordinary))

        pub going_turn : {kept' : Plan} {v c : ℕ} → kept' ≡ (if gone then rest else kept) → v ≡ (if gone then i else 0) → c ≡ one gone
            → Going rs total kept' (set dropped count v) (count + c) (i + 1)
        going_turn {kept'} {v} {c} e f o =
            subst (λ (q : Plan). Going rs total q (set dropped count v) (count + c) (i + 1)) (sym e) (go gone told_here (ap (λ (d : ℕ). set dropped count d) f) o)
          where
            some : i + 1 ≡ suc i
            some = add-one i

            there : count < most_records
            there = omega (arith, g.kept_many, g.few)

            -- it may go
            gone_on : MayGo g.ks (get_or rs i blank) (drop (suc i) rs) → set dropped count v ≡ set dropped count i → c ≡ 1 → Going rs total rest (set dropped count v) (count + c) (i + 1)
            gone_on m f o =
                let kind = eqb-true r.kind 3 m.ordinary in
                rw (o, some)
                (record {
                  few = g.few;
                  counted = g.counted;
                  few_projections = g.few_projections;
                  ks = g.ks;
                  ds = g.ds ++ (i ∷ []);
                  within = omega arith;
                  kept_is = rest_is;
                  kept_many = omega (arith, g.kept_many);
                  numbers = f ∙ ap (λ (l : List ℕ). set l count i) g.numbers ∙ stored g.ds count most_records i 0 g.numbers_many there;
                  numbers_many = omega (arith, length-append g.ds (i ∷ []), g.numbers_many);
                  valid = rest_valid kind;
                  passes = m.passes;
                  links = same_links kind;
                  on = λ qs es n. subst (λ (l : List ℕ). Goes [] 0 rs qs l) (sym (append_assoc g.ds (i ∷ []) es)) (g.on qs (i ∷ es) (subst (λ (l : List Record). Goes g.ks i l qs (i ∷ es)) (sym to_come) (drops m n)));
                })

            -- it may not
            kept_on_lem : (MayGo g.ks (get_or rs i blank) (drop (suc i) rs) → ⊥) → set dropped count v ≡ set dropped count 0 → c ≡ 0 → Going rs total kept (set dropped count v) (count + c) (i + 1)
            kept_on_lem n f o =
                let z : count + 0 ≡ count = omega arith in
                let e : (g.ks ++ (r ∷ [])) ++ more ≡ g.ks ++ drop i rs = append_snoc g.ks r more ∙ sym records_here in
                rw (o, some, z)
                (record {
                  few = g.few;
                  counted = g.counted;
                  few_projections = g.few_projections;
                  ks = g.ks ++ (r ∷ []);
                  ds = g.ds;
                  within = omega arith;
                  kept_is = g.kept_is ∙ ap plan_of (sym e);
                  kept_many = omega (arith, length-append g.ks (r ∷ []), g.kept_many);
                  numbers = f ∙ ap (λ (l : List ℕ). set l count 0) g.numbers ∙ stored_again g.ds count most_records 0 g.numbers_many there;
                  numbers_many = g.numbers_many;
                  valid = subst (λ (l : List Record). Valid [] l) (sym e) g.valid;
                  passes = subst (λ (l : List Record). Passes (net_of l)) (sym e) g.passes;
                  links = ap spans e ∙ g.links;
                  on = λ qs es m. g.on qs es (subst (λ (l : List Record). Goes g.ks i l qs es) (sym to_come) (keeps n m));
                })

            go : (b : Bool) → Told (MayGo g.ks (get_or rs i blank) (drop (suc i) rs)) b → set dropped count v ≡ set dropped count (if b then i else 0) → c ≡ one b
                → Going rs total (if b then rest else kept) (set dropped count v) (count + c) (i + 1)
            go true (told_yes m) f o = gone_on m f o
            go false (told_no n) f o = kept_on_lem n f o

  -- all records have been tried
  pub going_end : length rs ≤ i → {r : Lighter} → r ≡ record { plan = kept; count = count; dropped = dropped }
      → Goes [] 0 rs g.ks (g.ds ++ []) × (r ≡ lighter_as g.ks (g.ds ++ []))
  going_end h {r} e =
      let z : i ≡ length rs = omega (arith, g.within) in
      let d : drop i rs ≡ [] = rw z (drop-length rs) in
      let k : kept ≡ plan_of g.ks = g.kept_is ∙ ap plan_of (ap (λ (l : List Record). g.ks ++ l) d ∙ append-nil g.ks) in (
        g.on g.ks [] (subst (λ (l : List Record). Goes g.ks i l g.ks []) (sym d) ends),
        e ∙ rw (append-nil g.ds, k, g.numbers, g.numbers_many) refl,
      )
