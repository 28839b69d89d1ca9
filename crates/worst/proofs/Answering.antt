-- What the answer of the plan test refuses is what the rules refuse, and where it refuses nothing the plan can be run. Assumes
-- nothing.
use mathlib.Core.Path.{◌≡◌, refl, ap, ◌∙◌}
use mathlib.Core.Bool.{Bool, true, false, not}
use mathlib.Core.List.{List, ◌++◌}
use Prim.Native.Nat.{ℕ, ◌+◌, ◌*◌, ◌≤◌, ◌<◌}
use native.Mathlib.Omega.{arith}
use lib.Dec.{eqb, ltb}
use lib.ListN.{length, drop, length-take}
use borrow.Author.Tests.{eq-eqb, ne_eqb, lt-ltb, le-ltb}
use Rattle.std.specs.Prelude.{Result, Ok, Err, is_ok, if◌then◌else◌}
use Rattle.plan.specs.Limits.{most_records, record_bytes}
use Rattle.plan.specs.APlan.{points, links, records_of}
use Rattle.plan.specs.ReplyNumbers.{check_of, refusal, accepted}
use Rattle.plan.specs.declared.Plan.{Plan}
use Rattle.plan.specs.declared.Refusal.{Refusal}
use Rattle.rows.specs.Layout.{LaidOut}
use Rattle.vee.specs.PlanTest.{spans, many, most_projections, Found, all_good, good, cycle, pair, Tested, refused, too_many, tested}
use Rattle.vee.specs.TestOf.{test_of}
use Rattle.vee.specs.declared.Answer.{Answer}
use Rattle.vee.specs.declared.Answer.TheVariants as answer
use Rattle.vee.proofs.Testing.{accepted_plan}
use Rattle.vee.proofs.Yes.{yes_exactly}
use Rattle.vee.proofs.Executable.{test_is}
use Rattle.worst.specs.WorstMinute.{is_yes, refused_of, worst_of, bytes_of_all, day_of, day_written}
use Rattle.choices.specs.Answered.{refused_by, many_by}
use Rattle.choices.specs.Choices.{ChooseAsks, ChosenAs}
use Rattle.all_runs.specs.Coded.{day_for, written_for, DayAsks, DayAs, AllReady, FoundOf}
use Rattle.projection_runs.specs.ProjectionRuns.{events_of_run}
use Rattle.worst.specs.Promises.{projection_at}
use Rattle.all_runs.specs.declared.Found as found
use Rattle.worst.proofs.Stands.{Granted, granted}
use Rattle.all_runs.proofs.Searching.{choose_asks, chosen_is, run_ready}

-- nothing that is found of projections is a refusal
never_refused : {E : List ℕ → ℕ → ℕ → ℕ → ℕ → Type 0} {i n j : ℕ} {ws : List (List ℕ)} {a : Answer} → Found E i ws a → a ≡ answer.Refused n j → ⊥
never_refused all_good e = let z : ◌≡◌ {A = ℕ} 0 1 = cc in omega arith
never_refused (good g f) e = never_refused f e
never_refused (cycle c) e = let z : ◌≡◌ {A = ℕ} 0 1 = cc in omega arith
never_refused (pair b) e = let z : ◌≡◌ {A = ℕ} 0 1 = cc in omega arith

module _ {p : Plan} where
  -- What the answer refuses.
  pub refused_is : {a : Answer} → Tested p a → refused_by a ≡ refused_of p
  unfolding refused_of
  refused_is (refused h) = rw (ne_eqb (check_of p).number 0 h) refl
  refused_is (too_many e m) = rw (e, lt-ltb most_projections (many (spans (records_of p))) m) refl
  refused_is (tested {r = r} e m f) = rw (e, le-ltb most_projections (many (spans (records_of p))) m) (go r refl)
    where
      is : r ≡ test_of p
      is = test_is (tested e m f)

      go : (a : Answer) → r ≡ a → refused_by r ≡ (if not (is_yes (test_of p)) then refusal 60 0 else accepted)
      go (answer.Refused n i) k = absurd (never_refused f k)
      go (answer.Yes j) k = rw (← is, k) refl
      go (answer.Cycle i) k = rw (← is, k) refl
      go (answer.Pair i X Y) k = rw (← is, k) refl

  module _ {a : Answer} (t : Tested p a) {x : Refusal} (e : x ≡ refused_by a) where
    same : x ≡ refused_of p
    same = e ∙ refused_is t

    -- a refusal is the answer
    pub worst_refused : (x.number ≡ 0 → ⊥) → Err x ≡ worst_of p
    unfolding worst_of
    worst_refused h = rw (← same, ne_eqb x.number 0 h) refl

    module _ (none : x.number ≡ 0) where
      may_run : Granted p
      may_run = granted p (rw (← same) none)

      -- as many projections were tried as there are
      pub many_are : many_by a ≡ many (spans (records_of p))
      many_are = ap many_by ((yes_exactly may_run.ok may_run.few t).1 may_run.passes)

      pub few_records : p.count ≤ most_records
      few_records = (accepted_plan p may_run.ok).0

      module _ (long : length p.records ≡ most_records) {s : List ℕ} (laid : LaidOut (records_of p) s) {n k total : ℕ} (en : n ≡ points (records_of p)) (ek : k ≡ links (records_of p)) (et : total ≡ many_by a) where
        -- the plan can be run
        pub all_ready : AllReady p s p.count n k total
        all_ready =
            record {
              sheet = record {
                accepted = may_run.ok;
                laid = laid;
                rows = omega (arith, length-take p.count p.records, few_records);
                few = few_records;
              };
              points = en;
              links = ek;
              passes = may_run.passes;
              counted = et ∙ many_are;
              few = omega (arith, et, many_are, may_run.few);
            }

        pub worst_found : {f : found.Found} → FoundOf s p.count n k total f → Ok f ≡ worst_of p
        unfolding worst_of
        worst_found o = rw (o.minute p all_ready, o.projection p all_ready, ← same, eq-eqb x.number 0 none) refl

    -- a refused day changes no byte
    module _ (n : ℕ) (out : List ℕ) where
      pub day_refused_lem : (x.number ≡ 0 → ⊥) → (Err x ≡ day_of p n out) × (out ≡ day_written p n out)
      unfolding day_of day_written
      day_refused_lem h = let k = ne_eqb x.number 0 h in (rw (← same, k) refl, rw (← same, k) refl)

      module _ (none : x.number ≡ 0) where
        day_number_lem : eqb (refused_of p).number 0 ≡ true
        day_number_lem = rw (← same) (eq-eqb x.number 0 none)

        -- a number past the last projection has no events
        pub day_past : {total : ℕ} → total ≡ many_by a → total ≤ n → (Ok 0 ≡ day_of p n out) × (out ≡ day_written p n out)
        unfolding day_of day_written bytes_of_all
        day_past et h =
            let k : ltb n (many (spans (records_of p))) ≡ false = le-ltb n (many (spans (records_of p))) (omega (arith, et, many_are none)) in
            let s : ltb (length out) 0 ≡ false = le-ltb (length out) 0 (omega arith) in
            (rw (day_number_lem, k, s) refl, rw (day_number_lem, k, s) refl)

        -- the day of a projection
        pub day_is : {total : ℕ} → total ≡ many_by a → n < total → {w out' : List ℕ} {d : Result ℕ Refusal} → w ≡ projection_at p n
            → d ≡ day_for (events_of_run p w) out → out' ≡ written_for (events_of_run p w) out → (d ≡ day_of p n out) × (out' ≡ day_written p n out)
        unfolding day_of day_written
        day_is et h {w} {out'} {d} ew ex eo =
            let k : ltb n (many (spans (records_of p))) ≡ true = lt-ltb n (many (spans (records_of p))) (omega (arith, et, many_are none)) in
            let ex' : d ≡ day_for (events_of_run p (projection_at p n)) out = rw ew at ex in
            let eo' : out' ≡ written_for (events_of_run p (projection_at p n)) out = rw ew at eo in
            (ex' ∙ rw (day_number_lem, k) refl, eo' ∙ rw (day_number_lem, k) (go (ltb (length out) (record_bytes * length (events_of_run p (projection_at p n))))))
          where
            go : (c : Bool)
                → (if c then out else bytes_of_all (events_of_run p (projection_at p n)) ++ drop (record_bytes * length (events_of_run p (projection_at p n))) out)
                ≡ (if is_ok (if c then Err (refusal 12 0) else Ok (length (events_of_run p (projection_at p n)))) then bytes_of_all (events_of_run p (projection_at p n)) ++ drop (record_bytes * length (events_of_run p (projection_at p n))) out
                else out)
            go true = refl
            go false = refl

    module _ (none : x.number ≡ 0) (long : length p.records ≡ most_records) {s : List ℕ} (laid : LaidOut (records_of p) s) {n k total : ℕ} (en : n ≡ points (records_of p)) (ek : k ≡ links (records_of p)) (et : total ≡ many_by a)
        {i : ℕ} (h : i < total) where
      abbrev every : AllReady p s p.count n k total
      every = all_ready none long laid en ek et

      pub day_chooses : ChooseAsks s (n + k) k total i
      day_chooses = choose_asks p every i h

      module _ {w : List ℕ} (c : ChosenAs s (n + k) k i w) where
        pub day_asks : DayAsks s p.count n w
        day_asks = record { plan = p; ready = run_ready p every h c }

        pub day_found : {out out' : List ℕ} {d : Result ℕ Refusal} → DayAs s p.count n w out out' d → (d ≡ day_of p i out) × (out' ≡ day_written p i out)
        day_found {out} o = day_is i out none et h (chosen_is p every h c) (o.reply p (run_ready p every h c)) (o.written p (run_ready p every h c))
