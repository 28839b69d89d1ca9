-- What the worst finishing minute is worth: it is the largest over all projections, each run finishes with every constraint
-- kept, and no durations in bounds take a foreman who takes the aim past it. Assumes nothing.
use mathlib.Core.Path.{◌≡◌, refl, sym, ap, subst, ◌∙◌}
use mathlib.Core.Logic.{◌≢◌}
use mathlib.Core.Bool.{Bool, true, false, not}
use mathlib.Core.List.{List, [], ◌∷◌}
use Prim.Native.Nat.{ℕ, ◌≤◌, ◌<◌}
use native.Mathlib.Omega.{arith}
use native.Mathlib.Decide.{dec_lt}
use lib.Dec.{eqb, ltb}
use lib.ListN.{length, get_or}
use borrow.Author.Tests.{eqb-true, ne_eqb, ltb-false, lt-ltb, le-ltb}
use Rattle.std.specs.Prelude.{Err, if◌then◌else◌}
use Rattle.plan.specs.APlan.{link_to, records_of}
use Rattle.plan.specs.ReplyNumbers.{check_of, refusal, accepted}
use Rattle.records.specs.declared.Record.{Record}
use Rattle.plan.specs.declared.Plan.{Plan}
use Rattle.board.specs.Boards.{fresh, longest}
use Rattle.board.specs.Stuck.{finished}
use Rattle.board.specs.declared.Board.{Board}
use Rattle.board.proofs.Theorems.Each.{clash, differ}
use Rattle.verdict.specs.Verdicts.{verdict_of}
use Rattle.network.specs.Projection.{InBounds}
use Rattle.vee.specs.declared.Answer.{Answer}
use Rattle.vee.specs.declared.Answer.TheVariants as answer
use Rattle.rows.specs.Sheet.{by}
use Rattle.vee.specs.PlanTest.{net_of, spans, unset, many, most_projections}
use Rattle.vee.specs.TestOf.{test_of}
use Rattle.vee.proofs.Rules.{Valid}
use Rattle.vee.proofs.Testing.{accepted_plan}
use Rattle.vee.proofs.Walks.{as_many}
use Rattle.vee.proofs.Yes.{Every, none, stands_for, yes_exactly}
use Rattle.vee.proofs.Executable.{computed}
use Rattle.promise.specs.Nets.{PassesPlan}
use Rattle.promise.specs.Plays.{Players, Play, Fixed}
use Rattle.promise.specs.GoodSheets.{AllTaken, board_of}
use Rattle.promise.proofs.Players.{longest_in_bounds}
use Rattle.worst.specs.WorstMinute.{projections_of, is_yes, worst_of_all, refused_of, worst_of, worst_at, worst_values, day_events}
use Rattle.projection_runs.specs.ProjectionRuns.{run_of, events_of_run}
use Rattle.worst.specs.Promises.{TakesAim, projection_at, NoneLater, DayStands, WorstStands, Answers}
use Rattle.all_runs.proofs.Searching.{projection_in_bounds}
use Rattle.projection_runs.proofs.OnRuns.{play_along, not_later, runs_well, is_play}
use Rattle.worst.proofs.Largest.{each_by, is_worst}

-- no events are all taken
nothing_taken : (p : Plan) (b : Board) → AllTaken p b []
unfolding AllTaken
nothing_taken p b = tt

module _ (p : Plan) (ok : (check_of p).number ≡ 0) where
  abbrev rs : List Record
  rs = records_of p

  v : Valid [] rs
  v = (accepted_plan p ok).1

  -- There is a projection: one stands for the longest durations.
  pub some_projection : 0 < many (spans (records_of p))
  some_projection = go (projections_of p) refl
    where
      go : (ws : List (List ℕ)) → projections_of p ≡ ws → 0 < many (spans rs)
      go [] e =
          let nothing : Every (λ (w : List ℕ). ⊥) (projections_of p) = subst (Every (λ (w : List ℕ). ⊥)) (sym e) none in
          absurd (stands_for rs v nothing (λ C. longest (link_to rs C)) (longest_in_bounds p ok)).1
      go (w ∷ ws) e = omega (arith, as_many (spans rs) unset, ap length e)

  module _ (passes : PassesPlan p) where
    -- Whatever durations in bounds haulage keeps to, a foreman who takes the aim reaches no board past the worst minute.
    pub none_later : NoneLater p (worst_of_all p).minute
    none_later = record { holds = go }
      where
        go : (ω : ℕ → ℕ) → InBounds (net_of rs) ω → (x : Players p) → Fixed p ω x.haulage → TakesAim p x.foreman
            → (b : Board) (k : ℕ) → Play p x b k → b.clock ≤ (worst_of_all p).minute
        go ω within x fix aims b k y =
            let s = stands_for rs v (each_by p) ω within in
            let i : InBounds (net_of rs) (by s.0) = record { within = λ l. rw (s.2.same l) (within.within l) } in
            omega (arith, not_later p ok passes s.0 i (play_along p ok passes s.0 x ω s.2 fix aims y), s.1)

    -- What the day of a projection is worth.
    pub day_stands : (n : ℕ) → DayStands p n
    day_stands n = elim (dec_lt n (many (spans rs))) [ yes h ↦ here h | no h ↦ past h ]
      where
        here : n < many (spans rs) → DayStands p n
        here h =
            let r = runs_well p ok passes (projection_at p n) (projection_in_bounds p ok n h) in
            let e : day_events p n ≡ events_of_run p (projection_at p n) = rw (lt-ltb n (many (spans rs)) h) refl in
            let b : board_of p (day_events p n) ≡ run_of p (projection_at p n) = ap (board_of p) e ∙ r.leads in
            record {
              taken = subst (AllTaken p fresh) (sym e) r.taken;
              few = omega (arith, ap length e, (r.each _ _ r.ends).events);
              finished = λ _. subst (λ (b : Board). finished rs b ≡ true) (sym b) r.finished;
              kept = λ _. ap (verdict_of p) b ∙ r.kept;
              minute = λ _. ap (λ (b : Board). b.clock) b;
              none = λ l. absurd (omega arith);
            }

        past : (n < many (spans rs) → ⊥) → DayStands p n
        past h =
            let e : day_events p n ≡ [] = rw (le-ltb n (many (spans rs)) (omega arith)) refl in
            record {
              taken = subst (AllTaken p fresh) (sym e) (nothing_taken p fresh);
              few = omega (arith, ap length e);
              finished = λ l. absurd (h l);
              kept = λ l. absurd (h l);
              minute = λ l. absurd (h l);
              none = λ _. e;
            }

    -- What the worst of all is worth.
    pub worst_stands : WorstStands p (worst_of_all p).minute (worst_of_all p).projection
    worst_stands =
        let w = is_worst p some_projection in
        let r = runs_well p ok passes (projection_at p (worst_of_all p).projection) (projection_in_bounds p ok (worst_of_all p).projection w.numbered) in
        record {
          worst = w;
          runs = λ j h. runs_well p ok passes (projection_at p j) (projection_in_bounds p ok j h);
          plays = λ j h. is_play p ok passes (projection_at p j) (projection_in_bounds p ok j h);
          none_later = none_later;
          bounded = omega (arith, w.reached, (r.each _ _ r.ends).clock);
          days = day_stands;
        }

-- ---- the answer

module _ (p : Plan) where
  -- the test's yes, of a plan that is accepted and has no more projections than are tested
  is_yes_lem : (a : Answer) → is_yes a ≡ true → (j : ℕ) × (a ≡ answer.Yes j)
  is_yes_lem (answer.Refused n i) e = clash (sym e)
  is_yes_lem (answer.Yes k) e = (k, refl)
  is_yes_lem (answer.Cycle i) e = clash (sym e)
  is_yes_lem (answer.Pair i X Y) e = clash (sym e)

  module _ (ok : (check_of p).number ≡ 0) (few : many (spans (records_of p)) ≤ most_projections) where
    yes_passing : is_yes (test_of p) ≡ true → PassesPlan p
    yes_passing e = let y = is_yes_lem (test_of p) e in (yes_exactly ok few (computed p)).0 y.0 y.1

    passing_yes : PassesPlan p → is_yes (test_of p) ≡ true
    passing_yes h = ap is_yes ((yes_exactly ok few (computed p)).1 h)

    passing_answered : PassesPlan p → worst_of p ≡ worst_at (worst_of_all p).minute (worst_of_all p).projection
    unfolding worst_of refused_of
    passing_answered h = rw (ok, le-ltb most_projections (many (spans (records_of p))) few, passing_yes h)

    failing_answered : (PassesPlan p → ⊥) → worst_of p ≡ Err (refusal 60 0)
    unfolding worst_of refused_of
    failing_answered h = go (is_yes (test_of p)) refl
      where
        go : (c : Bool) → is_yes (test_of p) ≡ c → worst_of p ≡ Err (refusal 60 0)
        go true e = absurd (h (yes_passing e))
        go false e = rw (ok, le-ltb most_projections (many (spans (records_of p))) few, e)

  own_answered : (check_of p).number ≢ 0 → worst_of p ≡ Err (check_of p)
  unfolding worst_of refused_of
  own_answered n = let e = ne_eqb (check_of p).number 0 n in rw (e, e)

  many_answered : (check_of p).number ≡ 0 → most_projections < many (spans (records_of p)) → worst_of p ≡ Err (refusal 13 0)
  unfolding worst_of refused_of
  many_answered ok l = rw (ok, lt-ltb most_projections (many (spans (records_of p))) l)

  -- A plan that is not refused.
  pub record Granted : Type 0 where
    pub ok : (check_of p).number ≡ 0
    pub few : many (spans (records_of p)) ≤ most_projections
    pub passes : PassesPlan p

  pub granted : (refused_of p).number ≡ 0 → Granted
  unfolding refused_of
  granted e = go (eqb (check_of p).number 0) (ltb most_projections (many (spans (records_of p)))) (is_yes (test_of p)) refl refl refl e
    where
      go : (a b c : Bool) → eqb (check_of p).number 0 ≡ a → ltb most_projections (many (spans (records_of p))) ≡ b → is_yes (test_of p) ≡ c
          → (if not a then check_of p else (if b then refusal 13 0 else (if not c then refusal 60 0 else accepted))).number ≡ 0 → Granted
      go false b c f g h e = clash (rw e at f)
      go true true c f g h e = absurd (omega arith)
      go true false false f g h e = absurd (omega arith)
      go true false true f g h e =
          let ok = eqb-true (check_of p).number 0 f in
          let few = ltb-false most_projections (many (spans (records_of p))) g in
          record { ok = ok; few = few; passes = yes_passing ok few h }

  answered : (t i : ℕ) → worst_of p ≡ worst_at t i → WorstStands p t i
  unfolding worst_of
  answered t i e = go (eqb (refused_of p).number 0) refl e
    where
      go : (c : Bool) → eqb (refused_of p).number 0 ≡ c
          → (if not c then Err (refused_of p) else worst_at (worst_of_all p).minute (worst_of_all p).projection) ≡ worst_at t i
          → WorstStands p t i
      go false f e = differ cc
      go true f e =
          let g = granted (eqb-true (refused_of p).number 0 f) in
          let m : (worst_of_all p).minute ≡ t = ap (λ a. get_or (worst_values a) 0 0) e in
          let n : (worst_of_all p).projection ≡ i = ap (λ a. get_or (worst_values a) 1 0) e in
          rw (m, n) at (worst_stands p g.ok g.passes)

  -- What is answered to every plan, and what the answer is worth.
  pub answers : Answers p
  answers =
      record {
        own = own_answered;
        too_many = many_answered;
        failing = failing_answered;
        passing = passing_answered;
        stands = answered;
      }
