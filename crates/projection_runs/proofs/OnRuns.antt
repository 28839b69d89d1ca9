-- The run of a projection is a play: that of haulage that keeps to the projection's durations and a foreman who takes the aim.
-- So what is promised of plays holds of it. For a plan that is accepted and passes. Assumes nothing of boards or events.
use mathlib.Core.Path.{◌≡◌, refl, sym, ap, subst, ◌∙◌}
use mathlib.Core.Logic.{inl, inr}
use mathlib.Core.Bool.{Bool, true, false}
use mathlib.Core.List.{List, [], ◌∷◌, map}
use Prim.Native.Nat.{ℕ, zero, suc, ◌+◌, ◌-◌, ◌*◌, ◌≤◌, ◌<◌}
use native.Mathlib.Omega.{arith}
use lib.ListN.{length}
use Rattle.std.specs.Prelude.{if◌then◌else◌}
use Rattle.plan.specs.Limits.{farthest}
use Rattle.plan.specs.APlan.{points, watched, link_to, records_of}
use Rattle.plan.specs.ReplyNumbers.{check_of}
use Rattle.records.specs.declared.Record.{Record}
use Rattle.plan.specs.declared.Plan.{Plan}
use Rattle.plan.proofs.Accepted.{Accepted, accepted_plan}
use Rattle.board.specs.Boards.{fresh, sound, minute}
use Rattle.board.specs.Windows.{never}
use Rattle.board.specs.Stuck.{finished, stuck}
use Rattle.board.specs.Events.{no_point, ends_running, take_of}
use Rattle.board.specs.Streams.{board_after_all}
use Rattle.board.specs.declared.Board.{Board}
use Rattle.board.proofs.Theorems.Each.{clash, both}
use Rattle.board.proofs.Theorems.Soundness.{sound_means}
use Rattle.replies.proofs.Offered as offers
use Rattle.network.specs.Projection.{InBounds}
use Rattle.rows.specs.Sheet.{by}
use Rattle.vee.specs.PlanTest.{net_of}
use Rattle.vee.proofs.Yes.{Agree}
use Rattle.promise.specs.Nets.{PassesPlan}
use Rattle.promise.specs.Runs.{Run}
use Rattle.promise.specs.Plays.{Event, event_bytes, comes_first, Players, Make, choice, wait, Play, Fixed, Lasted}
use Rattle.promise.specs.Plays as plays
use Rattle.promise.specs.GoodSheets.{AllTaken, board_of}
use Rattle.promise.proofs.Boards.{running_of}
use Rattle.promise.proofs.Standing.{done_few}
use Rattle.promise.proofs.Executor.{Stands, stands, outcome_is, executor}
use Rattle.promise.proofs.Happening.{happens_bytes}
use Rattle.promise.proofs.Players.{fixed, is_fixed}
use Rattle.promise.proofs.Play.{waiting, free, happening_accepted, made_can_happen, make_on, happened_run, play_happened}
use Rattle.promise.proofs.Lasting.{agrees, lasted}
use Rattle.promise.proofs.After as taking
use Rattle.projection_runs.specs.ProjectionRuns.{aim, aimed, falls, next_event, after, run_from, events_from, run_of, events_of_run}
use Rattle.projection_runs.specs.RunPromises.{Along, start, next, OnTheWay, RunsWell, TakesAim, IsPlay}
use Rattle.projection_runs.proofs.Alike.{comes_alike}
use Rattle.projection_runs.proofs.TheAim.{aim_soon, aim_is, aiming, aims}

module _ (p : Plan) (ok : (check_of p).number ≡ 0) (passes : PassesPlan p) (w : List ℕ) where
  abbrev rs : List Record
  rs = records_of p

  known : Accepted rs
  known = accepted_plan p ok

  -- ---- a run and a play

  -- haulage keeps to the durations ω, which are w's at the links' C, and the foreman takes the aim
  module _ (x : Players p) (ω : ℕ → ℕ) (same : Agree (net_of rs) (by w) ω) (fix : Fixed p ω x.haulage) (aims : TakesAim p x.foreman) where
    run_of_lem : {b : Board} {k : ℕ} → Play p x b k → Run p b k
    run_of_lem y = happened_run p ok passes (play_happened p ok passes x y)

    -- the running links end when w says
    ends_alike : {b : Board} {k : ℕ} → Play p x b k → (g : sound rs b ≡ true) (C : ℕ) → ends_running rs b C ≡ true
        → (x.haulage k b g).at C ≡ falls rs w b C
    ends_alike {b} {k} y g C h =
        let n = both (watched rs C) _ h in
        let r = running_of rs known b C n.0 n.1 in
        fix.at k b g C ((agrees p ok passes x ω fix y).running r) ∙ ap (λ (t : ℕ). minute b (link_to rs C).a + t) (sym (same.same r.link))

    -- what they make is the run's event
    made_is : {b : Board} {k : ℕ} {e : Event} → Play p x b k → Make p x k b e → e ≡ next_event rs w b
    made_is {b} {k} y (choice g o) =
        let st = stands p ok passes (run_of_lem y) in
        let f = offers.offers rs b (sym (outcome_is p ok b g) ∙ o) in
        let a = aims.at k b o (aim_soon p ok b (sound_means rs b g) f.1 st.held f.2) in
        comes_alike rs b (x.haulage k b g).at (falls rs w b) _ _ (ends_alike y g)
        ∙ (λ i. comes_first rs b (falls rs w b) (a.0 i) (a.1 i))
    made_is {b} {k} y (wait g o) =
        let st = stands p ok passes (run_of_lem y) in
        let f = waiting rs b (sym (outcome_is p ok b g) ∙ o) in
        let n = (aim_is p ok b (sound_means rs b g) f.1 st.held).none f.2 in
        comes_alike rs b (x.haulage k b g).at (falls rs w b) never no_point (ends_alike y g)
        ∙ sym (λ i. comes_first rs b (falls rs w b) (n.0 i) (n.1 i))

    -- They reach the boards of the run
    pub along_play : {b : Board} {k : ℕ} → Along p w b k → Play p x b k
    along_play start = plays.start
    along_play (next {b} {k} a n) =
        let y = along_play a in
        elim (make_on p ok passes (run_of_lem y) x) [
          | inl f ↦ clash (sym f ∙ n)
          | inr m ↦ subst (λ (e : Event). Play p x (take_of p b (event_bytes e)).board (suc k)) (made_is y m.1) (plays.next y m.1)
        ]

    unfinished : {b : Board} {k : ℕ} {e : Event} → Make p x k b e → finished rs b ≡ false
    unfinished {b} (choice g o) = (offers.offers rs b (sym (outcome_is p ok b g) ∙ o)).0
    unfinished {b} (wait g o) = (waiting rs b (sym (outcome_is p ok b g) ∙ o)).0

    -- and no other.
    pub play_along : {b : Board} {k : ℕ} → Play p x b k → Along p w b k
    play_along plays.start = start
    play_along (plays.next {b} {k} {e} y m) =
        subst (λ (e : Event). Along p w (take_of p b (event_bytes e)).board (suc k)) (sym (made_is y m)) (next (play_along y) (unfinished m))

    -- the event of a board that is not finished is accepted
    on_way : {b : Board} {k : ℕ} → Play p x b k → finished rs b ≡ false → (take_of p b (event_bytes (next_event rs w b))).number ≡ 0
    on_way {b} y n =
        elim (make_on p ok passes (run_of_lem y) x) [
          | inl f ↦ clash (sym f ∙ n)
          | inr m ↦
              subst (λ (e : Event). (take_of p b (event_bytes e)).number ≡ 0) (made_is y m.1)
              (happening_accepted p ok passes (run_of_lem y) (made_can_happen p ok passes (run_of_lem y) m.1))
        ]

    -- and time does not run back
    clock_on : {b : Board} {k : ℕ} → Play p x b k → finished rs b ≡ false → b.clock ≤ (after p w b).clock
    clock_on {b} y n =
        let r = run_of_lem y in
        let st = stands p ok passes r in
        elim (make_on p ok passes r x) [
          | inl f ↦ clash (sym f ∙ n)
          | inr m ↦
              let c = made_can_happen p ok passes r m.1 in
              let s = event_bytes m.0 in
              let e = happening_accepted p ok passes r c in
              let bytes = happens_bytes p ok b st.held st.good (free p ok passes r) m.0 c in
              let t = taking.take p ok st.held st.good s bytes e in
              let k = (taking.marks p ok st.held st.good s bytes e).clock in
              subst (λ (e : Event). b.clock ≤ (take_of p b (event_bytes e)).board.clock) (made_is y m.1) (omega (arith, t.later, k))
        ]

  -- ---- the run

  module _ (within : InBounds (net_of rs) (by w)) where
    -- haulage that keeps to w's durations, and a foreman who takes the aim
    pub players : Players p
    players = record { haulage = fixed p ok (by w) within; foreman = aiming p ok }

    own : Agree (net_of rs) (by w) (by w)
    own = record { same = λ l. refl }

    keeps_to : Fixed p (by w) players.haulage
    unfolding players
    keeps_to = is_fixed p ok (by w) within

    takes_aim : TakesAim p players.foreman
    unfolding players
    takes_aim = aims p ok

    play : {b : Board} {k : ℕ} → Along p w b k → Play p players b k
    play = along_play players (by w) own keeps_to takes_aim

    -- Each board of the run is sound, has its room, and is safe in the words of the network.
    pub along_events : {b : Board} {k : ℕ} → Along p w b k → Run p b k
    along_events a = happened_run p ok passes (play_happened p ok passes players (play a))

    pub along_stands : {b : Board} {k : ℕ} → Along p w b k → Stands p b k
    along_stands a = stands p ok passes (along_events a)

    -- What is promised of each board of the run.
    pub on_the_way : {b : Board} {k : ℕ} → Along p w b k → OnTheWay p w b k
    on_the_way {b} {k} a =
        let y = play a in
        let r = happened_run p ok passes (play_happened p ok passes players y) in
        let st = stands p ok passes r in
        let q = executor p ok passes r in
        record {
          sound = q.sound;
          free = q.free;
          accepted = on_way players (by w) own keeps_to takes_aim y;
          aim = λ n. aim_is p ok b (sound_means rs b st.good) (free p ok passes r n) st.held;
          events = q.events;
          clock = omega (arith, q.clock, done_few rs b st.held (sound_means rs b st.good));
          lasted = lasted p ok passes players (by w) keeps_to y;
        }

    -- ---- its end

    -- the run goes along its boards
    along_run : (n m : ℕ) {b : Board} {k : ℕ} → Along p w b k → m ≡ k + length (events_from p w n b) → Along p w (run_from p w n b) m
    unfolding run_from events_from
    along_run zero m {b} {k} a e = let z : m ≡ k = omega arith in rw z a
    along_run (suc n) m {b} {k} a e = go (finished rs b) refl e (λ f. along_run n m (next a f))
      where
        go : (f : Bool) → finished rs b ≡ f → m ≡ k + length (if f then [] else (next_event rs w b ∷ events_from p w n (after p w b)))
            → (finished rs b ≡ false → m ≡ suc k + length (events_from p w n (after p w b)) → Along p w (run_from p w n (after p w b)) m)
            → Along p w (if f then b else run_from p w n (after p w b)) m
        go true f e on = let z : m ≡ k = omega arith in rw z a
        go false f e on = on f (omega arith)

    -- with an event left for each point that is left, it finishes
    ends_finished : (n : ℕ) {b : Board} {k : ℕ} → Along p w b k → points rs ≤ n + k → finished rs (run_from p w n b) ≡ true
    unfolding run_from
    ends_finished zero {b} {k} a l = go (finished rs b) refl
      where
        go : (f : Bool) → finished rs b ≡ f → finished rs b ≡ true
        go true f = f
        go false f = absurd (omega (arith, (on_the_way (next a f)).events))
    ends_finished (suc n) {b} {k} a l = go (finished rs b) refl (λ f. ends_finished n (next a f) (omega arith))
      where
        go : (f : Bool) → finished rs b ≡ f → (finished rs b ≡ false → finished rs (run_from p w n (after p w b)) ≡ true)
            → finished rs (if f then b else run_from p w n (after p w b)) ≡ true
        go true f on = f
        go false f on = on f

    -- its events are accepted
    all_taken : (n : ℕ) {b : Board} {k : ℕ} → Along p w b k → AllTaken p b (events_from p w n b)
    unfolding events_from AllTaken
    all_taken zero a = tt
    all_taken (suc n) {b} {k} a = go (finished rs b) refl (λ f. all_taken n (next a f))
      where
        go : (f : Bool) → finished rs b ≡ f → (finished rs b ≡ false → AllTaken p (after p w b) (events_from p w n (after p w b)))
            → AllTaken p b (if f then [] else (next_event rs w b ∷ events_from p w n (after p w b)))
        go true f on = tt
        go false f on = ((on_the_way a).accepted f, on f)

    -- no board of the run is later than its end
    clock_rises : (n : ℕ) {b : Board} {k : ℕ} → Along p w b k → b.clock ≤ (run_from p w n b).clock
    unfolding run_from
    clock_rises zero a = omega arith
    clock_rises (suc n) {b} {k} a = go (finished rs b) refl (λ f. clock_rises n (next a f))
      where
        go : (f : Bool) → finished rs b ≡ f → (finished rs b ≡ false → (after p w b).clock ≤ (run_from p w n (after p w b)).clock)
            → b.clock ≤ (if f then b else run_from p w n (after p w b)).clock
        go true f on = omega arith
        go false f on = omega (arith, on f, clock_on players (by w) own keeps_to takes_aim (play a) f)

  -- the events lead along the run
  leads_on : (n : ℕ) (b : Board) → board_after_all p b (map event_bytes (events_from p w n b)) ≡ run_from p w n b
  unfolding events_from run_from board_after_all
  leads_on zero b = refl
  leads_on (suc n) b = go (finished rs b) (leads_on n (after p w b))
    where
      go : (f : Bool) → board_after_all p (after p w b) (map event_bytes (events_from p w n (after p w b))) ≡ run_from p w n (after p w b)
          → board_after_all p b (map event_bytes (if f then [] else (next_event rs w b ∷ events_from p w n (after p w b))))
          ≡ (if f then b else run_from p w n (after p w b))
      go true h = refl
      go false h = h

  -- what is left of the run leads to its end
  pub rest_of : (n m : ℕ) {b : Board} {k : ℕ} → Along p w b k → m ≡ n + k → run_from p w m fresh ≡ run_from p w n b
  unfolding run_from
  rest_of n m start e = let z : m ≡ n = omega arith in rw z refl
  rest_of n m (next {b} {k} a f) e = rest_of (suc n) m a (omega arith) ∙ rw f refl

  module _ (within : InBounds (net_of rs) (by w)) where
    -- No board of the run is later than the one that it ends on.
    pub not_later : {b : Board} {k : ℕ} → Along p w b k → b.clock ≤ (run_of p w).clock
    not_later {b} {k} a =
        let n = points rs - k in
        let e = rest_of n (points rs) a (omega (arith, (on_the_way within a).events)) in
        rw e (clock_rises within n a)

    -- What is promised of the run.
    pub runs_well : RunsWell p w
    runs_well =
        let a = along_run within (points rs) (length (events_of_run p w)) start (omega arith) in
        let f = ends_finished within (points rs) start (omega arith) in
        let y = play within a in
        record {
          each = λ b k a. on_the_way within a;
          ends = a;
          finished = f;
          kept = (executor p ok passes (happened_run p ok passes (play_happened p ok passes (players within) y))).kept f;
          taken = all_taken within (points rs) start;
          leads = leads_on (points rs) fresh;
        }

    -- The run is a play.
    pub is_play : IsPlay p w
    is_play =
        record {
          players = players within;
          fixed = keeps_to within;
          aims = takes_aim within;
          plays = λ x f t b k a. along_play x (by w) (own within) f t a;
          no_other = λ x f t b k y. play_along x (by w) (own within) f t y;
        }
