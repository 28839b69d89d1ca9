-- Plays of haulage and the foreman, for a plan that is accepted and passes: all that can happen is accepted, and every play
-- goes on until all is done, in at most as many events as there are points. Assumes nothing of boards or events.
use mathlib.Core.Path.{◌≡◌, refl, sym, ◌∙◌}
use mathlib.Core.Logic.{◌⊎◌, inl, inr}
use mathlib.Core.Bool.{Bool, true, false, not}
use mathlib.Core.List.{List}
use Prim.Native.Nat.{ℕ, zero, suc, ◌+◌, ◌<◌}
use native.Mathlib.Omega.{arith}
use Rattle.std.specs.Prelude.{if◌then◌else◌}
use Rattle.plan.specs.APlan.{points, records_of}
use Rattle.plan.specs.ReplyNumbers.{check_of}
use Rattle.records.specs.declared.Record.{Record}
use Rattle.plan.specs.declared.Plan.{Plan}
use Rattle.plan.proofs.Accepted.{Accepted, accepted_plan}
use Rattle.board.specs.Boards.{sound}
use Rattle.board.specs.Windows.{some_open}
use Rattle.board.specs.Stuck.{finished, stuck}
use Rattle.replies.specs.Replies.{outcome_of}
use Rattle.board.specs.Events.{take_of}
use Rattle.board.specs.declared.Board.{Board}
use Rattle.replies.specs.declared.Outcome.TheVariants.{Finished, Stuck, Waiting, Offers}
use Rattle.board.proofs.Theorems.Soundness.{HeldBoard, sound_means}
use Rattle.board.proofs.Theorems.Each.{differ}
use Rattle.promise.specs.Nets.{PassesPlan}
use Rattle.promise.specs.Runs.{Run, Promised}
use Rattle.promise.specs.Runs as runs
use Rattle.promise.specs.Plays.{Event, event_bytes, CanHappen, Happened, Players, Make, choice, wait, Play, Finishes}
use Rattle.promise.specs.Plays as plays
use Rattle.promise.proofs.Standing.{not_stuck}
use Rattle.promise.proofs.Executor.{take_is, outcome_is, stands, executor}
use Rattle.promise.proofs.Happening.{happens, happens_bytes}
use Rattle.promise.proofs.Making.{by_choice, by_wait}
use Rattle.promise.proofs.Players.{some_players}

-- A board that waits is neither finished nor stuck, and nothing is open.
pub waiting : (rs : List Record) (b : Board) → outcome_of rs b ≡ Waiting → (finished rs b ≡ false) × (stuck rs b ≡ false) × (some_open rs b ≡ false)
unfolding outcome_of
waiting rs b e = go (finished rs b) (stuck rs b) (some_open rs b) e
  where
    go : (f s o : Bool) → (if f then Finished else (if s then Stuck else (if not o then Waiting else Offers))) ≡ Waiting
        → (f ≡ false) × (s ≡ false) × (o ≡ false)
    go true s o e = differ cc
    go false true o e = differ cc
    go false false false e = (refl, refl, refl)
    go false false true e = differ cc

module _ (p : Plan) (ok : (check_of p).number ≡ 0) (passes : PassesPlan p) where
  abbrev rs : List Record
  rs = records_of p

  known : Accepted rs
  known = accepted_plan p ok

  module _ {b : Board} {k : ℕ} (r : Run p b k) where
    good : sound rs b ≡ true
    good = (stands p ok passes r).good

    held : HeldBoard b
    held = (stands p ok passes r).held

    -- The board is not stuck unless it is finished.
    pub free : finished rs b ≡ false → stuck rs b ≡ false
    free = not_stuck rs known passes b held (sound_means rs b good) (stands p ok passes r).safe

    -- Whatever can happen next is accepted.
    pub happening_accepted : {e : Event} → CanHappen p b e → (take_of p b (event_bytes e)).number ≡ 0
    happening_accepted {e} c =
        rw (take_is p ok b (event_bytes e), good, happens p ok b held good free e c)

    -- What haulage and the foreman make can happen.
    pub made_can_happen : {x : Players p} {e : Event} → Make p x k b e → CanHappen p b e
    made_can_happen {x} (choice g o) = by_choice p ok b held good (x.haulage k b g) (x.foreman k b o)
    made_can_happen {x} (wait g o) =
        let t = waiting rs b (sym (outcome_is p ok b g) ∙ o) in
        by_wait p ok b held good (x.haulage k b g) t.2 t.1

    -- Where not all is done they make something.
    pub make_on : (x : Players p) → (finished rs b ≡ true) ⊎ ((e : Event) × Make p x k b e)
    unfolding outcome_of
    make_on x = go (finished rs b) (some_open rs b) refl refl
      where
        go : (f o : Bool) → finished rs b ≡ f → some_open rs b ≡ o → (finished rs b ≡ true) ⊎ ((e : Event) × Make p x k b e)
        go true o f h = inl f
        go false true f h = inr (_, choice good (outcome_is p ok b good ∙ rw (f, free f, h)))
        go false false f h = inr (_, wait good (outcome_is p ok b good ∙ rw (f, free f, h)))

  -- Events that can happen, one after the other, are a run of accepted events.
  pub happened_run : {b : Board} {k : ℕ} → Happened p b k → Run p b k
  happened_run plays.start = runs.start
  happened_run (plays.next {b} e h c) =
      let r = happened_run h in
      runs.next (event_bytes e) r (happens_bytes p ok b (held r) (good r) (free r) e c) (happening_accepted r c)

  -- Whatever happens, what is promised of runs holds at each board.
  pub happened_promised : {b : Board} {k : ℕ} → Happened p b k → Promised p b k
  happened_promised h = executor p ok passes (happened_run h)

  -- While not all is done, something can happen.
  pub happening_on : {b : Board} {k : ℕ} → Happened p b k → (finished rs b ≡ true) ⊎ ((e : Event) × CanHappen p b e)
  happening_on h =
      let r = happened_run h in
      elim (make_on r (some_players p ok)) [ inl f ↦ inl f | inr m ↦ inr (m.0, made_can_happen r m.1) ]

  module _ (x : Players p) where
    -- A play is made of what can happen.
    pub play_happened : {b : Board} {k : ℕ} → Play p x b k → Happened p b k
    play_happened plays.start = plays.start
    play_happened (plays.next {e = e} y m) = let h = play_happened y in plays.next e h (made_can_happen (happened_run h) m)

    play_on : (n : ℕ) {b : Board} {k : ℕ} → Play p x b k → points rs < n + k → Finishes p x
    play_on zero y l = absurd (omega (arith, (happened_promised (play_happened y)).events))
    play_on (suc n) {b} {k} y l =
        elim (make_on (happened_run (play_happened y)) x) [
          | inl f ↦
              let q = happened_promised (play_happened y) in
              record { board = b; events = k; play = y; few = q.events; finished = f; kept = q.kept f }
          | inr m ↦ play_on n (plays.next y m.1) (omega arith)
        ]

    -- Every play goes on until all is done, in at most as many events as there are points, and then every constraint
    -- holds.
    pub finishes : Finishes p x
    finishes = play_on (suc (points rs)) plays.start (omega arith)
