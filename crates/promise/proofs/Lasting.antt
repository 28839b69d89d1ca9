-- Haulage whose durations are fixed beforehand: in each play each link lasts as long as they say. For a plan that is
-- accepted and passes. Assumes nothing of boards or events.
use mathlib.Core.Path.{◌≡◌, sym, ◌∙◌}
use mathlib.Core.Logic.{inl, inr}
use mathlib.Core.Bool.{true}
use mathlib.Core.List.{List}
use Prim.Native.Nat.{ℕ, ◌+◌, ◌^◌, ◌≤◌, ◌<◌}
use native.Mathlib.Omega.{arith}
use borrow.Author.Tests.{eqb-true}
use Rattle.points.specs.Sets.{member}
use Rattle.points.proofs.Laws.{member_empty, member_small}
use Rattle.plan.specs.Limits.{most_points}
use Rattle.plan.specs.APlan.{watched, records_of}
use Rattle.plan.specs.ReplyNumbers.{check_of}
use Rattle.records.specs.declared.Record.{Record}
use Rattle.plan.specs.declared.Plan.{Plan}
use Rattle.plan.proofs.Accepted.{Accepted, accepted_plan}
use Rattle.board.specs.Boards.{sound, is_done, minute}
use Rattle.board.specs.Events.{event_minute, event_point, event_set, ends_running, event_number, board_after, take_of}
use Rattle.board.specs.declared.Board.{Board}
use Rattle.board.proofs.Theorems.Each.{clash, both, and_both}
use Rattle.board.proofs.Theorems.Soundness.{sound_means}
use Rattle.board.proofs.Theorems.Marks.{names, named, Marks}
use Rattle.board.proofs.Theorems.Taking.{Takes, takes, opened, event_marks}
use Rattle.network.specs.Projection.{InBounds}
use Rattle.network.proofs.Plans.{Running, Agrees}
use Rattle.network.proofs.Plays.{agrees_event}
use Rattle.vee.specs.PlanTest.{net_of}
use Rattle.promise.specs.Nets.{PassesPlan}
use Rattle.promise.specs.Runs.{Run}
use Rattle.promise.specs.Plays as plays
use Rattle.promise.specs.Plays.{Event, event_bytes, CanHappen, first_end, ending_at, Foreman, Players, Make, choice, wait, Play, Finishes, Fixed, Lasted}
use Rattle.promise.proofs.Nets.{link_of, joins, rules_of}
use Rattle.promise.proofs.Boards.{says_of, is_running, in_time_of, event_of_lem}
use Rattle.promise.proofs.Gathering.{set_of_out}
use Rattle.promise.proofs.Executor.{Stands, stands, took}
use Rattle.promise.proofs.Happening.{Reads, happens, happens_reads}
use Rattle.promise.proofs.Making.{comes_first_lem, first_le}
use Rattle.promise.proofs.Players.{fixed, is_fixed}
use Rattle.promise.proofs.Play.{free, happening_accepted, made_can_happen, happened_run, play_happened, finishes}

module _ (p : Plan) (ok : (check_of p).number ≡ 0) (passes : PassesPlan p) (x : Players p) (ω : ℕ → ℕ) (fix : Fixed p ω x.haulage) where
  abbrev rs : List Record
  rs = records_of p

  known : Accepted rs
  known = accepted_plan p ok

  -- one event that the players make, at a board that ω agrees with
  module _ {b : Board} {k : ℕ} {e : Event} (r : Run p b k) (make : Make p x k b e) (agree : Agrees (net_of rs) (says_of b) ω) where
    abbrev s : List ℕ
    s = event_bytes e

    w : Stands p b k
    w = stands p ok passes r

    can : CanHappen p b e
    can = made_can_happen p ok passes r make

    reads : Reads s e
    reads = happens_reads p ok b w.held w.good (free p ok passes r) e can

    number : event_number rs b s ≡ 0
    number = happens p ok b w.held w.good (free p ok passes r) e can

    fits : event_set s < 2 ^ 32
    fits = rw reads.set can.small

    take : Takes rs b s
    take = takes rs b s number

    marks : Marks b s (board_after b s)
    marks = event_marks p ok b w.held w.good s fits number

    -- the event is at the first end or before, and has all that ends then
    first : (g : sound rs b ≡ true) × (e.minute ≤ first_end rs b (x.haulage k b g).at) × (e.set ≡ ending_at rs b (x.haulage k b g).at e.minute)
    first = go make
      where
        go : {e : Event} → Make p x k b e
            → (g : sound rs b ≡ true) × (e.minute ≤ first_end rs b (x.haulage k b g).at) × (e.set ≡ ending_at rs b (x.haulage k b g).at e.minute)
        go (choice g o) = let c = comes_first_lem rs b (x.haulage k b g).at _ _ in (g, c.0, c.1)
        go (wait g o) = let c = comes_first_lem rs b (x.haulage k b g).at _ _ in (g, c.0, c.1)

    abbrev end : ℕ → ℕ
    end = (x.haulage k b first.0).at

    module _ {A y z C : ℕ} (run : Running (net_of rs) (says_of b) A y z C) where
      ends_at_lem : end C ≡ minute b A + ω C
      ends_at_lem = let j = joins rs known run.link in rw j.from at (fix.at k b first.0 C (rw j.from (agree.running run)))

      -- a link that ends in the event ends at its minute
      at_end : is_done (board_after b s) C ≡ true → event_minute s ≡ minute b A + ω C
      at_end d =
          let small = member_small _ C marks.held.done d in
          let n : names s C ≡ true = rw run.undone at (sym (marks.done C small) ∙ d) in
          elim (named s C n) [
            | inl m ↦
                let i : member (ending_at rs b end e.minute) C ≡ true = rw (reads.set, first.2) at m in
                let o = both (ends_running rs b C) _ (set_of_out _ most_points 0 C (omega arith) i) in
                omega (arith, reads.minute, eqb-true (end C) e.minute o.1, ends_at_lem)
            | inr q ↦ clash (sym (joins rs known run.link).watched ∙ rw q.1 (opened rs b (event_point s) (take.opens q.0)).1)
          ]

      -- no running link has run out
      in_end : event_minute s ≤ minute b A + ω C
      in_end =
          let i = and_both (watched rs C) _ (joins rs known run.link).watched (is_running rs known b run) in
          omega (arith, reads.minute, first.1, first_le p ok b w.held w.good (x.haulage k b first.0) C i, ends_at_lem)

    agrees_next : Agrees (net_of rs) (says_of (take_of p b s).board) ω
    agrees_next =
        let m = sound_means rs b w.good in
        rw (took p ok b s w.good (happening_accepted p ok passes r can)).1
        (agrees_event (rules_of rs known) (event_of_lem rs known b w.held m s fits take) (in_time_of rs known b m) agree
        (record { ended = λ run d. at_end run d; running = λ run u. in_end run }))

  -- The durations agree with each board of a play: no running link has run out.
  pub agrees : {b : Board} {k : ℕ} → Play p x b k → Agrees (net_of rs) (says_of b) ω
  agrees plays.start = record { ended = λ {A} l a c. clash (sym a ∙ member_empty A); running = λ {A} r. clash (sym r.started ∙ member_empty A) }
  agrees (plays.next y m) = agrees_next (happened_run p ok passes (play_happened p ok passes x y)) m (agrees y)

  -- Where haulage's durations are fixed beforehand, each link that has ended has lasted as long as they say.
  pub lasted : {b : Board} {k : ℕ} → Play p x b k → Lasted p ω b
  lasted {b} y C c d =
      let l = link_of rs known C c in
      (agrees y).ended l ((in_time_of rs known b (sound_means rs b (stands p ok passes (happened_run p ok passes (play_happened p ok passes x y))).good)).started l d) d

module _ (p : Plan) (ok : (check_of p).number ≡ 0) (passes : PassesPlan p) where
  -- For any durations in bounds and any foreman, the play in which haulage keeps to those durations goes on until all is
  -- done, every constraint holds then, and each link has lasted as long as they say.
  pub at_durations : (ω : ℕ → ℕ) (within : InBounds (net_of (records_of p)) ω) (foreman : Foreman p)
      → (f : Finishes p (record { haulage = fixed p ok ω within; foreman = foreman })) × Lasted p ω f.board
  at_durations ω within foreman =
      let x : Players p = record { haulage = fixed p ok ω within; foreman = foreman } in
      let f = finishes p ok passes x in
      (f, lasted p ok passes x ω (is_fixed p ok ω within) f.play)
