-- Taking an event: the tests of its set on a plan's links say what the rules say, and so do those of its point on the
-- windows; then the number of the whole event, and the board after it. Assumes nothing.
use mathlib.Core.Path.{◌≡◌, refl, ap, ◌∙◌}
use mathlib.Core.Bool.{Bool, true, false, not, ◌&&◌, ◌||◌}
use mathlib.Core.List.{List}
use Prim.Native.Nat.{ℕ, ◌+◌, ◌-◌, ◌≤◌, min}
use native.Mathlib.Omega.{arith}
use lib.Dec.{eqb, ltb, leb}
use lib.ListN.{get_or}
use borrow.Author.Tests.{eqb-true, eqb-false, ltb-true}
use Rattle.points.specs.Sets.{member}
use Rattle.std.specs.Prelude.{if◌then◌else◌}
use Rattle.plan.specs.Limits.{most_points, farthest}
use Rattle.plan.specs.APlan.{points}
use Rattle.records.specs.declared.Record.{Record}
use Rattle.board.specs.Windows.{is_open, low, some_open}
use Rattle.board.specs.Stuck.{finished, stuck, latest}
use Rattle.board.specs.Events.{event_minute, event_point, event_set, no_point, well_formed, event_number, event_record}
use Rattle.lowhigh.specs.Rules.{beside}
use Rattle.links.specs.Inside.{set_number}
use Rattle.events.proofs.Forming.{formed_point}
use Rattle.windows.specs.Inside.{latest_from, point_from, later_number, Numbered}
use Rattle.board.specs.Inside.{point_number}
use Rattle.board.specs.InsideReplies.{WindowsOf}
use Rattle.board.specs.declared.Board.{Board}
use Rattle.windows.specs.declared.Windows.{Windows}
use Rattle.board.proofs.Opening.{windows_here}
use Rattle.board.proofs.Replying.{nothing_open, something_open, stuck_here}

-- the tests of the foreman's point
module _ (rs : List Record) (b : Board) (w : Windows) (ws : WindowsOf rs b w) where
  some_opens : some_open rs b ≡ not (eqb w.opens 0)
  some_opens = go (eqb w.opens 0) refl
    where
      go : (k : Bool) → eqb w.opens 0 ≡ k → some_open rs b ≡ not k
      go true e = nothing_open rs b w ws (eqb-true w.opens 0 e)
      go false e = something_open rs b w ws (eqb-false w.opens 0 e)

  pub point_same : (m t p : ℕ) → m ≡ min w.high (b.clock + farthest + farthest) - farthest → (eqb p no_point || ltb p most_points) ≡ true → point_from w m t p ≡ point_number rs b t p
  unfolding point_from point_number
  point_same m t p e h = rw (e, ws.high, some_opens) (go (eqb p no_point) h)
    where
      last : ℕ
      last = if not (eqb w.opens 0) && ltb (latest rs b) t then 30 else 0

      go : (k : Bool) → (k || ltb p most_points) ≡ true
          → (if not (k || member w.opens p) then 28 else (if not (k || leb (get_or w.lows p 0) t) then 29 else last))
          ≡ (if not (k || is_open rs b p) then 28 else (if not (k || leb (low rs b p) t) then 29 else last))
      go true x = refl
      go false x =
          let q = ltb-true p most_points x in
          rw (ws.opens p q, ws.lows p q)

-- the number of the whole event
module _ (rs : List Record) (b : Board) (s : List ℕ) where
  pub number_finished : finished rs b ≡ true → 21 ≡ event_number rs b s
  unfolding event_number
  number_finished e = rw e

  module _ (f : finished rs b ≡ false) where
    pub number_stuck : stuck rs b ≡ true → 22 ≡ event_number rs b s
    unfolding event_number
    number_stuck e = rw (f, e)

    module _ (k : stuck rs b ≡ false) where
      pub number_formed : well_formed rs s ≡ false → 23 ≡ event_number rs b s
      unfolding event_number
      number_formed e = rw (f, k, e)

      pub number_rest : well_formed rs s ≡ true → set_number rs b.clock b.done b.minutes (event_minute s) (event_set s) (point_number rs b (event_minute s) (event_point s)) ≡ event_number rs b s
      unfolding event_number set_number point_number
      number_rest e = rw (f, k, e)

      -- 23 to 30 from the windows
      pub number_later : (w : Windows) → WindowsOf rs b w → points rs ≤ most_points → later_number rs b.clock b.done b.minutes w s ≡ event_number rs b s
      unfolding later_number
      number_later w ws few = go (well_formed rs s) refl
        where
          go : (t : Bool) → well_formed rs s ≡ t
              → (if not t then 23
              else set_number rs b.clock b.done b.minutes (event_minute s) (event_set s) (point_from w (latest_from b.clock w.high) (event_minute s) (event_point s)))
              ≡ event_number rs b s
          go false e = number_formed e
          go true e = rw (point_same rs b w ws _ (event_minute s) (event_point s) refl (formed_point (points rs) s e few)) (number_rest e)

-- the number that the windows give
module _ (rs : List Record) (b : Board) (s : List ℕ) (few : points rs ≤ most_points) (n i : ℕ) (num : Numbered rs b.clock b.done b.minutes s n i) where
  by_stuck : finished rs b ≡ false → (w : Windows) → WindowsOf rs b w → (k : Bool) → stuck rs b ≡ k
      → (if k then 22 else later_number rs b.clock b.done b.minutes w s) ≡ event_number rs b s
  by_stuck f w ws true e = number_stuck rs b s f e
  by_stuck f w ws false e = number_later rs b s f e w ws few

  by_finished : (k : Bool) → finished rs b ≡ k → n ≡ event_number rs b s
  by_finished true f = num.finished f ∙ number_finished rs b s f
  by_finished false f =
      let q = num.windows f in
      let ws = windows_here rs b q.0 q.1 in
      (rw (stuck_here rs b q.0 ws) at q.2) ∙ by_stuck f q.0 ws (stuck rs b) refl

  pub number_here : n ≡ event_number rs b s
  number_here = by_finished (finished rs b) refl

  pub record_here : i ≡ event_record rs b s
  record_here = num.record_beside ∙ ap (λ (k : ℕ). beside rs b.done (event_point s) k) number_here

-- an event of number 0 is well formed
pub taken_formed : (rs : List Record) (b : Board) (s : List ℕ) → event_number rs b s ≡ 0 → well_formed rs s ≡ true
unfolding event_number
taken_formed rs b s = go (finished rs b) (stuck rs b) (well_formed rs s) _
  where
    go : (x y z : Bool) (n : ℕ) → (if x then 21 else (if y then 22 else (if not z then 23 else n))) ≡ 0 → z ≡ true
    go true y z n e = absurd (omega arith)
    go false true z n e = absurd (omega arith)
    go false false true n e = refl
    go false false false n e = absurd (omega arith)
