-- From an accepted plan's links and from the windows of what has happened, each answer is the one from the plan's records.
-- Assumes nothing.
use mathlib.Core.Path.{◌≡◌, ◌∙◌}
use mathlib.Core.Bool.{not}
use mathlib.Core.List.{List}
use Prim.Native.Nat.{ℕ, ◌+◌}
use lib.Dec.{eqb, ltb}
use lib.ListN.{get_or}
use Rattle.points.specs.Sets.{members_of, below_of, every}
use Rattle.std.specs.Prelude.{if◌then◌else◌}
use Rattle.plan.specs.Limits.{farthest}
use Rattle.plan.specs.APlan.{points}
use Rattle.records.specs.declared.Record.{Record}
use Rattle.plan.proofs.Accepted.{Accepted}
use Rattle.links.specs.Inside.{LinksOf}
use Rattle.links.specs.declared.Links.{Links}
use Rattle.events.specs.Fields.{event_minute, event_point, event_set, well_formed}
use Rattle.running.proofs.ByRecords.{any_runs_lem, set_number_lem}
use Rattle.windows.specs.Inside.{WindowsOf, stuck_from, latest_from, point_from, beside_from, later_number, Numbered}
use Rattle.windows.specs.declared.Windows.{Windows}
use Rattle.windows.proofs.Opening.{beside_here}
use Rattle.planless.specs.ByWindows.{stuck_by, later_by, number_by}

module _ (rs : List Record) (ok : Accepted rs) (l : Links) (has : LinksOf rs l) (done : ℕ) (w : Windows) where
  -- stuck
  pub stuck_same : stuck_by l done w ≡ stuck_from rs done w
  stuck_same = λ i.
      if eqb w.opens 0 then not (any_runs_lem rs ok l has done i)
      else every (λ (q : ℕ). ltb w.high (get_or w.lows q 0 + farthest)) (members_of w.opens)

  module _ (clock : ℕ) (minutes s : List ℕ) where
    -- 23 to 30
    later_same : later_by l clock done minutes w s ≡ later_number rs clock done minutes w s
    unfolding later_by later_number
    later_same = λ i.
        if not (well_formed (has.points i) s) then 23
        else set_number_lem rs ok l has clock done minutes (event_minute s) (event_set s) (point_from w (latest_from clock w.high) (event_minute s) (event_point s)) i

    -- 21 to 30, and the record beside the number
    pub numbered : WindowsOf rs clock done minutes w
        → Numbered rs clock done minutes s (number_by l clock done minutes w s) (beside_from l done w (event_point s) (number_by l clock done minutes w s))
    unfolding number_by
    numbered ws =
        let done_by : eqb done (below_of l.points) ≡ eqb done (below_of (points rs)) = λ i. eqb done (below_of (has.points i)) in
        record {
          record_beside = beside_here rs clock done minutes ok.few l has w ws (event_point s) (number_by l clock done minutes w s);
          finished = λ h. rw (done_by ∙ h);
          windows = λ h. (w, ws, rw (done_by ∙ h) (λ i. if stuck_same i then 22 else later_same i));
        }
