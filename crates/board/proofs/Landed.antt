-- What is said of soundness and of an event taken is what it was before the crates `sounding` and `taking`: the texts as they
-- were, each equal to what stands in specs/. Assumes nothing.
use mathlib.Core.Path.{◌≡◌, refl, ap, ◌∙◌}
use mathlib.Core.Bool.{not, ◌&&◌}
use mathlib.Core.List.{List}
use Prim.Native.Nat.{ℕ, ◌*◌, ◌^◌, ◌<◌}
use lib.Dec.{eqb, leb}
use Rattle.std.specs.Prelude.{if◌then◌else◌}
use Rattle.points.specs.Sets.{member, members_of, below_of, subset_of, count_of, from, every}
use Rattle.plan.specs.Limits.{most_points, farthest}
use Rattle.links.specs.declared.Links.{Links}
use Rattle.calls.specs.Calls.{numbered}
pub use Rattle.running.specs.ByTable.{sound_at}
use Rattle.events.specs.Fields.{event_point, event_set}
use Rattle.events.specs.Inside.{event_in}
use Rattle.windows.specs.Inside.{beside_from}
use Rattle.windows.specs.declared.Windows.{Windows}
use Rattle.sounding.specs.ByLinks as sounding
use Rattle.taking.specs.Steps as taking
use Rattle.taking.specs.Steps.{points_of, step_of, refused_with}
use Rattle.board.specs.Boards.{fits, largest}
use Rattle.board.specs.Events.{taken}
use Rattle.board.specs.Inside.{clock_at, after_event}
use Rattle.board.specs.ByLinks.{sound_else, sound_by}
use Rattle.board.specs.ByWindows.{next_by, event_by, marks_of, taken_by, SetFits}
use Rattle.board.specs.declared.Board.{Board}
use Rattle.board.proofs.Marking.{marks_are}
use Rattle.board.proofs.ByPlan.{choice}

pub sound_else_is : (all ws : ℕ) (b : Board)
    → sound_else all ws b
    ≡ (subset_of b.done all
    && (every (fits b) (from 0 most_points)
    && (eqb b.clock (largest b.minutes (members_of b.done))
    && (leb b.clock (farthest * count_of b.done)
    && numbered (member ws) b.done b.minutes b.calls))))
sound_else_is all ws b = refl

pub sound_by_is : (l : Links) (b : Board)
    → sound_by l b
    ≡ (sound_else (below_of l.points) l.watched b && every (sound_at l b.clock b.done b.minutes b.calls) (members_of l.watched))
unfolding sounding.sound_by
sound_by_is l b = refl

module _ (l : Links) (b : Board) (w : Windows) (s : List ℕ) where
  pub taken_by_is : taken_by l b w s
      ≡ (if not (eqb (event_by l b w s) 0) then taken (event_by l b w s) (beside_from l b.done w (event_point s) (event_by l b w s)) b
      else taken 0 0 (after_event b (event_in s) (next_by b)))
  unfolding taking.step_by
  taken_by_is =
      let e = event_in s in
      choice (not (eqb (event_by l b w s) 0)) (refused_with (event_by l b w s) (beside_from l b.done w (event_point s) (event_by l b w s)) b.clock (marks_of b)) (step_of (next_by b) e (marks_of b))
      ∙ ap (λ (x : Board). if not (eqb (event_by l b w s) 0) then taken (event_by l b w s) (beside_from l b.done w (event_point s) (event_by l b w s)) b else taken 0 0 x)
      (marks_are e.minute (next_by b) (points_of e) (clock_at e.minute b))

  pub set_fits_is : (SetFits l b w s → event_by l b w s ≡ 0 → event_set s < 2 ^ 32) × ((event_by l b w s ≡ 0 → event_set s < 2 ^ 32) → SetFits l b w s)
  set_fits_is = (λ f. f.fits, λ h. record { fits = h })
