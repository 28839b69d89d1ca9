-- The reply from links and windows, by how far the tests come; and from an accepted plan's links and a board's windows it is the one
-- from the plan's records. Assumes nothing.
use mathlib.Core.Path.{◌≡◌, refl, ◌∙◌}
use mathlib.Core.Bool.{Bool, true, false}
use mathlib.Core.List.{List}
use Prim.Native.Nat.{ℕ}
use lib.Dec.{eqb}
use borrow.Author.Tests.{eq-eqb, ne_eqb, eqb-true, eqb-false}
use Rattle.points.specs.Sets.{below_of}
use Rattle.std.specs.Prelude.{if◌then◌else◌}
use Rattle.plan.proofs.Accepted.{Accepted}
use Rattle.records.specs.declared.Record.{Record}
use Rattle.links.specs.Inside.{LinksOf}
use Rattle.links.specs.declared.Links.{Links}
use Rattle.windows.specs.Inside.{latest_from}
use Rattle.windows.specs.Inside as windows
use Rattle.windows.specs.declared.Windows.{Windows}
use Rattle.planless.specs.ByWindows.{stuck_by}
use Rattle.planless.proofs.ByPlan.{stuck_same}
use Rattle.board.specs.Stuck.{finished, stuck}
use Rattle.board.specs.InsideReplies.{WindowsOf}
use Rattle.board.specs.declared.Board.{Board}
use Rattle.board.proofs.Opening.{windows_here}
use Rattle.board.proofs.Replying.{nothing_open, something_open, stuck_here}
use Rattle.replies.specs.Replies.{bare, sound_reply}
use Rattle.replies.specs.Inside.{list_from}
use Rattle.replies.specs.ByWindows.{reply_by}
use Rattle.replies.specs.declared.Outcome.TheVariants.{Finished, Stuck, Waiting, Offers}
use Rattle.replies.specs.declared.Reply.{Reply}
use Rattle.replies.proofs.Replying.{offer_here, standing_here, reply_finished, reply_stuck, reply_waiting, reply_offers}

-- what the code answers is r; x is what it has for stuck
module _ (l : Links) (b : Board) (w : Windows) (r : Reply) where
  pub finishes : b.done ≡ below_of l.points → r ≡ bare Finished → r ≡ reply_by l b w
  unfolding reply_by
  finishes h a = rw (eq-eqb b.done (below_of l.points) h) a

  module _ (h : b.done ≡ below_of l.points → ⊥) (x : Bool) (test : x ≡ stuck_by l b.done w) where
    pub sticks : x ≡ true → r ≡ list_from Stuck b l.watched w false 0 → r ≡ reply_by l b w
    unfolding reply_by
    sticks e a = rw (ne_eqb b.done (below_of l.points) h, ← test, e) a

    pub waits : x ≡ false → w.opens ≡ 0 → r ≡ list_from Waiting b l.watched w false 0 → r ≡ reply_by l b w
    unfolding reply_by
    waits e o a = rw (ne_eqb b.done (below_of l.points) h, ← test, e, eq-eqb w.opens 0 o) a

    pub offers : x ≡ false → (w.opens ≡ 0 → ⊥) → (m : ℕ) → m ≡ latest_from b.clock w.high → r ≡ list_from Offers b l.watched w true m → r ≡ reply_by l b w
    unfolding reply_by
    offers e o m late a = rw (ne_eqb b.done (below_of l.points) h, ← test, e, ne_eqb w.opens 0 o) (rw late at a)

module _ (rs : List Record) (ok : Accepted rs) (l : Links) (has : LinksOf rs l) (b : Board) (w : Windows)
    (ws : windows.WindowsOf rs b.clock b.done b.minutes w) where
  here : WindowsOf rs b w
  here = windows_here rs b w ws

  finished_here : eqb b.done (below_of l.points) ≡ finished rs b
  finished_here = λ i. eqb b.done (below_of (has.points i))

  stuck_by_lem : stuck_by l b.done w ≡ stuck rs b
  stuck_by_lem = stuck_same rs ok l has b.done w ∙ stuck_here rs b w here

  -- the first outcome that fits
  outcome : (f s o : Bool) → finished rs b ≡ f → stuck rs b ≡ s → eqb w.opens 0 ≡ o
      → (if f then bare Finished
      else (if s then list_from Stuck b l.watched w false 0
      else (if o then list_from Waiting b l.watched w false 0
      else list_from Offers b l.watched w true (latest_from b.clock w.high))))
      ≡ sound_reply rs b
  outcome true s o e g h = reply_finished rs b e
  outcome false true o e g h = standing_here rs b l has w here Stuck ∙ reply_stuck rs b e g
  outcome false false true e g h = standing_here rs b l has w here Waiting ∙ reply_waiting rs b e g (nothing_open rs b w here (eqb-true w.opens 0 h))
  outcome false false false e g h =
      offer_here rs b l has w here (latest_from b.clock w.high) refl ∙ reply_offers rs b e g (something_open rs b w here (eqb-false w.opens 0 h))

  -- the reply
  pub reply_same : reply_by l b w ≡ sound_reply rs b
  unfolding reply_by
  reply_same = rw (finished_here, stuck_by_lem) (outcome (finished rs b) (stuck rs b) (eqb w.opens 0) refl refl refl)
