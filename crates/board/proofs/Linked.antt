-- Soundness clause by clause is what is asked of the links and what is asked beside it; from an accepted plan's links it is what
-- it is from the plan's records. Assumes nothing.
use mathlib.Core.Path.{◌≡◌, refl, sym, ap, ◌∙◌}
use mathlib.Core.Bool.{Bool, true, false, ◌&&◌, and-false}
use mathlib.Core.List.{List}
use Prim.Native.Nat.{◌*◌}
use lib.Dec.{eqb, leb}
use Rattle.points.specs.Sets.{member, members_of, below_of, subset_of, count_of, from, every}
use Rattle.plan.specs.Limits.{most_points, farthest}
use Rattle.plan.specs.APlan.{points, watched, records_of}
use Rattle.plan.specs.ReplyNumbers.{check_of}
use Rattle.plan.specs.declared.Plan.{Plan}
use Rattle.plan.specs.declared.Refusal.{Refusal}
use Rattle.records.specs.declared.Record.{Record}
use Rattle.plan.proofs.Accepted.{accepted_plan}
use Rattle.links.specs.Inside.{LinksOf}
use Rattle.links.specs.declared.Links.{Links}
use Rattle.calls.proofs.Laws.{numbered_by}
use Rattle.running.proofs.ByRecords.{all_sound}
use Rattle.sounding.specs.ByLinks as sounding
use Rattle.board.specs.Boards.{fits, largest, each, in_bounds, sound}
use Rattle.board.specs.Calls.{earlier, well_numbered}
use Rattle.board.specs.Stuck.{finished}
use Rattle.board.specs.InsideReplies.{Ready}
use Rattle.board.specs.ByLinks.{sound_else, sound_by}
use Rattle.board.specs.declared.Board.{Board}

-- five tests and two, in the rules' order
arrange : (s f c i l e w : Bool) → ((s && (f && (c && (l && w)))) && (i && e)) ≡ (s && (f && (c && (i && (l && (e && w))))))
arrange false f c i l e w = refl
arrange true false c i l e w = refl
arrange true true false i l e w = refl
arrange true true true false l e w = and-false (l && w)
arrange true true true true false e w = refl
arrange true true true true true false w = and-false w
arrange true true true true true true true = refl
arrange true true true true true true false = refl

-- by the records of any plan
pub sound_is : (rs : List Record) (l : Links) → LinksOf rs l → (b : Board)
    → (sound_else (below_of l.points) l.watched b && (each (in_bounds b) rs && each (earlier b) rs)) ≡ sound rs b
unfolding sound
sound_is rs l w b =
    rw (w.points, numbered_by (member l.watched) (watched rs) b.done b.minutes b.calls w.watches)
    (arrange
    (subset_of b.done (below_of (points rs)))
    (every (fits b) (from 0 most_points))
    (eqb b.clock (largest b.minutes (members_of b.done)))
    (each (in_bounds b) rs)
    (leb b.clock (farthest * count_of b.done))
    (each (earlier b) rs)
    (well_numbered rs b))

-- whatever the code has for it
pub sound_as : (rs : List Record) (l : Links) → LinksOf rs l → (b : Board) (t : Bool)
    → t ≡ (sound_else (below_of l.points) l.watched b && (each (in_bounds b) rs && each (earlier b) rs)) → t ≡ sound rs b
sound_as rs l w b t e = e ∙ sound_is rs l w b

-- by an accepted plan's links
pub sound_by_lem : (p : Plan) → (check_of p).number ≡ 0 → (l : Links) → LinksOf (records_of p) l → (b : Board) → sound_by l b ≡ sound (records_of p) b
unfolding sounding.sound_by
sound_by_lem p ok l w b =
    ap (λ (t : Bool). sound_else (below_of l.points) l.watched b && t) (all_sound (records_of p) (accepted_plan p ok) l w b.clock b.done b.minutes b.calls)
    ∙ sound_is (records_of p) l w b

-- whatever the code has for it
pub sound_known : (p : Plan) → (check_of p).number ≡ 0 → (l : Links) → LinksOf (records_of p) l → (b : Board) (t k : Bool) → t ≡ sound_by l b → t ≡ k → sound (records_of p) b ≡ k
sound_known p ok l w b t k e f = sym (sound_by_lem p ok l w b) ∙ sym e ∙ f

-- what is known where the plan is accepted and its links say that the board is sound
pub ready_known : (p : Plan) (found : Refusal) → found ≡ check_of p → found.number ≡ 0 → (l : Links) → LinksOf (records_of p) l → (b : Board) (t : Bool) → t ≡ sound_by l b → t ≡ true → Ready p b l
ready_known p found e z l w b t k f = record { accepted = rw e at z; sound = sound_known p (rw e at z) l w b t true k f; links = w }

-- all points are done, by the links
pub finished_known : (rs : List Record) (l : Links) → LinksOf rs l → (b : Board) (t k : Bool) → t ≡ eqb b.done (below_of l.points) → t ≡ k → finished rs b ≡ k
finished_known rs l w b t k e f = sym (λ i. eqb b.done (below_of (w.points i))) ∙ sym e ∙ f
