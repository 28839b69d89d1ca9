-- What is said of a board's end is what it was before the crate `sounding`: the text as it was, with the text of soundness as it was.
-- Assumes nothing.
use mathlib.Core.Path.{◌≡◌}
use mathlib.Core.Bool.{not, ◌&&◌}
use lib.Dec.{eqb}
use Rattle.std.specs.Prelude.{if◌then◌else◌}
use Rattle.points.specs.Sets.{members_of, below_of, every}
use Rattle.plan.specs.ReplyNumbers.{refusal, accepted}
use Rattle.links.specs.declared.Links.{Links}
use Rattle.board.specs.ByLinks.{sound_else}
use Rattle.board.specs.declared.Board.{Board}
use Rattle.board.proofs.Landed.{sound_at, sound_by_is}
use Rattle.verdict.specs.Inside.{ended_by}

pub ended_by_is : (l : Links) (b : Board)
    → ended_by l b
    ≡ (if not (sound_else (below_of l.points) l.watched b && every (sound_at l b.clock b.done b.minutes b.calls) (members_of l.watched)) then refusal 20 0
    else (if not (eqb b.done (below_of l.points)) then refusal 31 0
    else accepted))
unfolding ended_by
ended_by_is l b = λ i. if not (sound_by_is l b i) then refusal 20 0 else (if not (eqb b.done (below_of l.points)) then refusal 31 0 else accepted)
