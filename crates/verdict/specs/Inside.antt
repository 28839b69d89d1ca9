-- What the functions behind the verdict compute. A reader of the rules can leave this page out: the open functions' contracts do
-- not cite it. Assumes nothing.
use Rattle.std.specs.Prelude.{Bool, true, not, ℕ, ◌+◌, ◌-◌, min, eqb, leb, if◌then◌else◌}
use Rattle.points.specs.Sets.{below_of}
use Rattle.plan.specs.APlan.{ordinary, wait, is, gap_of}
use Rattle.records.specs.declared.Record.{Record}
use Rattle.plan.specs.ReplyNumbers.{refusal, accepted}
use Rattle.plan.specs.declared.Refusal.{Refusal}
use Rattle.links.specs.declared.Links.{Links}
use Rattle.bounds.specs.Bounds.{bound_kept}
use Rattle.board.specs.ByLinks.{sound_by}
use Rattle.board.specs.declared.Board.{Board}

-- the record r is kept, where its points are at the minutes `at` and `to`, and the link to its second one started at `from`
abbrev pub kept_at : ℕ → ℕ → ℕ → Record → Bool
kept_at at to from r =
    if is ordinary r then bound_kept at r.first to
    else (if is wait r then leb (from + min (gap_of r.first).up (to - from)) at
    else true)

-- 20, then 31, of the board b by the links l
unfoldable pub ended_by : Links → Board → Refusal
ended_by l b =
    if not (sound_by l b) then refusal 20 0
    else (if not (eqb b.done (below_of l.points)) then refusal 31 0
    else accepted)
