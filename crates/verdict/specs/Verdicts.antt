-- Document 01, "Verdict and plan test": the verdict on a finished board. Assumes nothing.
use Rattle.std.specs.Prelude.{Bool, true, not, List, [], ◌∷◌, ℕ, suc, ◌+◌, ◌-◌, min, eqb, leb, if◌then◌else◌}
use Rattle.plan.specs.APlan.{ordinary, wait, is, link_to, gap_of, records_of}
use Rattle.plan.specs.ReplyNumbers.{check_of, refusal, accepted}
use Rattle.records.specs.declared.Record.{Record}
use Rattle.plan.specs.declared.Plan.{Plan}
use Rattle.plan.specs.declared.Refusal.{Refusal}
use Rattle.bounds.specs.Bounds.{bound_kept}
use Rattle.board.specs.Boards.{sound, minute}
use Rattle.board.specs.Stuck.{finished}
use Rattle.board.specs.declared.Board.{Board}
use Rattle.verdict.specs.declared.Verdict.{Verdict}
use Rattle.verdict.specs.declared.Verdict.TheVariants.{Refused, Kept, Broken}

-- Y − X ≤ d
abbrev pub ordinary_kept : Board → Record → Bool
ordinary_kept b r = bound_kept (minute b r.a) r.first (minute b r.b)

-- V − A ≥ min(w, C − A), where l is the link that ends at C
abbrev pub wait_kept : Board → Record → Record → Bool
wait_kept b l r = leb (minute b l.a + min (gap_of r.first).up (minute b l.b - minute b l.a)) (minute b r.a)

-- a record is kept; points and links are not judged
abbrev pub kept : List Record → Board → Record → Bool
kept rs b r =
    if is ordinary r then ordinary_kept b r
    else (if is wait r then wait_kept b (link_to rs r.b) r
    else true)

-- the first broken one of some records, counted from i
unfoldable pub first_broken : List Record → Board → ℕ → List Record → Verdict
first_broken rs b i [] = Kept
first_broken rs b i (x ∷ xs) = if kept rs b x then first_broken rs b (suc i) xs else Broken i

-- the plan's own refusal, then 20, then 31 where not all points are done
unfoldable pub ended_of : Plan → Board → Refusal
ended_of p b =
    if not (eqb (check_of p).number 0) then check_of p
    else (if not (sound (records_of p) b) then refusal 20 0
    else (if not (finished (records_of p) b) then refusal 31 0
    else accepted))

-- that, then the verdict
unfoldable pub verdict_of : Plan → Board → Verdict
verdict_of p b =
    if not (eqb (ended_of p b).number 0) then Refused (ended_of p b).number (ended_of p b).place
    else first_broken (records_of p) b 0 (records_of p)
