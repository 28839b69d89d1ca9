-- What the crate's own functions answer, one bound at a time: no reader of `judge` needs this page. Assumes nothing.
use Rattle.std.specs.Prelude.{Bool, true, false, not, List, [], ◌∷◌, ℕ, suc, eqb, if◌then◌else◌}
use Rattle.plan.specs.APlan.{points, records_of}
use Rattle.plan.specs.declared.Plan.{Plan}
use Rattle.bounds.specs.declared.Bound.{Bound}
use Rattle.verdict.specs.Verdicts.{ended_of}
use Rattle.board.specs.declared.Board.{Board}
use Rattle.lent.specs.Judgement.{named_in, kept_on}
use Rattle.lent.specs.declared.Judged.{Judged}
use Rattle.lent.specs.declared.Judged.TheVariants.{Refused, Kept, Broken}
use Rattle.lent.specs.declared.Judging.{Judging}

-- before the first bound
abbrev pub begun_of : Plan → Board → Judging
begun_of p b =
    record {
      answer = if not (eqb (ended_of p b).number 0) then Refused (ended_of p b).number (ended_of p b).place else Kept;
      points = points (records_of p);
      board = b;
    }

-- a refusal stays, whatever bounds come
abbrev pub is_refused : Judged → Bool
is_refused (Refused k j) = true
is_refused Kept = false
is_refused (Broken j) = false

-- after the answer a, with one bound at the place i
abbrev pub answer_after : Judged → ℕ → Bool → Bool → Judged
answer_after (Refused k j) i named kept = Refused k j
answer_after Kept i named kept = if not named then Refused 8 i else (if kept then Kept else Broken i)
answer_after (Broken j) i named kept = if named then Broken j else Refused 8 i

abbrev pub judged_after : Judging → ℕ → Bound → Judging
judged_after s i x =
    record { answer = answer_after s.answer i (named_in s.points x) (kept_on s.board x); points = s.points; board = s.board }

-- the answer after all of some bounds, the first of them at the place i
unfoldable pub gone_through : Judging → ℕ → List Bound → Judged
gone_through s i [] = s.answer
gone_through s i (x ∷ xs) = gone_through (judged_after s i x) (suc i) xs

-- how many bounds a list by value has room for
abbrev pub list_room : ℕ
list_room = 4096
