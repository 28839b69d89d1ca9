-- Document 01, "Verdict and plan test": the verdict over a lent list of bounds. Assumes nothing.
use Rattle.std.specs.Prelude.{Bool, not, List, [], ◌∷◌, ℕ, suc, eqb, if◌then◌else◌}
use Rattle.plan.specs.APlan.{ordinary, is, points, records_of}
use Rattle.records.specs.declared.Record.{Record}
use Rattle.plan.specs.declared.Plan.{Plan}
use Rattle.bounds.specs.Bounds.{bound_kept, both_in}
use Rattle.bounds.specs.declared.Bound.{Bound}
use Rattle.board.specs.Boards.{minute}
use Rattle.verdict.specs.Verdicts.{ended_of}
use Rattle.board.specs.declared.Board.{Board}
use Rattle.lent.specs.declared.Judged.{Judged}
use Rattle.lent.specs.declared.Judged.TheVariants.{Refused, Kept, Broken}

-- both points of a listed bound are in a plan of n points
abbrev pub named_in : ℕ → Bound → Bool
named_in n x = both_in n x.from x.to

-- the bound is kept on the board: Y − X ≤ d, as of an ordinary record
abbrev pub kept_on : Board → Bound → Bool
kept_on b x = bound_kept (minute b x.from) x.bound (minute b x.to)

-- the first of some bounds that is not so is answered with its place, counted from i; `next` where all are so
unfoldable pub first_not : (Bound → Bool) → (ℕ → Judged) → Judged → ℕ → List Bound → Judged
first_not so bad next i [] = next
first_not so bad next i (x ∷ xs) = if so x then first_not so bad next (suc i) xs else bad i

-- the whole list is looked through for 8 before any bound is judged
abbrev pub listed : ℕ → Board → List Bound → Judged
listed n b xs = first_not (named_in n) (Refused 8) (first_not (kept_on b) Broken Kept 0 xs) 0 xs

-- the plan's own refusal, 20 and 31, and then the list
unfoldable pub judge_of : Plan → Board → List Bound → Judged
judge_of p b xs =
    if not (eqb (ended_of p b).number 0) then Refused (ended_of p b).number (ended_of p b).place
    else listed (points (records_of p)) b xs

-- each answer in this paper's numbers: the reply number, 0 where nothing is refused
abbrev pub number_in : Judged → ℕ
number_in (Refused k j) = k
number_in Kept = 0
number_in (Broken j) = 0

-- and its place: of the record that a refusal is about, or of the first broken bound
abbrev pub place_in : Judged → ℕ
place_in (Refused k j) = j
place_in Kept = 0
place_in (Broken j) = j

-- the ordinary records of some records, each as a bound
unfoldable pub ordinaries : List Record → List Bound
ordinaries [] = []
ordinaries (r ∷ rs) = if is ordinary r then (record { from = r.a; to = r.b; bound = r.first } ∷ ordinaries rs) else ordinaries rs
