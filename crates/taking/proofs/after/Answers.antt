-- `taking::after` meets its contract. Assumes nothing.
use mathlib.Core.List.{[], ◌∷◌, append-nil}
use borrow.Author.Tests.{eq-eqb, ne_eqb}
use Rattle.points.specs.Sets.{members_of}
use Rattle.taking.proofs.Marking.{marks_append}
use Rattle.taking.proofs.after.Goals as goal

pub returns-then-e-eq-NO_POINT : goal.returns-then-e-eq-NO_POINT
returns-then-e-eq-NO_POINT c = rw (eq-eqb _ _ c.if-e-eq-NO_POINT.true, append-nil) c.mark_set-next.ensures

pub returns-else-e-eq-NO_POINT : goal.returns-else-e-eq-NO_POINT
returns-else-e-eq-NO_POINT c =
    let a = c.args in
    rw (ne_eqb _ _ c.if-e-eq-NO_POINT.false, c.mark.ensures, c.mark_set-next.ensures) (marks_append a.e.minute a.n (members_of a.e.set) (a.e.point ∷ []) a.marks)
