-- `sayings::kind_row` meets its contract. Assumes nothing.
use mathlib.Core.Path.{sym, ◌∙◌}
use native.Mathlib.Omega.{arith}
use Rattle.sayings.proofs.Rowing.{row_fits, row_few, row_wrong, row_good, err_on}
use Rattle.sayings.proofs.kind_row.Goals as goal

pub returns-then-words-places : goal.returns-then-words-places
returns-then-words-places c =
    let a = c.args in
    row_few a.kind a.words a.cells _ c.places_of-places.ensures (omega arith) (omega (arith, c.if-words-places.true))

pub all_hold-requires : goal.all_hold-requires
all_hold-requires c =
    let a = c.args in
    row_fits a.kind a.words a.cells _ c.places_of-places.ensures (omega arith)

pub returns-in_err-all_hold : goal.returns-in_err-all_hold
returns-in_err-all_hold c =
    let a = c.args in
    err_on _ _ c.from_residual.ensures.1
    ∙ row_wrong a.kind a.words a.cells _ c.places_of-places.ensures (omega arith) (omega arith) _ (sym c.in_err-all_hold.was ∙ c.all_hold.ensures)

pub returns : goal.returns
returns c =
    let a = c.args in
    rw c.said_by.ensures (row_good a.kind a.words a.cells _ c.places_of-places.ensures (omega arith) (omega arith) (sym c.in_ok-all_hold.was ∙ c.all_hold.ensures))
