-- `rounds::less` meets its contract. Assumes nothing.
use Rattle.std.proofs.Common.{rules}
use Rattle.tables.proofs.Rows.{row_by_as}
use Rattle.rounds.proofs.less.Goals as goal

pub returns : goal.returns
returns c = row_by_as (λ v r p. search rules) c.row_by.ensures
