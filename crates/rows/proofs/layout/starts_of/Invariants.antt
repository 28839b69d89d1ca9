-- `rows::layout::starts_of` meets its contract. Assumes nothing.
use Rattle.rows.proofs.Layouts.{Starting}
use Rattle.rows.proofs.layout.starts_of.Given as goal

abbrev pub invariant-loop-q : goal.invariant-loop-q
invariant-loop-q l = Starting l.plan l.starts l.q
