-- `rows::layout::lay_out` meets its contract. Assumes nothing.
use Rattle.rows.specs.Layout.{Starts}
use Rattle.rows.proofs.Layouts.{Laying}
use Rattle.plan.specs.APlan.{records_of}
use Prim.Native.Nat.{◌≤◌}
use Rattle.rows.proofs.layout.lay_out.Given as goal

abbrev pub invariant-loop-q : goal.invariant-loop-q
invariant-loop-q l = (l.q ≤ l.count) × Starts (records_of l.plan) l.starts × Laying (records_of l.plan) l.q l.sheet
