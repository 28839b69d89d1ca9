-- `vee::sheet::draw` meets its contract. Assumes nothing.
use Rattle.rows.specs.Sheet.{Drawing}
use Prim.Native.Nat.{◌≤◌}
use Rattle.rows.proofs.sheet.draw.Given as goal

abbrev pub invariant-loop-q : goal.invariant-loop-q
invariant-loop-q l = (l.q ≤ l.m) × Drawing l.part l.sheet l.durations l.n l.q l.t
