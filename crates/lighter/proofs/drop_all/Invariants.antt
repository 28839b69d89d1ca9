-- `lighter::drop_all` meets its contract. Assumes nothing.
use mathlib.Core.Path.{◌≡◌}
use lib.ListN.{length}
use Rattle.plan.specs.APlan.{records_of}
use Rattle.lighter.proofs.Going.{Going}
use Rattle.lighter.proofs.drop_all.Given as goal

abbrev pub invariant-loop-i : goal.invariant-loop-i
invariant-loop-i l = (l.total ≡ length (records_of l.initial.kept)) × Going (records_of l.initial.kept) l.many l.kept l.dropped l.count l.i
