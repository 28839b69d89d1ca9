-- `kept_windows::holders_of` meets its contract. Assumes nothing.
use Rattle.kept_windows.proofs.Opening.{Collecting}
use Rattle.kept_windows.proofs.holders_of.Given as goal

abbrev pub invariant-loop-p : goal.invariant-loop-p
invariant-loop-p l = Collecting l.rows l.out l.kept l.p l.holders
