-- `kept_windows::bare_windows` meets its contract. Assumes nothing.
use Rattle.kept_windows.proofs.Opening.{Sofar}
use Rattle.kept_windows.proofs.bare_windows.Given as goal

abbrev pub invariant-loop-p : goal.invariant-loop-p
invariant-loop-p l = Sofar l.kept l.points l.watched l.opens l.lows l.p
