-- `kept_windows::bare_windows` meets its contract. Assumes nothing.
use native.Mathlib.Omega.{arith}
use Prim.Native.Nat.{◌-◌}
use Rattle.kept_windows.proofs.Opening.{sofar_start, sofar_turn}
use Rattle.kept_windows.proofs.bare_windows.Goals as goal

pub loop-p-init : goal.loop-p-init
loop-p-init c = sofar_start _ _ _

pub loop-p-preserved : goal.loop-p-preserved
loop-p-preserved c =
    let l = c.loop-p in
    rw c.from-q.ensures (sofar_turn _ _ _ _ _ _ l.invariant (l.p - 1) (omega (arith, c.loop-p-test.true)) _ _ _ c.is_open.ensures c.with_if-opens.ensures c.low_at.ensures)
