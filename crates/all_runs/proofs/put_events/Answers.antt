-- `all_runs::put_events` meets its contract. Assumes nothing.
use mathlib.Core.Path.{refl}
use native.Mathlib.Omega.{arith}
use Rattle.all_runs.proofs.Days.{too_short, long_enough}
use Rattle.all_runs.proofs.put_events.Goals as goal

pub returns-then-buffer-n : goal.returns-then-buffer-n
returns-then-buffer-n c =
    let all = too_short _ _ _ (omega (arith, c.if-buffer-n.true)) in
    record {
      reply = all.0;
      buffer = all.1;
    }

pub returns : goal.returns
returns c =
    let s = c.args in
    let all = long_enough s.buffer.now s.log.now s.events (omega (arith, c.if-buffer-n.false))
    (rw c.copy_from_slice.ensures.after refl) in
    record {
      reply = all.0;
      buffer = all.1;
    }
