-- `all_runs::write_day` meets its contract. Assumes nothing.
use Prim.Native.Nat.{ℕ, ◌*◌}
use lib.ListN.{length-replicate}
use Rattle.plan.specs.Limits.{most_points, record_bytes}
use Rattle.all_runs.proofs.Days.{day_counts, day_few, day_written_lem}
use native.Mathlib.Omega.{arith}
use Rattle.all_runs.proofs.write_day.Goals as goal

pub begin_rooms-starts-requires : goal.begin_rooms-starts-requires
begin_rooms-starts-requires c = c.requires.ready.sheet.few

pub run-ran-requires : goal.run-ran-requires
run-ran-requires c = day_counts c.requires c.begin_rooms-starts.ensures (omega (arith, length-replicate {A = ℕ} (record_bytes * most_points) 0))

pub put_events-requires : goal.put_events-requires
put_events-requires c =
    let few = day_few c.requires c.begin_rooms-starts.ensures c.run-ran.ensures in
    (few, omega (arith, few, c.run-ran.auto.log, length-replicate {A = ℕ} (record_bytes * most_points) 0))

pub returns : goal.returns
returns c =
    day_written_lem
    c.requires
    c.begin_rooms-starts.ensures
    c.run-ran.ensures
    c.put_events.ensures.reply
    c.put_events.ensures.buffer
