-- `all_runs::worst_run` meets its contract. Assumes nothing.
use mathlib.Core.Path.{refl, ◌∙◌}
use Prim.Native.Nat.{ℕ, ◌*◌}
use lib.ListN.{length-replicate}
use Rattle.plan.specs.Limits.{most_points, record_bytes}
use Rattle.all_runs.proofs.Searching.{few_rows, search_asks, search_runs, searching_start, searching_turn, searching_end}
use native.Mathlib.Omega.{arith}
use Rattle.all_runs.proofs.worst_run.Goals as goal

pub begin_rooms-starts-requires : goal.begin_rooms-starts-requires
begin_rooms-starts-requires c = c.requires.ready.sheet.few

pub overflow_add-past : goal.overflow_add-past
overflow_add-past c = let p = c.requires in omega (arith, few_rows p.plan p.ready)

pub loop-i-init : goal.loop-i-init
loop-i-init c = (refl, length-replicate {A = ℕ} (record_bytes * most_points) 0, searching_start _ _ _ _ _)

pub chosen-w-requires : goal.chosen-w-requires
chosen-w-requires c = let i = c.loop-i.invariant in rw i.0 (search_asks i.2 c.requires c.loop-i-test.true)

pub run-ran-requires : goal.run-ran-requires
run-ran-requires c =
    let i = c.loop-i.invariant in
    search_runs i.2 c.requires c.loop-i-test.true c.begin_rooms-starts.ensures (rw i.0 at c.chosen-w.ensures) (omega (arith, i.1))

pub overflow_step-i : goal.overflow_step-i
overflow_step-i c = omega (arith, c.loop-i-test.true, c.requires.ready.few)

pub loop-i-preserved : goal.loop-i-preserved
loop-i-preserved c =
    let i = c.loop-i.invariant in (
      i.0,
      c.run-ran.auto.log ∙ i.1,
      searching_turn i.2 c.loop-i-test.true c.begin_rooms-starts.ensures (rw i.0 at c.chosen-w.ensures) c.run-ran.ensures c.worse-found.ensures,
    )

pub returns : goal.returns
returns c = searching_end c.loop-i.invariant.2 c.loop-i-test.false
