-- `lowhigh::tables_of` meets its contract. Assumes nothing.
use native.Mathlib.Omega.{arith}
use mathlib.Core.Path.{refl}
use lib.ListN.{length-set}
use Rattle.plan.specs.APlan.{records_of}
use Rattle.plan.proofs.Accepted.{accepted_plan}
use Rattle.plan.proofs.Records.{next_record, last_record, all_of}
use Rattle.lowhigh.proofs.Windowing.{tables_start, tables_turn}
use Rattle.lowhigh.proofs.Smallness.{fine, small}
use Rattle.lowhigh.proofs.tables_of.Goals as goal

pub loop-i-init : goal.loop-i-init
loop-i-init c = (
  omega arith,
  c.used-count.ensures,
  c.well_formed.0.1.1.1.0.1.0.1,
  c.well_formed.1.1.1.1.0.1.0.1,
  c.requires.links.long,
  refl,
  refl,
  refl,
  tables_start _ _ _ _,
)

pub hear-so-requires : goal.hear-so-requires
hear-so-requires c =
    let q = c.args.plan in
    let i = c.loop-i.invariant in
    let k = c.loop-i.i in
    let w = next_record q i.2 _ i.1 k c.loop-i-test.true in
    record { small = small (records_of q) (accepted_plan q c.requires.accepted) k w.0 _ w.1 c.args.minutes c.requires.small _ _ _; long = i.3; long_lows = i.6; long_highs = i.7 }

pub loop-i-preserved : goal.loop-i-preserved
loop-i-preserved c =
    let q = c.args.plan in
    let i = c.loop-i.invariant in
    let k = c.loop-i.i in
    let w = next_record q i.2 _ i.1 k c.loop-i-test.true in
    let h = c.hear-so.ensures in
    let o = c.hold.ensures in (
      omega arith,
      i.1,
      i.2,
      i.3,
      i.4,
      rw o (simp length-set i.5),
      rw h.lows (simp length-set i.6),
      rw h.highs (simp length-set i.7),
      rw (c.with_if-shut.ensures, o, h.shuts, h.lows, h.highs)
          (tables_turn (records_of q) _ _ c.ranges.done.fits c.args.links c.requires.links k w.0 _ w.1 (fine (records_of q) (accepted_plan q c.requires.accepted) k w.0 _ w.1) _ _ _ _ _ i.8),
    )

pub returns : goal.returns
returns c =
    let q = c.args.plan in
    let i = c.loop-i.invariant in
    rw (all_of (records_of q) c.loop-i.i (last_record q i.2 _ i.1 _ c.loop-i-test.false)) at i.8
