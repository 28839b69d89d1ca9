-- `links::links_by` meets its contract. Assumes nothing.
use Rattle.std.proofs.Common.{Bool, true, false, eqb, get_or, ◌≤◌}
use Rattle.plan.specs.APlan.{blank}
use Rattle.std.specs.Int.{from_bool}
use native.Mathlib.Omega.{arith}
use Rattle.plan.specs.APlan.{records_of}
use Rattle.plan.proofs.Accepted.{accepted_plan}
use Rattle.history.proofs.Tests.{both}
use Rattle.plan.proofs.Records.{next_record, last_record, all_of}
use Rattle.links.proofs.Linking.{links_none, other_turn, link_turn, past_link, links_stop}
use Rattle.links.proofs.links_by.Goals as goal

-- a bit is at most 1
bit : (b : Bool) → from_bool b ≤ 1
bit true = omega arith
bit false = omega arith

pub loop-i-init : goal.loop-i-init
loop-i-init c =
    let g = c.well_formed in
    (omega arith, c.used-count.ensures, g.0.1.1.1.0.1.0.1, omega arith, links_none)

pub loop-i-preserved-then-r-ne-LINK : goal.loop-i-preserved-then-r-ne-LINK
loop-i-preserved-then-r-ne-LINK c =
    let p = c.args.plan in
    let i = c.loop-i.invariant in
    let k = c.loop-i.i in
    let w = next_record p i.2 _ i.1 k c.loop-i-test.true in
    (omega arith, i.1, i.2, omega (arith, i.3, c.from-points.ensures, bit (eqb (get_or p.records k blank).kind 1)), rw c.from-points.ensures (other_turn (records_of p) k _ _ _ i.4 w.0 _ w.1 c.if-r-ne-LINK.true))

pub loop-i-preserved : goal.loop-i-preserved
loop-i-preserved c =
    let p = c.args.plan in
    let i = c.loop-i.invariant in
    let k = c.loop-i.i in
    let w = next_record p i.2 _ i.1 k c.loop-i-test.true in
    (omega arith, i.1, i.2, omega (arith, i.3), rw (c.watched_after-watched.ensures, c.end_after.ensures) (link_turn (records_of p) k _ _ _ i.4 w.0 _ w.1 c.if-r-ne-LINK.false))

pub returns-after-loop-i : goal.returns-after-loop-i
returns-after-loop-i c =
    let p = c.args.plan in
    let i = c.loop-i.invariant in
    rw (all_of (records_of p) c.loop-i.i (last_record p i.2 _ i.1 _ c.loop-i-test.false)) at i.4

pub returns-then-checked-r : goal.returns-then-checked-r
returns-then-checked-r c =
    let p = c.args.plan in
    let i = c.loop-i.invariant in
    let k = c.loop-i.i in
    let w = next_record p i.2 _ i.1 k c.loop-i-test.true in
    let t = both c.args.checked _ c.if-checked-r.true in
    links_stop (records_of p) (accepted_plan p (c.requires.accepted t.0)) k (past_link (records_of p) k _ w.1 t.1) _ _ _ (omega (arith, w.0)) i.4
