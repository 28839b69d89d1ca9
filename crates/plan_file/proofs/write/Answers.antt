-- `plan_file::write` meets its contract. Assumes nothing.
use native.Mathlib.Omega.{arith}
use borrow.Author.Tests.{eq-eqb, ne_eqb, lt-ltb, le-ltb}
use mathlib.Core.Path.{◌≡◌, sym, ◌∙◌}
use Prim.Native.Nat.{◌*◌}
use lib.ListN.{length}
use Rattle.plan.specs.Limits.{record_bytes}
use Rattle.plan.specs.ReplyNumbers.{check_of}
use Rattle.plan_file.proofs.Writing.{write_refused, write_short, write_done}
use Rattle.plan.proofs.RoundTrip.{checked_count, names_no_place}
use Rattle.plan_file.proofs.write.Goals as goal

pub returns-then-found-ne-ACCEPTED : goal.returns-then-found-ne-ACCEPTED
returns-then-found-ne-ACCEPTED c =
    let p = c.args.plan in
    let o = c.args.out.now in
    let w = write_refused p o (rw c.check-found.ensures at (ne_eqb _ _ c.if-found-ne-ACCEPTED.true)) in
    record {
      reply = c.check-found.ensures ∙ sym w.0;
      bytes = sym w.1;
    }

pub returns-then-out-plan : goal.returns-then-out-plan
returns-then-out-plan c =
    let p = c.args.plan in
    let o = c.args.out.now in
    let w = write_short p o (rw c.check-found.ensures at (eq-eqb _ _ c.if-found-ne-ACCEPTED.false)) (lt-ltb (length o) (record_bytes * p.count) (omega (arith, c.if-out-plan.true))) in
    record {
      reply = c.new.ensures ∙ sym w.0;
      bytes = sym w.1;
    }

pub put_records-requires : goal.put_records-requires
put_records-requires c =
    let p = c.args.plan in
    let z : (check_of p).number ≡ 0 = rw c.check-found.ensures at c.if-found-ne-ACCEPTED.false in
    ((checked_count p z).1, omega arith)

pub returns : goal.returns
returns c =
    let p = c.args.plan in
    let o = c.args.out.now in
    let k = c.check-found.ensures in
    let z : (check_of p).number ≡ 0 = rw k at c.if-found-ne-ACCEPTED.false in
    let w = write_done p o (eq-eqb _ _ z) (le-ltb _ _ c.if-out-plan.false) in
    record {
      reply = k ∙ names_no_place p z ∙ sym w.0;
      bytes = c.put_records.ensures ∙ sym w.1;
    }
