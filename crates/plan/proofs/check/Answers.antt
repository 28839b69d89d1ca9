-- `plan::check` meets its contract. Assumes nothing.
use native.Mathlib.Omega.{arith}
use mathlib.Core.Path.{refl, sym, ◌∙◌}
use Rattle.plan.proofs.Sofar.{sofar_start, sofar_few, sofar_bad, sofar_ordinary, sofar_other, sofar_end}
use Rattle.plan.proofs.Pairing.{count_entries, entry_at, check_none, check_long, check_each}
use Rattle.plan.proofs.check.Goals as goal

pub returns-then-plan-eq0 : goal.returns-then-plan-eq0
returns-then-plan-eq0 c = c.new.ensures ∙ check_none _ c.if-plan-eq0.true

pub returns-then-plan-gt-MOST_RECORDS : goal.returns-then-plan-gt-MOST_RECORDS
returns-then-plan-gt-MOST_RECORDS c = c.new-then-plan-gt-MOST_RECORDS.ensures ∙ check_long _ c.if-plan-eq0.false c.if-plan-gt-MOST_RECORDS.true

pub loop-i-init : goal.loop-i-init
loop-i-init c = (omega arith, refl, omega arith, c.well_formed.0.1.1.1.0.1.0.1, rw c.none-seen.ensures (sofar_start _))

pub read_one-one-requires : goal.read_one-one-requires
read_one-one-requires c =
    let p = c.args.plan in
    let i = c.loop-i.invariant in
    let n = count_entries p (omega arith) i.3 in
    sofar_few _ _ _ _ _ i.4 (omega (arith, n)) (omega (arith, n))

pub returns-in_default : goal.returns-in_default
returns-in_default c =
    let p = c.args.plan in
    let i = c.loop-i.invariant in
    let h = c.loop-i-test.true in
    let n = count_entries p (omega arith) i.3 in
    let e = entry_at p (omega arith) i.3 c.loop-i.i (omega arith) in
    let k = c.in_default.is in
    c.new-in_default.ensures ∙ rw (c.number_in.ensures, k) (sofar_bad _ _ _ _ _ i.4 (omega (arith, n)) _ e _ (sym c.read_one-one.ensures ∙ k)) ∙ check_each p c.if-plan-eq0.false (omega arith)

pub loop-i-preserved-then-r-eq-ORDINARY : goal.loop-i-preserved-then-r-eq-ORDINARY
loop-i-preserved-then-r-eq-ORDINARY c =
    let p = c.args.plan in
    let i = c.loop-i.invariant in
    let n = count_entries p (omega arith) i.3 in
    let e = entry_at p (omega arith) i.3 c.loop-i.i (omega arith) in
    (omega arith, i.1, i.2, i.3, rw c.seconds_after.ensures (sofar_ordinary _ _ _ _ _ i.4 (omega (arith, n)) _ e _ (sym c.read_one-one.ensures ∙ c.in-Ok.is) c.if-r-eq-ORDINARY.true))

pub loop-i-preserved : goal.loop-i-preserved
loop-i-preserved c =
    let p = c.args.plan in
    let i = c.loop-i.invariant in
    let n = count_entries p (omega arith) i.3 in
    let e = entry_at p (omega arith) i.3 c.loop-i.i (omega arith) in
    (omega arith, i.1, i.2, i.3, rw c.ending_after.ensures (sofar_other _ _ _ _ _ i.4 (omega (arith, n)) _ e _ (sym c.read_one-one.ensures ∙ c.in-Ok.is) c.if-r-eq-ORDINARY.false))

pub returns : goal.returns
returns c =
    let p = c.args.plan in
    let i = c.loop-i.invariant in
    let n = count_entries p (omega arith) i.3 in
    c.new-2.ensures ∙ sofar_end _ _ _ _ _ i.4 (omega (arith, n)) ∙ check_each p c.if-plan-eq0.false (omega arith)
