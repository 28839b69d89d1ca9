-- `plan_file::first_bad` meets its contract. Assumes nothing.
use borrow.Author.Tests.{eq-eqb, ne_eqb}
use native.Mathlib.Omega.{arith}
use mathlib.Core.Path.{◌≡◌, sym, ◌∙◌}
use lib.ListN.{length}
use Rattle.plan.specs.PlanFile.{entries_in}
use Rattle.plan_file.specs.Inside.{first_odd}
use Rattle.plan.proofs.Entries.{length_entries}
use Rattle.plan_file.proofs.Odd.{odd_le, odd_beside}
use Rattle.plan_file.proofs.first_bad.Goals as goal

pub returns-then-odd-count : goal.returns-then-odd-count
returns-then-odd-count c =
    let n = c.args.count in
    let es = entries_in n c.args.bytes.now in
    let l : length es ≡ n = length_entries n c.args.bytes.now in
    let q : first_odd es ≡ length es = sym c.first_odd-odd.ensures ∙ c.if-odd-count.true ∙ sym l in
    let b = odd_beside es (omega (arith, l)) (omega (arith, l)) in
    c.requires.3 ∙ sym (rw (eq-eqb _ _ q) at b)

pub overflow_cast-odd : goal.overflow_cast-odd
overflow_cast-odd c = omega (arith, c.first_odd-odd.ensures, odd_le (entries_in c.args.count c.args.bytes.now), length_entries c.args.count c.args.bytes.now)

pub returns : goal.returns
returns c =
    let n = c.args.count in
    let es = entries_in n c.args.bytes.now in
    let l : length es ≡ n = length_entries n c.args.bytes.now in
    let q : first_odd es ≡ length es → ⊥ = λ e. c.if-odd-count.false (c.first_odd-odd.ensures ∙ e ∙ l) in
    let b = odd_beside es (omega (arith, l)) (omega (arith, l)) in
    c.with_odd.ensures ∙ rw (c.requires.3, c.first_odd-odd.ensures) (sym (rw (ne_eqb _ _ q) at b))
