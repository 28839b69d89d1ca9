-- `calls::is_rising` meets its contract. Assumes nothing.
use native.Mathlib.Omega.{arith}
use mathlib.Core.Path.{◌≡◌, ap, sym, ◌∙◌}
use borrow.Author.Tests.{le-leb, lt-leb}
use Prim.Native.Nat.{suc, ◌<◌, ◌-◌}
use native.Mathlib.Numerals.{add-one}
use lib.ListN.{get_or}
use Rattle.points.specs.Sets.{from, every}
use Rattle.history.proofs.Walks.{points_fails, points_turn, points_end}
use Rattle.calls.specs.Inside.{rises}
use Rattle.calls.proofs.is_rising.Goals as goal

pub loop-i-init : goal.loop-i-init
loop-i-init c =
    let k = c.args.k in
    let z : k - 1 - 0 ≡ k - 1 = omega arith in
    (c.requires, c.saturating_sub-last.ensures, ap (λ n. every (rises c.args.noted) (from 0 n)) z)

pub returns-then-noted-next : goal.returns-then-noted-next
returns-then-noted-next c =
    let a = c.args in
    let l = c.loop-i in
    let falls = lt-leb (get_or a.noted l.i 0) (get_or a.noted (suc l.i) 0) (omega (arith, rw (add-one l.i) at c.if-noted-next.true)) in
    points_fails (rises a.noted) (a.k - 1) l.i (omega (arith, c.loop-i-test.true, l.invariant.1)) falls ∙ l.invariant.2

pub loop-i-preserved : goal.loop-i-preserved
loop-i-preserved c =
    let a = c.args in
    let l = c.loop-i in
    let more : l.i < a.k - 1 = omega (arith, c.loop-i-test.true, l.invariant.1) in
    let rise = le-leb (get_or a.noted l.i 0) (get_or a.noted (suc l.i) 0) (omega (arith, rw (add-one l.i) at c.if-noted-next.false)) in
    (l.invariant.0, l.invariant.1, sym (points_turn (rises a.noted) (a.k - 1) l.i more rise) ∙ l.invariant.2)

pub returns : goal.returns
returns c =
    let a = c.args in
    points_end (rises a.noted) (a.k - 1) c.loop-i.i (omega (arith, c.loop-i-test.false, c.loop-i.invariant.1)) ∙ c.loop-i.invariant.2
