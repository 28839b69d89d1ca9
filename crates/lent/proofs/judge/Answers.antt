-- `lent::judge` meets its contract. What the loop knows is `Going.antt`'s. Assumes nothing.
use mathlib.Core.Path.{sym, ◌∙◌}
use Rattle.lent.proofs.Going.{starts, passed, stopped, over}
use Rattle.lent.proofs.judge.Goals as goal

pub loop-i-init : goal.loop-i-init
loop-i-init c = rw c.begun-so_far.ensures (starts c.args.plan c.args.board c.args.list.now)

pub loop-i-preserved : goal.loop-i-preserved
loop-i-preserved c =
    let l = c.loop-i in
    rw c.judged_after-so_far.ensures (sym (passed l.so_far l.i c.args.list.now _ c.loop-i-test.true) ∙ l.invariant)

pub returns-after-loop-i : goal.returns-after-loop-i
returns-after-loop-i c = over c.loop-i.so_far c.loop-i.i c.args.list.now c.loop-i-test.false ∙ c.loop-i.invariant

pub returns-then-is_refused : goal.returns-then-is_refused
returns-then-is_refused c = stopped c.loop-i.so_far c.loop-i.i c.args.list.now (sym c.is_refused.ensures ∙ c.if-is_refused.true) ∙ c.loop-i.invariant
