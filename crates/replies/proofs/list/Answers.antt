-- `replies::list` meets its contract. Assumes nothing.
use native.Mathlib.Omega.{arith}
use mathlib.Core.Path.{ap}
use mathlib.Core.List.{List}
use Rattle.replies.specs.declared.Place.{Place}
use Rattle.replies.proofs.Replying.{listed_start, listed_turn, listed_end}
use Rattle.replies.proofs.list.Goals as goal

pub loop-p-init : goal.loop-p-init
loop-p-init c = (omega arith, listed_start _)

pub loop-p-preserved : goal.loop-p-preserved
loop-p-preserved c =
    let i = c.loop-p.invariant in
    (omega arith, listed_turn _ _ _ i.1 c.loop-p-test.true _ (rw (c.state_of-state.ensures, c.has-in-loop-p-2.ensures, c.has-in-loop-p.ensures, c.has.ensures)))

pub returns : goal.returns
returns c =
    let a = c.args in
    let i = c.loop-p.invariant in
    ap (λ (ps : List Place). record { outcome = a.outcome; latest = a.latest; places = ps }) (listed_end _ _ _ i.1 c.loop-p-test.false)
