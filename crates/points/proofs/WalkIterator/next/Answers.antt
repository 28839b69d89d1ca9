-- `points::Walk::next` meets its contract. Assumes nothing.
use Rattle.std.proofs.Common.{◌<◌, ◌^◌, length, sym, ap, ◌∙◌, arith}
use Rattle.points.specs.Sets.{members_of}
use Rattle.points.proofs.Laws.{turn, members_empty}
use Rattle.points.proofs.WalkIterator.next.Goals as goal

pub returns-then-self-eq0-clause-steps : goal.returns-then-self-eq0-clause-steps
returns-then-self-eq0-clause-steps c =
    let e = sym c.self.view_is ∙ ap members_of c.if-self-eq0.true ∙ members_empty in
    record { yields = (e, e); small = tt }

pub returns-clause-steps : goal.returns-clause-steps
returns-clause-steps c =
    let f : c.self.inside.rest < 2 ^ 32 = omega arith in
    let t = turn _ _ _ (omega arith) f c.first-p.ensures c.without-self-inside.ensures in
    record { yields = sym c.self.view_is ∙ t.members; small = t.first.small }

pub returns-clause-goes : goal.returns-clause-goes
returns-clause-goes c =
    let f : c.self.inside.rest < 2 ^ 32 = omega arith in
    let t = turn _ _ _ (omega arith) f c.first-p.ensures c.without-self-inside.ensures in
    let e = ap length (sym c.self.view_is ∙ t.members) in
    record { on = λ _. (tt, tt, omega arith); keeps = tt; rests = λ _. tt }
