-- `neighbours::Walk::next` meets its contract. Assumes nothing.
use mathlib.Core.Path.{ap}
use lib.ListN.{length}
use native.Mathlib.Omega.{arith}
use Rattle.neighbours.proofs.Walking.{chain_step, chain_none, chain_end}
use Rattle.neighbours.proofs.WalkIterator.next.Goals as goal

pub returns-then-self-eq0-clause-steps : goal.returns-then-self-eq0-clause-steps
returns-then-self-eq0-clause-steps c = let s = c.args.self.now in let e = chain_none s.left s.list.now s.at c.if-self-eq0.true in (e, e)

pub returns-then-self-ge-MOST_RECORDS-clause-steps : goal.returns-then-self-ge-MOST_RECORDS-clause-steps
returns-then-self-ge-MOST_RECORDS-clause-steps c = let s = c.args.self.now in let e = chain_end s.left s.list.now s.at c.if-self-ge-MOST_RECORDS.true in (e, e)

pub returns-clause-steps : goal.returns-clause-steps
returns-clause-steps c = let s = c.args.self.now in rw c.from-self.ensures (chain_step s.left s.list.now s.at (omega (arith, c.if-self-ge-MOST_RECORDS.false)) (omega (arith, c.if-self-eq0.false)))

pub returns-clause-goes : goal.returns-clause-goes
returns-clause-goes c =
    let e = returns-clause-steps c in
    record { on = λ _. (tt, tt, omega (arith, ap length e)); keeps = tt; rests = λ _. tt }
