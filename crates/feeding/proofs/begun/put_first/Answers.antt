-- `feeding::put_first` meets its contract. Assumes nothing.
use Rattle.std.proofs.Common.{arith, rules}
use Rattle.feeding.proofs.Starting.{first_none, first_full}
use Rattle.feeding.proofs.begun.put_first.Goals as goal

pub returns-then-not-full : goal.returns-then-not-full
returns-then-not-full c =
    record {
      made = first_none _ _ _ _ _ _ _ _ (c.if-not-full.true);
      few = search rules;
    }

pub returns : goal.returns
returns c =
    record {
      made = first_full c.args.plan _ _ _ _ _ _ _ (c.if-not-full.false) c.test.result _ c.test.ensures.answer c.test_line.ensures c.put_line-first.ensures.made c.put_board.ensures;
      few = omega (arith, c.put_board.ensures.few, c.put_line-first.ensures.few);
    }
