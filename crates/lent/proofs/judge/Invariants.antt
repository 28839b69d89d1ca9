-- What the loop of `lent::judge` keeps: going down the rest of the list gives the answer of the whole list. Assumes nothing.
use mathlib.Core.Path.{◌≡◌}
use lib.ListN.{drop}
use Rattle.lent.specs.Judgement.{judge_of}
use Rattle.lent.specs.Inside.{gone_through}
use Rattle.lent.proofs.judge.Given as goal

abbrev pub invariant-loop-i : goal.invariant-loop-i
invariant-loop-i l = gone_through l.so_far l.i (drop l.i l.list) ≡ judge_of l.fn.plan l.fn.board l.list
