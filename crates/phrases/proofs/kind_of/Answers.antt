-- `phrases::kind_of` meets its contract. Assumes nothing.
use mathlib.Core.Path.{◌≡◌}
use native.Mathlib.Omega.{arith}
use Rattle.phrases.specs.Inside.{kind_by}
use Rattle.phrases.proofs.Turning.{few_kinds}
use Rattle.phrases.proofs.kind_of.Goals as goal

pub returns-in_default : goal.returns-in_default
unfolding kind_by
returns-in_default c =
    let k : c.kind.result ≡ 4 = omega (arith, few_kinds c.args.s, c.kind.ensures) in
    rw (← c.kind.ensures, k)
