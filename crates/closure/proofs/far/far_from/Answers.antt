-- `closure::far::far_from` meets its contract. Assumes nothing.
use mathlib.Core.Bool.{true, false}
use mathlib.Core.Path.{◌≡◌, refl}
use native.Mathlib.Omega.{arith}
use Rattle.std.proofs.Common.{rules, tests}
use Rattle.std.proofs.lemmas.Iterator.{cases_from_any, YieldsList-from_range}
use Rattle.tables.specs.Entries.{at}
use Rattle.tables.proofs.Chains.{any_below}
use Rattle.closure.specs.Closing.{too_far}
use Rattle.closure.proofs.Coding.{among_by}
use Rattle.closure.proofs.far.far_from.Goals as goal

pub returns : goal.returns
returns c =
    let t = c.args.t.now in
    among_by _ _ _ (any_below _ _ _ _ (cases_from_any _ _ _ (λ i. too_far (at t c.args.x i) ≡ true) (λ i. too_far (at t c.args.x i) ≡ false) c.any.ensures.ran (YieldsList-from_range 0 c.args.n c.args.n refl (omega arith)) (λ i r k. search (rules, tests)) (λ i r k. search (rules, tests))))
