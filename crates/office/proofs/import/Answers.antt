-- `office::import` meets its contract. Assumes nothing.
use Rattle.office.proofs.Fed.{all_bytes_lem, fed_is}
use mathlib.Core.Path.{◌∙◌}
use native.Mathlib.Omega.{arith}
use Rattle.office.proofs.import.Goals as goal

pub returns : goal.returns
returns c =
    let t = c.args.text.now in
    let b = all_bytes_lem t (λ i. omega (arith, c.type_inv.text i)) in
    c.finish.ensures ∙ rw (c.feed.ensures, c.begin.ensures) (fed_is t b (omega arith))
