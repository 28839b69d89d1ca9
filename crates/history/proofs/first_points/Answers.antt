-- `history::first_points` meets its contract. Assumes nothing.
use Rattle.std.proofs.Common.{◌≡◌, ℕ, ◌^◌, ◌-◌, ap, ◌∙◌, min, arith}
use Rattle.points.specs.Sets.{below_of}
use Rattle.history.proofs.first_points.Goals as goal

pub returns : goal.returns
unfolding below_of
returns c =
    let e : min c.min.result 32 ≡ min c.args.n 32 = omega arith in
    c.below.ensures ∙ ap (λ (k : ℕ). 2 ^ k - 1) e
