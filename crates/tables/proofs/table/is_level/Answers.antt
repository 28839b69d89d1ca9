-- `tables::table::is_level` meets its contract. Assumes nothing.
use mathlib.Core.Path.{refl}
use native.Mathlib.Omega.{arith}
use Prim.Native.Nat.{◌<◌, ◌≤◌}
use Rattle.std.proofs.Common.{rules, tests}
use Rattle.std.proofs.lemmas.Iterator.{cases_from_all, YieldsList-from_range}
use Rattle.tables.specs.Entries.{middle, raw}
use Rattle.tables.proofs.Chains.{all_below}
use Rattle.tables.proofs.table.is_level.Goals as goal

pub returns : goal.returns
returns c =
    let t = c.args.t.now in
    all_below _ _ _ _ (cases_from_all _ _ _ (λ x. middle ≤ raw t x x) (λ x. raw t x x < middle) c.all.ensures.ran (YieldsList-from_range 0 c.args.n c.args.n refl (omega arith)) (λ x r k. search (rules, tests)) (λ x r k. search (rules, tests)))
