-- `neighbours::build` meets its contract. Assumes nothing.
use native.Mathlib.Omega.{arith}
use mathlib.Core.Path.{◌≡◌}
use mathlib.Core.List.{List}
use Prim.Native.Nat.{ℕ, suc, ◌-◌, ◌<◌, ◌≤◌}
use Rattle.neighbours.proofs.Listing.{Built, built_start, built_turn, built_end}
use Rattle.neighbours.proofs.build.Goals as goal

begun : {key : ℕ → ℕ} {list : List ℕ} (count : ℕ) → Built key count count 0 list → Built key count count (count - count) list
begun count t = let e : count - count ≡ 0 = omega arith in rw e t

one_more : {key : ℕ → ℕ} {list : List ℕ} (count i : ℕ) → 0 < i → i ≤ count → Built key count (i - 1) (suc (count - i)) list → Built key count (i - 1) (count - (i - 1)) list
one_more count i h l t = let e : count - (i - 1) ≡ suc (count - i) = omega arith in rw e t

pub loop-i-init : goal.loop-i-init
loop-i-init c =
    let p = c.requires in
    (omega arith, p.0, p.1, begun c.args.count (built_start _ _ _ c.clear.ensures))

pub key_at-k-requires : goal.key_at-k-requires
key_at-k-requires c = (c.loop-i.invariant.1, omega (arith, c.loop-i.invariant.0, c.loop-i.invariant.2, c.loop-i-test.true))

pub loop-i-preserved : goal.loop-i-preserved
loop-i-preserved c =
    let l = c.loop-i in
    let h = c.loop-i-test.true in
    let s = c.args in
    let k = c.key_at-k.ensures in
    (omega arith, l.invariant.1, l.invariant.2, one_more s.count l.i (omega arith) l.invariant.0 (built_turn _ s.count l.invariant.2 l.i _ _ l.invariant.3 (l.i - 1) (omega arith) _ k.0 k.1))

pub returns : goal.returns
returns c = built_end _ _ _ _ _ (omega (arith, c.loop-i-test.false)) c.loop-i.invariant.3
