-- `windows::asks::all_above` meets its contract: what is left is so where all are. Assumes nothing.
use Rattle.std.proofs.Common.{◌≡◌, ℕ, ◌+◌, ltb, get_or, List, Bool}
use Rattle.points.specs.Sets.{members_of, every}
use Rattle.plan.specs.Limits.{farthest}
use Rattle.windows.proofs.asks.all_above.Given as goal

abbrev pub above : ℕ → List ℕ → ℕ → Bool
above high lows q = ltb high (get_or lows q 0 + farthest)

abbrev pub invariant-loop-p : goal.invariant-loop-p
invariant-loop-p l = every (above l.high l.lows) l.p-iterator ≡ every (above l.high l.lows) (members_of l.fn.w.opens)
