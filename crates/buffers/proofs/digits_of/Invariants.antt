-- `buffers::digits_of` meets its contract. Assumes nothing.
use mathlib.Core.Path.{◌≡◌}
use Prim.Native.Nat.{◌+◌, ◌≤◌, ◌<◌, ◌^◌}
use lib.ListN.{length}
use Rattle.lines.specs.Text.{decimal}
use Rattle.buffers.proofs.digits_of.Given as goal

-- the digits counted, and those of what is left but the last, are all
abbrev pub invariant-loop-m : goal.invariant-loop-m
invariant-loop-m l = (l.m < 2 ^ 32) × (l.k + length (decimal l.m) ≡ length (decimal l.n) + 1) × (length (decimal l.n) ≤ 20)

abbrev pub decreases-loop-m : goal.decreases-loop-m
decreases-loop-m l = l.m
