-- `points::with` meets its contract. Assumes nothing.
use mathlib.Core.Path.{ap, sym, ◌∙◌}
use Prim.Native.Nat.{ℕ}
use lib.Bits.{bit_or}
use Rattle.points.proofs.Laws.{with_past}
use Rattle.points.proofs.Shift.{one_shl, or_bit}
use Rattle.points.proofs.with.Goals as goal

pub returns-then-p-lt-MOST : goal.returns-then-p-lt-MOST
returns-then-p-lt-MOST c = let l = c.if-p-lt-MOST.true in ap (λ (b : ℕ). bit_or c.args.s b) (one_shl c.args.p l) ∙ or_bit c.args.s c.args.p l

pub returns-else-p-lt-MOST : goal.returns-else-p-lt-MOST
returns-else-p-lt-MOST c = sym (with_past _ _ c.if-p-lt-MOST.false)
