-- `probe::block::signed` is safe: what is cast and what is taken away fit. Assumes nothing.
use Rattle.std.proofs.Common.{◌≡◌, ℕ, zero, suc, ◌-◌, ◌^◌, pos, negsuc, ◌-ℤ◌, refl, ap, zero-add, arith, w32}
use mir.ValLaws.{to_z_pos}
use Rattle.probe.proofs.block.signed.Goals as goal

-- −1 − m
down : (m : ℕ) → negsuc 0 -ℤ pos m ≡ negsuc m
down zero = refl
down (suc n) = ap (λ (k : ℕ). negsuc (suc k)) (zero-add n)

pub overflow_sub-result : goal.overflow_sub-result
overflow_sub-result c = rw (to_z_pos w32 (2 ^ 32 - 1 - c.args.x) (omega arith), down) (record { sfits = omega arith })
