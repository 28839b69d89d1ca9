-- `moments::event_length` meets its contract. Assumes nothing.
use native.Mathlib.Omega.{arith}
use Rattle.lines.proofs.Adding.{few_digits}
use Rattle.moments.proofs.event_length.Goals as goal

pub overflow_mul-result : goal.overflow_mul-result
overflow_mul-result c = omega (arith, c.digits_of.ensures, few_digits c.args.p)

pub overflow_add-result : goal.overflow_add-result
overflow_add-result c = omega (arith, c.digits_of.ensures, few_digits c.args.p)

pub overflow_add-result-2 : goal.overflow_add-result-2
overflow_add-result-2 c = omega (arith, c.digits_of.ensures, c.digits_of-2.ensures, few_digits c.args.p, few_digits c.args.code)
