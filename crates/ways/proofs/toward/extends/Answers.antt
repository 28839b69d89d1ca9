-- `ways::toward::extends` meets its contract. Assumes nothing.
use mathlib.Core.Path.{refl}
use native.Mathlib.Omega.{arith}
use Rattle.ways.proofs.toward.extends.Goals as goal

pub overflow_add-result : goal.overflow_add-result
overflow_add-result c = omega (arith, c.from-here.type_inv, c.requires.down)

pub overflow_add-result-2 : goal.overflow_add-result-2
overflow_add-result-2 c = omega (arith, c.from-there.type_inv, c.requires.up)

pub returns : goal.returns
returns c = rw (c.from-here.ensures, c.from-there.ensures) refl
