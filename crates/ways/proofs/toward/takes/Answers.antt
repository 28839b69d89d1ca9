-- `ways::toward::takes` meets its contract. Assumes nothing.
use Rattle.ways.proofs.Reaching.{take_asks}
use mathlib.Core.Path.{ap}
use mathlib.Core.Bool.{not}
use Rattle.ways.proofs.toward.takes.Goals as goal

pub extends-requires : goal.extends-requires
extends-requires c = take_asks c.requires _ c.is_edge.ensures (ap not c.if-not-is_edge.false) c.step_at.ensures
