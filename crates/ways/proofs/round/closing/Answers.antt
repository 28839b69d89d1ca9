-- `ways::round::closing` meets its contract. Assumes nothing.
use Rattle.ways.proofs.Rounding.{closing_asks, closing_so, closing_some}
use mathlib.Core.Path.{ap}
use mathlib.Core.Bool.{not}
use Rattle.ways.proofs.round.closing.Goals as goal

pub closes-requires : goal.closes-requires
closes-requires c = closing_asks c.requires (closing_some c.requires _ c.is_edge.ensures (ap not c.if-not-is_edge.false)) c.step_at.ensures

pub returns : goal.returns
returns c = closing_so c.requires (closing_some c.requires _ c.is_edge.ensures (ap not c.if-not-is_edge.false)) c.fill.ensures c.step_at.ensures _ c.closes.ensures
