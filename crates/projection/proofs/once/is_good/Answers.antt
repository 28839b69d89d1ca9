-- `projection::once::is_good` meets its contract. Assumes nothing.
use mathlib.Core.Path.{sym}
use mathlib.Core.Bool.{true≢false}
use Rattle.projection.proofs.OneRound.{shown_by}
use mathlib.Core.Path.{ap}
use mathlib.Core.Bool.{not}
use Rattle.projection.proofs.once.is_good.Goals as goal

pub fill-requires : goal.fill-requires
fill-requires c = c.requires.ready

pub returns-then-not-fill : goal.returns-then-not-fill
returns-then-not-fill c = λ e. absurd (true≢false (sym e))

pub once-requires : goal.once-requires
once-requires c =
    let f = c.fill.ensures in
    record { judge = c.requires; capped = record { long = f.sound.long; most = f.sound.most } }

pub first_pair-requires : goal.first_pair-requires
first_pair-requires c = c.requires.ready.few

pub returns : goal.returns
returns c = λ e. shown_by _ _ _ _ _ _ _ c.requires c.fill.result (ap not c.if-not-fill.false) c.fill.ensures c.once.ensures _ c.first_pair.ensures _ c.is_none.ensures e
