-- `plan::is_watched` meets its contract. Assumes nothing.
use mathlib.Core.Path.{◌∙◌, ap}
use Rattle.std.specs.Prelude.{is_some}
use Rattle.plan.specs.APlan.{ends_at, records_of}
use Rattle.plan.proofs.Lookup.{found_some}
use Rattle.plan.proofs.is_watched.Goals as goal

pub returns : goal.returns
returns c = c.is_some.ensures ∙ ap is_some c.link_to.ensures ∙ found_some (ends_at c.args.p) 0 (records_of c.args.plan)
