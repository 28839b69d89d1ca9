-- `steps::end_by_lem` meets its contract. Assumes nothing.
use mathlib.Core.Path.{◌≡◌, sym, ◌∙◌}
use mathlib.Core.Bool.{true}
use lib.ListN.{get_or}
use Rattle.points.specs.Sets.{member}
use Rattle.kept.specs.Rooms.{done_at}
use Rattle.steps.proofs.Nearest.{turned}
use Rattle.steps.proofs.end_by.Goals as goal

pub returns-then-not-has : goal.returns-then-not-has
returns-then-not-has c = rw (sym c.has.ensures ∙ c.if-not-has.true)

pub returns : goal.returns
returns c =
    let a = c.args in
    let k = a.kept.now in
    let st = a.starts.now in
    let w = a.durations.now in
    let m : member (get_or k done_at 0) (get_or st a.c 0) ≡ true = sym c.has.ensures ∙ c.if-not-has.false in
    let e = rw (c.sum.ensures, c.narrow.ensures, c.place_of.ensures, c.has-2.ensures) at c.either.ensures in
    rw m (e ∙ turned (member (get_or k done_at 0) a.c) _)
