-- `rooms::fill` meets its contract. Assumes nothing.
use Rattle.rooms.proofs.Beginning.{filled_by}
use Rattle.rooms.proofs.fill.Goals as goal

pub returns : goal.returns
returns c =
    let l = c.list.ensures in
    filled_by _ _ _ _ _ _ c.requires (c.well_formed.0.1.1.1.0.1.0.1) c.lay_out.ensures l.into l.out l.ends l.kept
