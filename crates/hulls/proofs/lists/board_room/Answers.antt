-- `hulls::lists::board_room` meets its contract. Assumes nothing.
use Rattle.hulls.proofs.Putting.{board_by}
use Rattle.hulls.proofs.lists.board_room.Goals as goal

pub returns : goal.returns
returns c =
    let g = c.well_formed.0.1.1.1.1 in
    let b = c.args.board in
    board_by b.clock b.done b.minutes b.calls _ _ (g.0.1.0.1) (g.1.0.1.0.1) c.with_table.ensures c.with_table-2.ensures
