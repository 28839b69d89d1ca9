-- `hulls::lists::board_in` meets its contract. Assumes nothing.
use Rattle.hulls.proofs.Taking.{board_is}
use Rattle.hulls.proofs.lists.board_in.Goals as goal

pub returns : goal.returns
returns c = board_is _ _ c.board_of.ensures
