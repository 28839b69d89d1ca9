-- `probe::many::numbers_in` answers a count of the room's numbers. Assumes nothing.
use Rattle.std.proofs.Common.{arith}
use Rattle.io.proofs.Counting.{prefix_len_of_le}
use Rattle.probe.proofs.many.numbers_in.Goals as goal

pub returns-then-wanted-room : goal.returns-then-wanted-room
returns-then-wanted-room c = prefix_len_of_le _ _ (omega arith)

pub returns-else-wanted-room : goal.returns-else-wanted-room
returns-else-wanted-room c = prefix_len_of_le _ _ (omega arith)
