-- `rooms_probe::within` answers a count of the buffer's bytes. Assumes nothing.
use Rattle.std.proofs.Common.{arith}
use Rattle.io.proofs.Counting.{prefix_len_of_le}
use Rattle.rooms_probe.proofs.within.Goals as goal

pub returns-then-n-bytes : goal.returns-then-n-bytes
returns-then-n-bytes c = prefix_len_of_le _ _ (omega arith)

pub returns-else-n-bytes : goal.returns-else-n-bytes
returns-else-n-bytes c = prefix_len_of_le _ _ (omega arith)
