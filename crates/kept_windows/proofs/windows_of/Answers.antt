-- `kept_windows::windows_of` meets its contract. Assumes nothing.
use Rattle.kept_windows.proofs.windows_of.Goals as goal

pub returns : goal.returns
returns c = rw c.with_holders.ensures (c.bare_windows.ensures.answers _ _ _ c.holders_of-holders.ensures)
