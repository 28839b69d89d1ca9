-- Document 01, "Board, windows, replies": when a board is finished or stuck, and the latest minute of an offer. Assumes
-- nothing.
use Rattle.std.specs.Prelude.{Bool, not, List, ℕ, ◌-◌, eqb, if◌then◌else◌}
use Rattle.points.specs.Sets.{below_of}
use Rattle.plan.specs.Limits.{farthest}
use Rattle.plan.specs.APlan.{some, points}
use Rattle.records.specs.declared.Record.{Record}
use Rattle.board.specs.Boards.{running}
use Rattle.board.specs.Windows.{latest_up, some_open, all_above}
use Rattle.board.specs.declared.Board.{Board}

-- all points done
abbrev pub finished : List Record → Board → Bool
finished rs b = eqb b.done (below_of (points rs))

-- nothing open and no link running, or something open and every open Low above H
abbrev pub stuck : List Record → Board → Bool
stuck rs b = if some_open rs b then all_above rs b else not (some (running b) rs)

-- the latest minute of an offer
abbrev pub latest : List Record → Board → ℕ
latest rs b = latest_up rs b - farthest
