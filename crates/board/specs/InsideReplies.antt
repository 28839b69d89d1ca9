-- What the functions behind the windows compute. A reader of the rules can leave this page out: the open
-- functions' contracts do not cite it. Assumes nothing.
use Rattle.std.specs.Prelude.{◌≡◌, true, List, ℕ, ◌^◌, ◌<◌, length, get_or}
use Rattle.points.specs.Sets.{member}
use Rattle.plan.specs.Limits.{most_points}
use Rattle.plan.specs.APlan.{records_of}
use Rattle.plan.specs.ReplyNumbers.{check_of}
use Rattle.plan.specs.declared.Plan.{Plan}
use Rattle.records.specs.declared.Record.{Record}
use Rattle.board.specs.Boards.{sound}
use Rattle.links.specs.Inside.{LinksOf}
use Rattle.board.specs.Windows.{is_open, holder, low, H}
use Rattle.board.specs.declared.Board.{Board}
use Rattle.links.specs.declared.Links.{Links}
use Rattle.windows.specs.declared.Windows.{Windows}

-- an accepted plan, a sound board, and the plan's links
pub record Ready (p : Plan) (b : Board) (l : Links) : Type 0 where
  pub accepted : (check_of p).number ≡ 0
  pub sound : sound (records_of p) b ≡ true
  pub links : LinksOf (records_of p) l

-- the windows of a board
pub record WindowsOf (rs : List Record) (b : Board) (w : Windows) : Type 0 where
  pub fits : w.opens < 2 ^ 32
  pub long : length w.lows ≡ most_points
  pub opens : (q : ℕ) → q < most_points → member w.opens q ≡ is_open rs b q
  pub holders : (q : ℕ) → q < most_points → get_or w.holders q 0 ≡ holder rs b q
  pub lows : (q : ℕ) → q < most_points → get_or w.lows q 0 ≡ low rs b q
  pub high : w.high ≡ H rs b
