-- What the links l and the windows w say of a board b: the reply. No reader of the rules needs this page. Assumes nothing.
use Rattle.std.specs.Prelude.{true, false, eqb, if◌then◌else◌}
use Rattle.points.specs.Sets.{below_of}
use Rattle.links.specs.declared.Links.{Links}
use Rattle.windows.specs.Inside.{latest_from}
use Rattle.windows.specs.declared.Windows.{Windows}
use Rattle.planless.specs.ByWindows.{stuck_by}
use Rattle.board.specs.declared.Board.{Board}
use Rattle.replies.specs.Replies.{bare}
use Rattle.replies.specs.Inside.{list_from}
use Rattle.replies.specs.declared.Outcome.TheVariants.{Finished, Stuck, Waiting, Offers}
use Rattle.replies.specs.declared.Reply.{Reply}

-- the first outcome that fits
unfoldable pub reply_by : Links → Board → Windows → Reply
reply_by l b w =
    if eqb b.done (below_of l.points) then bare Finished
    else (if stuck_by l b.done w then list_from Stuck b l.watched w false 0
    else (if eqb w.opens 0 then list_from Waiting b l.watched w false 0
    else list_from Offers b l.watched w true (latest_from b.clock w.high)))
