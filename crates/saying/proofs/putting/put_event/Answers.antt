-- `saying::put_event` meets its contract. Assumes nothing.
use Rattle.saying.proofs.Boards.{event_short, event_long}
use Rattle.saying.proofs.putting.put_event.Goals as goal

pub returns-then-not-full : goal.returns-then-not-full
returns-then-not-full c = event_short _ _ _ _ _ _ _ _ _ _ _ _ _ c.take-found.ensures _ (c.if-not-full.true) _ c.kept_line.ensures c.put_line.ensures.made c.put_line.ensures.few

pub returns : goal.returns
returns c = event_long _ _ _ _ _ _ _ _ _ _ _ _ _ c.take-found.ensures _ (c.if-not-full.false) _ c.reply_line.ensures c.put_line-first.ensures.made c.put_line-first.ensures.few c.put_board.ensures
