-- `saying::put_board` meets its contract. Assumes nothing.
use Rattle.std.proofs.Common.{sym, ◌∙◌}
use Rattle.saying.proofs.Boards.{board_short, board_long}
use Rattle.saying.proofs.put_board.Goals as goal

pub returns-then-not-has_list : goal.returns-then-not-has_list
returns-then-not-has_list c = board_short _ _ _ _ _ _ _ _ _ _ c.board_of-board.ensures c.reply-reply.ensures c.board_line.ensures c.put_line-first.ensures.made c.put_line-first.ensures.few (sym c.has_list.ensures ∙ c.if-not-has_list.true)

pub returns : goal.returns
returns c = board_long _ _ _ _ _ _ _ _ _ _ c.board_of-board.ensures c.reply-reply.ensures c.board_line.ensures c.put_line-first.ensures.made c.put_line-first.ensures.few (sym c.has_list.ensures ∙ c.if-not-has_list.false) c.put_list.ensures.made c.put_list.ensures.few
