-- `replies::reply_from` meets its contract. Assumes nothing.
use Rattle.replies.proofs.ByPlan.{finishes, sticks, waits, offers}
use Rattle.replies.proofs.reply_from.Goals as goal

pub returns-then-board-first_points : goal.returns-then-board-first_points
returns-then-board-first_points c =
    let a = c.args in
    finishes a.links a.board a.w _ (rw c.first_points.ensures at c.if-board-first_points.true) c.nothing_more.ensures

pub returns-then-stuck_from : goal.returns-then-stuck_from
returns-then-stuck_from c =
    let a = c.args in
    sticks a.links a.board a.w _ (rw c.first_points.ensures at c.if-board-first_points.false) _ c.stuck_from.ensures c.if-stuck_from.true c.list.ensures

pub returns-then-w-eq0 : goal.returns-then-w-eq0
returns-then-w-eq0 c =
    let a = c.args in
    waits a.links a.board a.w _ (rw c.first_points.ensures at c.if-board-first_points.false) _ c.stuck_from.ensures c.if-stuck_from.false c.if-w-eq0.true c.list-then-w-eq0.ensures

pub returns : goal.returns
returns c =
    let a = c.args in
    offers a.links a.board a.w _ (rw c.first_points.ensures at c.if-board-first_points.false) _ c.stuck_from.ensures c.if-stuck_from.false c.if-w-eq0.false _ c.latest_from-latest.ensures c.list-2.ensures
