-- `planless::number_from` meets its contract. Assumes nothing.
use Rattle.planless.proofs.Numbering.{all_done, is_stuck, later}
use Rattle.planless.proofs.number_from.Goals as goal

pub returns-then-done-first_points : goal.returns-then-done-first_points
returns-then-done-first_points c = all_done _ _ _ _ _ _ _ (rw c.first_points.ensures at c.if-done-first_points.true) c.new.ensures

pub returns-then-stuck_from : goal.returns-then-stuck_from
returns-then-stuck_from c = is_stuck _ _ _ _ _ _ _ (rw c.first_points.ensures at c.if-done-first_points.false) _ c.stuck_from.ensures c.if-stuck_from.true c.new-then-stuck_from.ensures

pub returns : goal.returns
returns c = later _ _ _ _ _ _ _ (rw c.first_points.ensures at c.if-done-first_points.false) _ c.stuck_from.ensures c.if-stuck_from.false c.later_from.ensures
