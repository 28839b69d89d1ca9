-- `kept_windows::first_holder` meets its contract. Assumes nothing.
use Rattle.neighbours.proofs.Walking.{ahead_small, seek_turn, seek_found, seek_end}
use Rattle.kept_windows.proofs.first_holder.Goals as goal

pub row_at-requires : goal.row_at-requires
row_at-requires c = ahead_small c.loop-i.i-iterator c.in-Some.ensures.steps

pub returns-then-still_holds : goal.returns-then-still_holds
returns-then-still_holds c = seek_found _ c.loop-i.invariant c.in-Some.ensures.steps (rw (c.still_holds.ensures, c.row_at.ensures) at c.if-still_holds.true)

pub loop-i-preserved : goal.loop-i-preserved
loop-i-preserved c = seek_turn _ c.loop-i.invariant c.in-Some.ensures.steps (rw (c.still_holds.ensures, c.row_at.ensures) at c.if-still_holds.false)

pub returns : goal.returns
returns c = seek_end _ c.loop-i.invariant c.in-None.ensures.steps.0
