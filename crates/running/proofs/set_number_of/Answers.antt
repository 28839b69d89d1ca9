-- `running::set_number_of` meets its contract. Assumes nothing.
use Rattle.running.proofs.Numbering.{before_clock, not_running, not_in_time, run_out, passes}
use Rattle.running.proofs.set_number_of.Goals as goal

pub returns-then-t-clock : goal.returns-then-t-clock
returns-then-t-clock c = before_clock _ _ _ _ _ _ _ c.if-t-clock.true

pub returns-then-not-all_running : goal.returns-then-not-all_running
returns-then-not-all_running c = not_running _ _ _ _ _ _ _ c.if-t-clock.false _ c.all_running.ensures (c.if-not-all_running.true)

pub returns-then-not-all_in_time : goal.returns-then-not-all_in_time
returns-then-not-all_in_time c = not_in_time _ _ _ _ _ _ _ c.if-t-clock.false _ c.all_running.ensures (c.if-not-all_running.false) _ c.all_in_time.ensures (c.if-not-all_in_time.true)

pub returns-then-not-none_late : goal.returns-then-not-none_late
returns-then-not-none_late c = run_out _ _ _ _ _ _ _ c.if-t-clock.false _ c.all_running.ensures (c.if-not-all_running.false) _ c.all_in_time.ensures (c.if-not-all_in_time.false) _ c.none_late.ensures (c.if-not-none_late.true)

pub returns : goal.returns
returns c = passes _ _ _ _ _ _ _ c.if-t-clock.false _ c.all_running.ensures (c.if-not-all_running.false) _ c.all_in_time.ensures (c.if-not-all_in_time.false) _ c.none_late.ensures (c.if-not-none_late.false)
