-- `running::all_sound` meets its contract. Assumes nothing.
use Rattle.points.proofs.Walks.{every_passed, every_failed, every_done}
use Rattle.running.specs.ByTable.{sound_at}
use Rattle.running.proofs.all_sound.Goals as goal

pub returns-then-not-is_sound_to : goal.returns-then-not-is_sound_to
returns-then-not-is_sound_to c =
    let a = c.args in
    every_failed (sound_at a.links a.clock a.done a.minutes a.calls) c.loop-p.invariant c.in-Some.ensures.steps.yields (rw (c.is_sound_to.ensures, c.minute_at-j.ensures, c.minute_at-i.ensures, c.minute_at-c.ensures, c.minute_at-a.ensures) at c.if-not-is_sound_to.true)

pub loop-p-preserved : goal.loop-p-preserved
loop-p-preserved c =
    let a = c.args in
    every_passed (sound_at a.links a.clock a.done a.minutes a.calls) c.loop-p.invariant c.in-Some.ensures.steps.yields (rw (c.is_sound_to.ensures, c.minute_at-j.ensures, c.minute_at-i.ensures, c.minute_at-c.ensures, c.minute_at-a.ensures) at c.if-not-is_sound_to.false)

pub returns : goal.returns
returns c = every_done _ c.loop-p.invariant c.in-None.ensures.steps.yields.0
