-- `saying::put_events` meets its contract. Assumes nothing.
use Rattle.std.proofs.Common.{◌-◌}
use Rattle.saying.proofs.Gone.{Gone}
use Rattle.saying.proofs.putting.put_events.Given as goal

abbrev pub invariant-loop-i : goal.invariant-loop-i
invariant-loop-i l =
    Gone l.full l.links l.ponds l.rows l.into l.out l.ends l.initial.kept l.bytes l.k l.initial.lines l.at l.n l.kept l.lines l.next l.end l.i

abbrev pub decreases-loop-i : goal.decreases-loop-i
decreases-loop-i l =
    l.n - l.i
