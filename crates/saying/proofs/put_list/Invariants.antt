-- `saying::put_list` meets its contract. Assumes nothing.
use Rattle.saying.proofs.Listing.{Sofar}
use Rattle.saying.proofs.put_list.Given as goal

abbrev pub invariant-loop-i : goal.invariant-loop-i
invariant-loop-i l =
    Sofar l.rows l.ponds l.reply l.points l.initial.lines l.at l.count l.lines l.end l.i
