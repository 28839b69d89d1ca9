-- `explained::drives::drives_of` meets its contract. Assumes nothing.
use Rattle.explained.proofs.Driving.{Driving}
use Rattle.explained.proofs.drives.drives_of.Given as goal

abbrev pub invariant-loop-q : goal.invariant-loop-q
invariant-loop-q l = Driving l.sheet l.durations l.m l.drives l.q
