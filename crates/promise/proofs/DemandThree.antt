-- Demand 3 holds: each statement of specs/DemandThree, by the theorem that proves it. Assumes nothing.
use Rattle.vee.proofs.Yes.{yes_exactly, yes_passes}
use Rattle.promise.specs.DemandThree.{AlwaysPromised, NothingRefused, AlwaysOn, AlwaysFinishes, YesExactly, YesPasses}
use Rattle.promise.proofs.Executor.{executor}
use Rattle.promise.proofs.Play as Play
use Rattle.promise.proofs.TestYes.{yes_accepted}

pub always_promised : AlwaysPromised
always_promised p w b k r = executor p w.accepted w.passes r

pub nothing_refused : NothingRefused
nothing_refused p w b k h e c = Play.happening_accepted p w.accepted w.passes (Play.happened_run p w.accepted w.passes h) c

pub always_on : AlwaysOn
always_on p w b k h = Play.happening_on p w.accepted w.passes h

pub always_finishes : AlwaysFinishes
always_finishes p w x = Play.finishes p w.accepted w.passes x

pub yes_exactly_passing : YesExactly
yes_exactly_passing p a e m t = yes_exactly e m t

pub yes_passing : YesPasses
yes_passing p j t = record { accepted = yes_accepted t; passes = yes_passes t }
