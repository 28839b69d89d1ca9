-- `kept_windows::first_holder` meets its contract. Assumes nothing.
use mathlib.Core.Path.{◌≡◌}
use Rattle.neighbours.specs.Lists.{first_at, still_ahead, entries_of}
use Rattle.kept_windows.specs.Answers.{shut_at}
use Rattle.kept_windows.proofs.first_holder.Given as goal

abbrev pub invariant-loop-i : goal.invariant-loop-i
invariant-loop-i l = first_at (shut_at l.rows l.done) (still_ahead l.i-iterator) ≡ first_at (shut_at l.rows l.done) (entries_of l.out l.v)
