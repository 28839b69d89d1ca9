-- The worse of two finishing minutes, computed: a page of its own, since it is quick, and `Searching` builds on it, so that a wrong order is
-- refused here first. Assumes nothing.
use mathlib.Core.Path.{◌≡◌, refl}
use Rattle.all_runs.specs.WorstRun.{worse}

-- of equal minutes the first projection counts
pub first_of_equal : worse (record { minute = 9; projection = 0 }) 9 1 ≡ record { minute = 9; projection = 0 }
first_of_equal = refl
