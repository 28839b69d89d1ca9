-- Writing, by what the plan's check and the buffer's length say. Assumes nothing.
use mathlib.Core.Path.{◌≡◌}
use mathlib.Core.Bool.{true, false}
use mathlib.Core.List.{List, ◌++◌}
use Prim.Native.Nat.{ℕ, ◌*◌}
use lib.Dec.{eqb, ltb}
use lib.ListN.{length, drop}
use Rattle.plan.specs.Limits.{record_bytes}
use Rattle.plan.specs.PlanFile.{file_of}
use Rattle.plan.specs.ReplyNumbers.{check_of, write_of, write_with, written_of, written_with, refusal, accepted}
use Rattle.plan.specs.declared.Plan.{Plan}

module _ (p : Plan) (out : List ℕ) where
  pub write_refused : eqb (check_of p).number 0 ≡ false → (write_of p out ≡ check_of p) × (written_of p out ≡ out)
  unfolding write_with written_with
  write_refused e = (rw e, rw (e, e))

  module _ (e : eqb (check_of p).number 0 ≡ true) where
    pub write_short : ltb (length out) (record_bytes * p.count) ≡ true → (write_of p out ≡ refusal 12 0) × (written_of p out ≡ out)
    unfolding write_with written_with
    write_short h = (rw (e, h), rw (e, h))

    pub write_done : ltb (length out) (record_bytes * p.count) ≡ false → (write_of p out ≡ accepted) × (written_of p out ≡ file_of p ++ drop (record_bytes * p.count) out)
    unfolding write_with written_with
    write_done h = (rw (e, h), rw (e, h))
