-- What is otherwise where the input is over. Assumes nothing.
use Rattle.std.specs.Prelude.{◌≡◌, ℕ, ◌+◌, ◌%◌, ◌^◌, Bool, true, false, List, length, ◌≢◌}
use Rattle.plan.specs.declared.Plan.{Plan}
use Rattle.stream.specs.Buffers.{appended}
use Rattle.feeding.specs.Parts.{PlanKept, EndPut}
use Rattle.feeding.specs.declared.front.Part.{Part}

-- a piece of the plan part; where the input is over all of it belongs there, and the plan part is over too
pub record PartKept (over : Bool) (front₀ : List ℕ) (n : ℕ) (piece front : List ℕ) (r : Part) : Type 0 where
  pub on : over ≡ false → PlanKept front₀ n piece front r
  pub last : over ≡ true → (r.length ≡ (n + length piece) % 2 ^ 64) × (front ≡ appended front₀ n piece) × (r.used ≡ length piece) × (r.marked ≡ true)

-- where the input is over and the plan was read, how its sheet ends; else nothing
pub record OverPut (over : Bool) (number : ℕ) (p : Plan) (kept : List ℕ) (left : ℕ) (lines₀ : List ℕ) (at : ℕ) (lines : List ℕ) (end : ℕ) : Type 0 where
  pub on : over ≡ false → (lines ≡ lines₀) × (end ≡ at)
  pub refused : (number ≢ 0) → (lines ≡ lines₀) × (end ≡ at)
  pub last : over ≡ true → number ≡ 0 → EndPut p kept left lines₀ at lines end
