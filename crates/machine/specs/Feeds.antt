-- What the machine does with a piece of the input, and at the input's end, whatever the rooms that are lent hold. Assumes nothing.
use Rattle.std.specs.Prelude.{◌≡◌, Bool, true, false, List, ℕ, ◌+◌, ◌%◌, ◌^◌, length, replicate}
use Rattle.plan.specs.Limits.{most_points}
use Rattle.stream.specs.Buffers.{appended}
use Rattle.saying.specs.Makes.{EventsPut}
use Rattle.saying.specs.declared.putting.Said.{Said}
use Rattle.feeding.specs.Parts.{PlanKept, PlanBegun, LastPut}
use Rattle.feeding.specs.declared.front.Part.{Part}
use Rattle.feeding.specs.declared.begun.Begun.{Begun}
use Rattle.machine.specs.declared.Stage.{Stage}

-- where the machine stands before any input
abbrev pub at_first : Stage
at_first =
    record {
      begun = false;
      number = 0;
      part = 0;
      events = 0;
      links = record { points = 0; watched = 0; ends = replicate most_points (record { from = 0; shortest = 0; longest = 0 }) };
      ponds = replicate most_points 0;
      used = 0;
      end = 0;
    }

-- a piece of the input: what the rooms hold then, and where the machine stands
pub data Feeds (full : Bool) (s : Stage) (front₀ rows₀ into₀ out₀ ends₀ kept₀ input lines₀ : List ℕ) : List ℕ → List ℕ → List ℕ → List ℕ → List ℕ → List ℕ → List ℕ → Stage → Type 0 where
  -- the plan part goes on
  plan_on : {front : List ℕ} {part : Part} → s.begun ≡ false → PlanKept front₀ s.part input front part → part.marked ≡ false
      → Feeds full s front₀ rows₀ into₀ out₀ ends₀ kept₀ input lines₀ front rows₀ into₀ out₀ ends₀ kept₀ lines₀
      (record { begun = false; number = s.number; part = part.length; events = s.events; links = s.links; ponds = s.ponds; used = part.used; end = 0 })
  -- it ends with the mark, and the plan is read
  plan_read : {front rows into out ends kept lines : List ℕ} {part : Part} {b : Begun} → s.begun ≡ false → PlanKept front₀ s.part input front part → part.marked ≡ true
      → PlanBegun full part.length front rows₀ into₀ out₀ ends₀ kept₀ lines₀ rows into out ends kept lines b
      → Feeds full s front₀ rows₀ into₀ out₀ ends₀ kept₀ input lines₀ front rows into out ends kept lines
      (record { begun = true; number = b.number; part = part.length; events = 0; links = b.links; ponds = b.ponds; used = part.used; end = b.end })
  -- events of a plan that was read
  events : {kept lines : List ℕ} {said : Said} → s.begun ≡ true → s.number ≡ 0
      → EventsPut full s.links s.ponds rows₀ into₀ out₀ ends₀ kept₀ input s.events lines₀ 0 kept lines said
      → Feeds full s front₀ rows₀ into₀ out₀ ends₀ kept₀ input lines₀ front₀ rows₀ into₀ out₀ ends₀ kept lines
      (record { begun = true; number = 0; part = s.part; events = said.events; links = s.links; ponds = s.ponds; used = said.used; end = said.end })
  -- nothing is made of what comes behind a refused plan
  refused : s.begun ≡ true → (s.number ≡ 0 → ⊥)
      → Feeds full s front₀ rows₀ into₀ out₀ ends₀ kept₀ input lines₀ front₀ rows₀ into₀ out₀ ends₀ kept₀ lines₀
      (record { begun = true; number = s.number; part = s.part; events = s.events; links = s.links; ponds = s.ponds; used = length input; end = 0 })

-- the end of the input, with some bytes of an unfinished record: the room of lines then, and where they end
pub data Finishes (full : Bool) (s : Stage) (front₀ rows₀ into₀ out₀ ends₀ kept₀ rest lines₀ : List ℕ) : List ℕ → ℕ → Type 0 where
  -- in the plan part: they belong to it, and the plan is refused
  rest_refused : {rows into out ends kept lines : List ℕ} {b : Begun} → s.begun ≡ false
      → PlanBegun full ((s.part + length rest) % 2 ^ 64) (appended front₀ s.part rest) rows₀ into₀ out₀ ends₀ kept₀ lines₀ rows into out ends kept lines b → (b.number ≡ 0 → ⊥)
      → Finishes full s front₀ rows₀ into₀ out₀ ends₀ kept₀ rest lines₀ lines b.end
  -- or it is read, and has no events
  rest_read : {rows into out ends kept lines₁ lines : List ℕ} {b : Begun} {e : ℕ} → s.begun ≡ false
      → PlanBegun full ((s.part + length rest) % 2 ^ 64) (appended front₀ s.part rest) rows₀ into₀ out₀ ends₀ kept₀ lines₀ rows into out ends kept lines₁ b → b.number ≡ 0
      → LastPut ((s.part + length rest) % 2 ^ 64) (appended front₀ s.part rest) kept 0 lines₁ b.end lines e
      → Finishes full s front₀ rows₀ into₀ out₀ ends₀ kept₀ rest lines₀ lines e
  -- behind the events
  events_over_lem : {lines : List ℕ} {e : ℕ} → s.begun ≡ true → s.number ≡ 0 → LastPut s.part front₀ kept₀ (length rest) lines₀ 0 lines e
      → Finishes full s front₀ rows₀ into₀ out₀ ends₀ kept₀ rest lines₀ lines e
  -- behind a refused plan
  refused_over : s.begun ≡ true → (s.number ≡ 0 → ⊥) → Finishes full s front₀ rows₀ into₀ out₀ ends₀ kept₀ rest lines₀ lines₀ 0

-- a turn of the loop: a piece of the input, or, where the input is over, its end, with all that is left. Where the machine stands behind the
-- end is not said, since nothing is fed any more
pub record Turned (full over : Bool) (s : Stage) (front₀ rows₀ into₀ out₀ ends₀ kept₀ piece lines₀ front rows into out ends kept lines : List ℕ) (r : Stage) : Type 0 where
  pub on : over ≡ false → Feeds full s front₀ rows₀ into₀ out₀ ends₀ kept₀ piece lines₀ front rows into out ends kept lines r
  pub last : over ≡ true → Finishes full s front₀ rows₀ into₀ out₀ ends₀ kept₀ piece lines₀ lines r.end
  pub used : over ≡ true → r.used ≡ length piece
