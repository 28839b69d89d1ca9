-- A run of a printing program, as `printing` makes it: each call is one of the functions' own contracts, and what is written after each
-- is the front of the room of lines. The input comes in pieces, cut anywhere; what a call does not use of a piece stands at the front of
-- the next one. Assumes nothing.
use Rattle.std.specs.Prelude.{◌≡◌, Bool, true, false, List, [], ◌++◌, ℕ, ◌+◌, ◌*◌, ◌%◌, ◌^◌, ◌<◌, ◌≤◌, length, take}
use Rattle.plan.specs.Limits.{most_records, record_bytes}
use Rattle.links.specs.declared.Links.{Links}
use Rattle.stream.specs.Buffers.{appended}
use Rattle.saying.specs.Makes.{EventsPut}
use Rattle.saying.specs.declared.putting.Said.{Said}
use Rattle.feeding.specs.Parts.{PlanKept, PlanBegun, LastPut}
use Rattle.feeding.specs.declared.front.Part.{Part}
use Rattle.feeding.specs.declared.begun.Begun.{Begun}

-- pieces of the plan part: n bytes have come, which are these, and the front room holds `front`
pub data PlanPieces (front₀ : List ℕ) : ℕ → List ℕ → List ℕ → Type 0 where
  none : PlanPieces front₀ 0 [] front₀
  piece : {n : ℕ} {bytes front input front' : List ℕ} {r : Part} → PlanPieces front₀ n bytes front → PlanKept front n input front' r → r.marked ≡ false
      → PlanPieces front₀ r.length (bytes ++ take r.used input) front'

-- the whole plan part, up to the mark and with it, or to the end of the input
pub data PlanPart (front₀ : List ℕ) : Bool → ℕ → List ℕ → List ℕ → Type 0 where
  to_mark : {n : ℕ} {bytes front input front' : List ℕ} {r : Part} → PlanPieces front₀ n bytes front → PlanKept front n input front' r → r.marked ≡ true
      → PlanPart front₀ true r.length (bytes ++ take r.used input) front'
  to_end : {n : ℕ} {bytes front : List ℕ} (rest : List ℕ) → PlanPieces front₀ n bytes front → length rest < record_bytes
      → PlanPart front₀ false ((n + length rest) % 2 ^ 64) (bytes ++ rest) (appended front n rest)

-- pieces of the events: k events have come, which are these bytes; `kept` is the engine's room, and `text` what was written
pub data EventPieces (full : Bool) (l : Links) (ponds rows into out ends kept₀ : List ℕ) : ℕ → List ℕ → List ℕ → List ℕ → Type 0 where
  none : EventPieces full l ponds rows into out ends kept₀ 0 [] kept₀ []
  piece : {k : ℕ} {bytes kept text input lines₀ kept' lines : List ℕ} {r : Said} → EventPieces full l ponds rows into out ends kept₀ k bytes kept text
      → EventsPut full l ponds rows into out ends kept input k lines₀ 0 kept' lines r
      → EventPieces full l ponds rows into out ends kept₀ r.events (bytes ++ take r.used input) kept' (text ++ take r.end lines)

-- a whole run: all bytes of its input, and all that was written
pub data Prints (full : Bool) : List ℕ → List ℕ → Type 0 where
  -- the plan is refused, whatever comes behind the mark
  refused : {front₀ front bytes rows₀ into₀ out₀ ends₀ kept₀ lines₀ rows into out ends kept lines : List ℕ} {t : Bool} {n : ℕ} {b : Begun} (more : List ℕ)
      → record_bytes * (most_records + 2) ≤ length front₀ → PlanPart front₀ t n bytes front → (t ≡ false → more ≡ [])
      → PlanBegun full n front rows₀ into₀ out₀ ends₀ kept₀ lines₀ rows into out ends kept lines b → (b.number ≡ 0 → ⊥)
      → Prints full (bytes ++ more) (take b.end lines)
  -- the plan is read; then its events, an unfinished record, and the end
  read : {front₀ front bytes rows₀ into₀ out₀ ends₀ kept₀ lines₀ rows into out ends kept lines events kept' text lines₁ lines₂ : List ℕ} {t : Bool} {n k e : ℕ} {b : Begun} (rest : List ℕ)
      → record_bytes * (most_records + 2) ≤ length front₀ → PlanPart front₀ t n bytes front → (t ≡ false → events ++ rest ≡ [])
      → PlanBegun full n front rows₀ into₀ out₀ ends₀ kept₀ lines₀ rows into out ends kept lines b → b.number ≡ 0
      → EventPieces full b.links b.ponds rows into out ends kept k events kept' text → length rest < record_bytes
      → LastPut n front kept' (length rest) lines₁ 0 lines₂ e
      → Prints full (bytes ++ (events ++ rest)) (take b.end lines ++ (text ++ take e lines₂))
