-- A run of the machine as the one loop of `printing` makes it, where each turn of it is one call of `turns::turn`: it reads behind what was carried, hands what
-- stands in the chunk to `turn`, writes the front of the room of lines and carries what is left to the chunk's front. Each call is one of the functions' own
-- contracts; what a read brings is any bytes. Such a loop is one of `Loops` (proofs/TurnLooping). Assumes nothing.
use Rattle.std.specs.Prelude.{◌≡◌, Bool, true, false, List, [], ◌++◌, ℕ, ◌+◌, ◌-◌, ◌*◌, ◌^◌, ◌<◌, ◌≤◌, length, take, drop}
use Rattle.plan.specs.Held.{All, IsByte}
use Rattle.plan.specs.Limits.{most_records, record_bytes}
use Rattle.printed.specs.Texts.{sheet_text, offers_text}
use Rattle.machine.specs.Feeds.{Turned}
use Rattle.machine.specs.declared.Stage.{Stage}
use Rattle.fed.specs.Loops.{ReadOn, CarriedOn}

-- some turns of the loop: where the machine stands, what the rooms and the chunk hold, how many bytes were carried, all bytes that were
-- read, and all that was written
pub data Turning (full : Bool) (front₀ : List ℕ) : Stage → List ℕ → List ℕ → List ℕ → List ℕ → List ℕ → List ℕ → List ℕ → ℕ → List ℕ → List ℕ → Type 0 where
  none : {s : Stage} {rows into out ends kept chunk : List ℕ} → s.begun ≡ false → s.part ≡ 0 → Turning full front₀ s front₀ rows into out ends kept chunk 0 [] []
  turn : {s s' : Stage} {front rows into out ends kept front' rows' into' out' ends' kept' chunk chunk₁ chunk₂ came text lines₀ lines : List ℕ} {at n at' : ℕ}
      → Turning full front₀ s front rows into out ends kept chunk at came text → ReadOn chunk at chunk₁ n
      → Turned full false s front rows into out ends kept (take n chunk₁) lines₀ front' rows' into' out' ends' kept' lines s' → CarriedOn chunk₁ s'.used n chunk₂ at'
      → Turning full front₀ s' front' rows' into' out' ends' kept' chunk₂ at' (came ++ take (n - at) (drop at chunk₁)) (text ++ take s'.end lines)

-- the whole loop: where less than a record stands in the chunk and a read brings nothing, the input is over, and so is the loop after this turn
pub data TurnLoops (full : Bool) : List ℕ → List ℕ → Type 0 where
  over : {front₀ : List ℕ} {s s' : Stage} {front rows into out ends kept front' rows' into' out' ends' kept' chunk chunk₁ came text lines₀ lines : List ℕ} {at : ℕ} → record_bytes * (most_records + 2) ≤ length front₀
      → Turning full front₀ s front rows into out ends kept chunk at came text → ReadOn chunk at chunk₁ at → at < record_bytes
      → Turned full true s front rows into out ends kept (take at chunk₁) lines₀ front' rows' into' out' ends' kept' lines s'
      → TurnLoops full came (text ++ take s'.end lines)

-- However the input comes in pieces, what the loop writes, one piece after the other, is the definition's text; of an input of 2^64 bytes or
-- more nothing is said.
abbrev pub SheetTurnLoops : Type 0
SheetTurnLoops = (bytes text : List ℕ) → length bytes < 2 ^ 64 → TurnLoops false bytes text → text ≡ sheet_text bytes

-- the same of the program that prints every reply
abbrev pub OffersTurnLoops : Type 0
OffersTurnLoops = (bytes text : List ℕ) → All IsByte bytes → length bytes < 2 ^ 64 → TurnLoops true bytes text → text ≡ offers_text bytes
