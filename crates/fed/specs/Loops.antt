-- A run of the machine as the one loop of `printing` makes it: a turn reads behind what was carried, feeds what stands in the chunk, writes
-- the front of the room of lines and carries what is left to the chunk's front. Each call is one of the functions' own contracts; what a
-- read brings is any bytes. Assumes nothing.
use Rattle.std.specs.Prelude.{◌≡◌, Bool, true, false, List, [], ◌++◌, ℕ, ◌+◌, ◌-◌, ◌*◌, ◌^◌, ◌<◌, ◌≤◌, length, take, drop}
use Rattle.plan.specs.Held.{All, IsByte}
use Rattle.plan.specs.Limits.{most_records, record_bytes}
use Rattle.printed.specs.Texts.{sheet_text, offers_text}
use Rattle.machine.specs.Feeds.{Feeds, Finishes}
use Rattle.machine.specs.declared.Stage.{Stage}

-- what `read_on` leaves: the first `at` bytes of the chunk as they were, and n in all
pub record ReadOn (chunk₀ : List ℕ) (at : ℕ) (chunk : List ℕ) (n : ℕ) : Type 0 where
  pub room : n ≤ length chunk
  pub more : at ≤ n
  pub front : take at chunk ≡ take at chunk₀

-- what `carry` leaves: the bytes from `past` to n, in front
pub record CarriedOn (chunk₀ : List ℕ) (past n : ℕ) (chunk : List ℕ) (at : ℕ) : Type 0 where
  pub many : at ≡ n - past
  pub bytes : take at chunk ≡ take at (drop past chunk₀)

-- some turns of the loop: where the machine stands, what the rooms and the chunk hold, how many bytes were carried, all bytes that were
-- read, and all that was written
pub data Turns (full : Bool) (front₀ : List ℕ) : Stage → List ℕ → List ℕ → List ℕ → List ℕ → List ℕ → List ℕ → List ℕ → ℕ → List ℕ → List ℕ → Type 0 where
  none : {s : Stage} {rows into out ends kept chunk : List ℕ} → s.begun ≡ false → s.part ≡ 0 → Turns full front₀ s front₀ rows into out ends kept chunk 0 [] []
  turn : {s s' : Stage} {front rows into out ends kept front' rows' into' out' ends' kept' chunk chunk₁ chunk₂ came text lines₀ lines : List ℕ} {at n at' : ℕ}
      → Turns full front₀ s front rows into out ends kept chunk at came text → ReadOn chunk at chunk₁ n
      → Feeds full s front rows into out ends kept (take n chunk₁) lines₀ front' rows' into' out' ends' kept' lines s' → CarriedOn chunk₁ s'.used n chunk₂ at'
      → Turns full front₀ s' front' rows' into' out' ends' kept' chunk₂ at' (came ++ take (n - at) (drop at chunk₁)) (text ++ take s'.end lines)

-- the whole loop: where less than a record stands in the chunk and a read brings nothing, the machine is finished
pub data Loops (full : Bool) : List ℕ → List ℕ → Type 0 where
  over : {front₀ : List ℕ} {s : Stage} {front rows into out ends kept chunk chunk₁ came text lines₀ lines : List ℕ} {at end : ℕ} → record_bytes * (most_records + 2) ≤ length front₀
      → Turns full front₀ s front rows into out ends kept chunk at came text → ReadOn chunk at chunk₁ at → at < record_bytes
      → Finishes full s front rows into out ends kept (take at chunk₁) lines₀ lines end
      → Loops full came (text ++ take end lines)

-- However the input comes in pieces, what the loop writes, one piece after the other, is the definition's text; of an input of 2^64 bytes or
-- more nothing is said.
abbrev pub SheetLoops : Type 0
SheetLoops = (bytes text : List ℕ) → length bytes < 2 ^ 64 → Loops false bytes text → text ≡ sheet_text bytes

-- the same of the program that prints every reply
abbrev pub OffersLoops : Type 0
OffersLoops = (bytes text : List ℕ) → All IsByte bytes → length bytes < 2 ^ 64 → Loops true bytes text → text ≡ offers_text bytes
