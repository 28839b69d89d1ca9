-- The loop by turns is a loop that feeds and finishes, and so what it writes is the definition's text. Assumes nothing.
use mathlib.Core.Path.{refl}
use mathlib.Core.Bool.{Bool}
use mathlib.Core.List.{List}
use Prim.Native.Nat.{ℕ}
use Rattle.machine.specs.declared.Stage.{Stage}
use Rattle.fed.specs.Runs.{Prints}
use Rattle.fed.specs.Loops as loops
use Rattle.fed.specs.Loops.{Turns, Loops}
use Rattle.fed.specs.TurnLoops.{Turning, none, turn, TurnLoops, over, SheetTurnLoops, OffersTurnLoops}
use Rattle.fed.proofs.Looping.{loops_print, sheet_loops, offers_loops}

pub turns_feed : {full : Bool} {front₀ : List ℕ} {s : Stage} {front rows into out ends kept chunk : List ℕ} {at : ℕ} {came text : List ℕ} → Turning full front₀ s front rows into out ends kept chunk at came text
    → Turns full front₀ s front rows into out ends kept chunk at came text
turns_feed (none o z) = loops.none o z
turns_feed (turn t r f c) = loops.turn (turns_feed t) r (f.on refl) c

pub turns_loop : {full : Bool} {came text : List ℕ} → TurnLoops full came text → Loops full came text
turns_loop (over room t r few f) = loops.over room (turns_feed t) r few (f.last refl)

pub turn_loops_print : (full : Bool) (bytes text : List ℕ) → TurnLoops full bytes text → Prints full bytes text
turn_loops_print full bytes text l = loops_print full bytes text (turns_loop l)

pub sheet_turn_loops : SheetTurnLoops
sheet_turn_loops bytes text h l = sheet_loops bytes text h (turns_loop l)

pub offers_turn_loops : OffersTurnLoops
offers_turn_loops bytes text bs h l = offers_loops bytes text bs h (turns_loop l)
