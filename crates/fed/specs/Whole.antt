-- What is promised of the text that is printed: however the input is cut into pieces, what is written, one piece after the other, is the
-- definition's. An input of 2^64 bytes or more is no input of any machine: of it nothing is said. Assumes nothing.
use Rattle.std.specs.Prelude.{◌≡◌, true, false, List, ℕ, ◌^◌, ◌<◌, length}
use Rattle.plan.specs.Held.{All, IsByte}
use Rattle.printed.specs.Texts.{sheet_text, offers_text}
use Rattle.fed.specs.Runs.{Prints}

abbrev pub SheetPrints : Type 0
SheetPrints = (bytes text : List ℕ) → length bytes < 2 ^ 64 → Prints false bytes text → text ≡ sheet_text bytes

-- the same of the program that prints every reply
abbrev pub OffersPrints : Type 0
OffersPrints = (bytes text : List ℕ) → All IsByte bytes → length bytes < 2 ^ 64 → Prints true bytes text → text ≡ offers_text bytes
