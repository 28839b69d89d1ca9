-- The lines of the program `desk`: `worst MINUTE PROJECTION`; a refusal is the verb and the number, where the plan itself has been
-- read. A word is the codes of its letters to the base 256, the first letter lowest. Assumes nothing.
use Rattle.std.specs.Prelude.{Result, Ok, Err, [], ◌∷◌, ℕ}
use Rattle.lines.specs.Text.{said}
use Rattle.lines.specs.declared.Line.{Line}
use Rattle.lines.specs.declared.Piece.TheVariants.{Name, Number}
use Rattle.plan.specs.declared.Refusal.{Refusal}
use Rattle.worst.specs.WorstMinute.{Found}

abbrev pub worst_word : ℕ
worst_word = 0x7473726f77

abbrev pub day_word : ℕ
day_word = 0x796164

abbrev pub import_word : ℕ
import_word = 0x74726f706d69

abbrev pub close_word : ℕ
close_word = 0x65736f6c63

abbrev pub lighter_word : ℕ
lighter_word = 0x7265746867696c

abbrev pub dropped_word : ℕ
dropped_word = 0x646570706f7264

abbrev pub calendar_word : ℕ
calendar_word = 0x7261646e656c6163

abbrev pub line_word : ℕ
line_word = 0x656e696c

-- worst MINUTE PROJECTION, worst NUMBER
abbrev pub worst_line : Result Found Refusal → Line
worst_line (Ok f) = said (Name worst_word) (Number f.minute ∷ Number f.projection ∷ [])
worst_line (Err x) = said (Name worst_word) (Number x.number ∷ [])

-- day NUMBER
abbrev pub day_refused : ℕ → Line
day_refused n = said (Name day_word) (Number n ∷ [])

-- import NUMBER LINE, for the reader's own numbers too
abbrev pub import_refused : ℕ → ℕ → Line
import_refused n i = said (Name import_word) (Number n ∷ Number i ∷ [])

-- close NUMBER
abbrev pub close_refused : ℕ → Line
close_refused n = said (Name close_word) (Number n ∷ [])

-- lighter NUMBER
abbrev pub lighter_refused : ℕ → Line
lighter_refused n = said (Name lighter_word) (Number n ∷ [])

-- dropped N
abbrev pub dropped_line : ℕ → Line
dropped_line n = said (Name dropped_word) (Number n ∷ [])

-- calendar NUMBER
abbrev pub calendar_refused : ℕ → Line
calendar_refused n = said (Name calendar_word) (Number n ∷ [])

-- line N
abbrev pub line_number : ℕ → Line
line_number n = said (Name line_word) (Number n ∷ [])
