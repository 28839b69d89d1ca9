-- How the text ends that is printed of a plan to which the test says yes, whatever bytes come behind the plan. Assumes nothing.
use Rattle.std.specs.Prelude.{◌≡◌, ◌⊎◌, List, [], ◌∷◌, ℕ}
use Rattle.plan.specs.Held.{All, IsByte}
use Rattle.plan.specs.ReplyNumbers.{plan_in, read_of}
use Rattle.vee.specs.TestOf.{test_of}
use Rattle.vee.specs.declared.Answer.TheVariants.{Yes}
use Rattle.lines.specs.declared.Line.{Line}
use Rattle.text.specs.Words.{kept_word, open_word}
use Rattle.text.specs.Lines.{end_with}
use Rattle.printed.specs.Texts.{plan_part, sheet_lines, offers_lines}

-- the last of some lines; l where there is none
unfoldable pub last_or : Line → List Line → Line
last_or l [] = l
last_or l (m ∷ ms) = last_or m ms

-- whatever stood before, the last of the lines is `end kept` or `end open`
abbrev pub EndsWell : List Line → Type 0
EndsWell ls = (l : Line) → (last_or l ls ≡ end_with kept_word) ⊎ (last_or l ls ≡ end_with open_word)

-- For any bytes whose plan part reads to a plan with a yes, the last line that each program prints is `end kept` or `end open`; so it is
-- never `end stuck` and never `end broken N`.
abbrev pub YesEndsWell : Type 0
YesEndsWell =
    (bytes : List ℕ) (j : ℕ) → All IsByte bytes → test_of (plan_in (read_of (plan_part bytes))) ≡ Yes j
    → EndsWell (sheet_lines bytes) × EndsWell (offers_lines bytes)
