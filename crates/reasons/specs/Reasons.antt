-- The lines of `desk explain` behind that of the test: `drive A C MINUTES` for each link, for a pair `shortest LENGTH` and `allowed LENGTH` or
-- `allowed none`, `step RECORD FROM TO LENGTH` for each step, and `sum LENGTH`. A word is the codes of its letters to the base 256, the
-- first letter lowest. Assumes nothing.
use Rattle.std.specs.Prelude.{[], ◌∷◌, ℕ, ltb, if◌then◌else◌, Option, None, Some}
use Rattle.lines.specs.Text.{said}
use Rattle.lines.specs.declared.Line.{Line}
use Rattle.lines.specs.declared.Piece.{Piece}
use Rattle.lines.specs.declared.Piece.TheVariants.{Name, Number, Below}
use Rattle.lengths.specs.declared.Length.{Length}
use Rattle.lengths.specs.Lengths.{length_of}
use Rattle.ways.specs.declared.steps.Step.{Step}
use Rattle.explained.specs.declared.drives.Drive.{Drive}

abbrev pub drive_word : ℕ
drive_word = 0x6576697264

abbrev pub shortest_word : ℕ
shortest_word = 0x74736574726f6873

abbrev pub allowed_word : ℕ
allowed_word = 0x6465776f6c6c61

abbrev pub none_word : ℕ
none_word = 0x656e6f6e

abbrev pub step_word : ℕ
step_word = 0x70657473

abbrev pub sum_word : ℕ
sum_word = 0x6d7573

-- a length, with a minus sign below zero; `none` where there is no walk
abbrev pub length_piece : Option Length → Piece
length_piece None = Name none_word
length_piece (Some l) = if ltb 0 l.down then Below l.down else Number l.up

-- a word and a length
abbrev pub length_line : ℕ → Option Length → Line
length_line word l = said (Name word) (length_piece l ∷ [])

-- drive A C MINUTES
abbrev pub drive_line : Drive → Line
drive_line d = said (Name drive_word) (Number d.from ∷ Number d.to ∷ Number d.minutes ∷ [])

-- step RECORD FROM TO LENGTH
abbrev pub step_line : Step → Line
step_line e = said (Name step_word) (Number e.row ∷ Number e.from ∷ Number e.to ∷ length_piece (Some (length_of e.up e.down)) ∷ [])

-- shortest LENGTH, allowed LENGTH, sum LENGTH
abbrev pub shortest_line : Option Length → Line
shortest_line = length_line shortest_word

abbrev pub allowed_line : Option Length → Line
allowed_line = length_line allowed_word

abbrev pub sum_line : Option Length → Line
sum_line = length_line sum_word
