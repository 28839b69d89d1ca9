-- What the functions behind the lines compute. A reader of the lines can leave this page out. Assumes nothing.
use Rattle.std.specs.Prelude.{◌≡◌, List, ◌++◌, ℕ, ◌+◌, ◌≤◌, length, take, drop}
use Rattle.lines.specs.Text.{room, line_of, decimal}
use Rattle.lines.specs.declared.Line.{Line}
use Rattle.lines.specs.declared.Digits.{Digits}

-- a line's text
abbrev pub text_in : Line → List ℕ
text_in l = take l.len l.bytes

-- the line is no longer than its room, and zero past its length
pub record Whole (l : Line) : Type 0 where
  pub fits : length (text_in l) ≤ room
  pub same : l ≡ line_of (text_in l)

-- the line with some text more
abbrev pub with : Line → List ℕ → Line
with l ts = line_of (text_in l ++ ts)

-- there is room for some text more
pub record RoomFor (l : Line) (ts : List ℕ) : Type 0 where
  pub whole : Whole l
  pub fits : length (text_in l) + length ts ≤ room

-- the digits of n stand at the end of their room, from a place on
pub record Spelt (n : ℕ) (d : Digits) : Type 0 where
  pub within : d.from ≤ 20
  pub long : length d.digits ≡ 20
  pub same : drop d.from d.digits ≡ decimal n
