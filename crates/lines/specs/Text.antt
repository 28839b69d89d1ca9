-- Document 01, "The printing program": the text of a line, as the numbers of its ASCII characters. A line is pieces, words
-- and numbers, with single spaces between them and one line feed at its end. Assumes nothing.
use Rattle.std.specs.Prelude.{cond, List, [], ◌∷◌, ◌++◌, ℕ, zero, suc, ◌+◌, ◌-◌, ◌/◌, ◌%◌, eqb, ltb, length, replicate}
use Rattle.lines.specs.declared.Line.{Line}
use Rattle.lines.specs.declared.Piece.{Piece}
use Rattle.lines.specs.declared.Piece.TheVariants.{Name, Number, Below}

-- how long a line may be
abbrev pub room : ℕ
room = 128

-- the line that has the text ts, zero past its length
abbrev pub line_of : List ℕ → Line
line_of ts = record { len = length ts; bytes = ts ++ replicate (room - length ts) 0 }

-- the last k or fewer decimal digits of n, with no leading zeros
unfoldable pub digits : ℕ → ℕ → List ℕ
digits zero n = []
digits (suc k) n = cond (ltb n 10) [] (digits k (n / 10)) ++ ((48 + n % 10) ∷ [])

-- the decimal digits of a number of 64 bits, which has at most twenty
abbrev pub decimal : ℕ → List ℕ
decimal n = digits 20 n

-- the first k or fewer letters of a word, whose codes are its digits to the base 256, the first letter lowest
unfoldable pub spelled : ℕ → ℕ → List ℕ
spelled zero w = []
spelled (suc k) w = cond (eqb w 0) [] (w % 256 ∷ spelled k (w / 256))

-- the letters of a word of at most eight
abbrev pub letters : ℕ → List ℕ
letters w = spelled 8 w

-- a piece: what is below zero has a minus sign
abbrev pub piece_text : Piece → List ℕ
piece_text (Name w) = letters w
piece_text (Number n) = decimal n
piece_text (Below n) = 45 ∷ decimal n

-- pieces after the first, each behind a space
unfoldable pub more_text : List Piece → List ℕ
more_text [] = []
more_text (p ∷ ps) = (32 ∷ piece_text p) ++ more_text ps

-- a whole line
abbrev pub text_of : Piece → List Piece → List ℕ
text_of p ps = piece_text p ++ (more_text ps ++ (10 ∷ []))

-- the line of a first piece and the others
abbrev pub said : Piece → List Piece → Line
said p ps = line_of (text_of p ps)
