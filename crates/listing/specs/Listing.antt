-- A listing typed by people as the bytes that the programs read: a record of sixteen bytes for each line that has words. Nothing is
-- written unless every line is good: else the first bad line, counted from 1, and what was expected there are told. What a line says
-- and the numbers of what is expected are handed on from `sayings`, lines and words from `phrases`. Assumes nothing.
use Rattle.std.specs.Prelude.{Bool, Result, Ok, Err, List, [], ◌∷◌, ◌++◌, ℕ, suc, ◌*◌, ltb, length, drop, if◌then◌else◌}
use Rattle.records.specs.Limits.{record_bytes}
use Rattle.sayings.specs.declared.Said.{Said}
use Rattle.sayings.specs.declared.Said.TheVariants.{Nothing, Plan, Mark, Event}
use Rattle.listing.specs.declared.Refused.{Refused}
pub use Rattle.phrases.specs.Phrases.{lines_of, words_of}
pub use Rattle.sayings.specs.Sayings.{a_kind, so_many_words, a_point, a_number, a_count, a_point_or_none, a_set, Row, bad, good, line_row, bytes_said}
unfoldable pub use Rattle.sayings.specs.Sayings.{expected, holds, first_wrong, said_by, row_of}

-- no line is bad, but the buffer is too short
abbrev pub a_longer_buffer : ℕ
a_longer_buffer = 8

-- ---- a text

-- what the lines say, or what was expected at the first bad line, and that line
pub data Outcome : Type 0 where
  refused : ℕ → ℕ → Outcome
  listed : List Said → Outcome

-- "a line without words makes no record"
abbrev pub in_front : Said → List Said → List Said
in_front Nothing xs = xs
in_front (Plan r) xs = Plan r ∷ xs
in_front Mark xs = Mark ∷ xs
in_front (Event m p s) xs = Event m p s ∷ xs

-- line n in front of what the lines behind it say
abbrev pub behind : ℕ → Row → Outcome → Outcome
behind n (bad k) o = refused k n
behind n (good x) (refused k m) = refused k m
behind n (good x) (listed xs) = listed (in_front x xs)

-- the lines from line n on
unfoldable pub outcome : ℕ → List (List ℕ) → Outcome
outcome n [] = listed []
outcome n (l ∷ ls) = behind n (line_row l) (outcome (suc n) ls)

-- lines are counted from 1
abbrev pub outcome_of : List ℕ → Outcome
outcome_of s = outcome 1 (lines_of s)

-- ---- bytes

unfoldable pub all_said : List Said → List ℕ
all_said [] = []
all_said (x ∷ xs) = bytes_said x ++ all_said xs

-- a buffer of so many bytes is too short for the records
abbrev pub is_short : ℕ → List Said → Bool
is_short room xs = ltb room (record_bytes * length xs)

-- what was expected, and the line
abbrev pub refusal : ℕ → ℕ → Result ℕ Refused
refusal n l = Err (record { number = n; line = l })

-- what packing answers, where the buffer has so many bytes: how many it has written
abbrev pub packed : ℕ → Outcome → Result ℕ Refused
packed room (refused k n) = refusal k n
packed room (listed xs) = if is_short room xs then refusal a_longer_buffer 0 else Ok (record_bytes * length xs)

-- what it leaves in the buffer
abbrev pub written : List ℕ → Outcome → List ℕ
written out (refused k n) = out
written out (listed xs) = if is_short (length out) xs then out else all_said xs ++ drop (record_bytes * length xs) out

-- what packing a text into a buffer answers
abbrev pub answer_of : List ℕ → List ℕ → Result ℕ Refused
answer_of text out = packed (length out) (outcome_of text)

-- the buffer after it
abbrev pub buffer_of : List ℕ → List ℕ → List ℕ
buffer_of text out = written out (outcome_of text)
