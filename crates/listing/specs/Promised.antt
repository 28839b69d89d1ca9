-- What is promised of a packed listing, each statement as a type. `proofs/Theorems` proves them. Definitions only. Assumes nothing.
use Rattle.std.specs.Prelude.{◌≡◌, Ok, Err, List, [], ◌∷◌, ◌++◌, map, ℕ, ◌+◌, ◌*◌, ◌-◌, ◌≤◌, ◌<◌, eqb, length, get_or, drop, if◌then◌else◌}
use Rattle.numbers.specs.Numbers.{word_at}
use Rattle.records.specs.Limits.{record_bytes}
use Rattle.records.specs.Bytes.{record_in}
use Rattle.records.specs.declared.Record.{Record}
use Rattle.sayings.specs.declared.Said.{Said}
use Rattle.sayings.specs.declared.Said.TheVariants.{Plan, Event}
use Rattle.listing.specs.declared.Refused.{Refused}
use Rattle.listing.specs.Listing.{lines_of, words_of, Row, bad, good, line_row, bytes_said, all_said, answer_of, buffer_of, a_set}

-- those lines that have words
unfoldable pub worded : List (List ℕ) → List (List ℕ)
worded [] = []
worded (l ∷ ls) = if eqb (length (words_of l)) 0 then worded ls else l ∷ worded ls

-- each line that has words says one thing, in order, and the bytes of these are written, sixteen for each, and nothing else
pub record Packs (text out : List ℕ) : Type 0 where
  pub said : List Said
  pub each : map line_row (worded (lines_of text)) ≡ map good said
  pub long : answer_of text out ≡ Ok (record_bytes * length said)
  pub bytes : buffer_of text out ≡ all_said said ++ drop (record_bytes * length said) out

-- Where packing answers a length, what is written is one record for each line that is not empty, in order.
abbrev pub OneForEachLine : Type 0
OneForEachLine = (text out : List ℕ) (n : ℕ) → answer_of text out ≡ Ok n → Packs text out

-- Where it refuses, no byte is changed.
abbrev pub NothingUnlessGood : Type 0
NothingUnlessGood = (text out : List ℕ) (r : Refused) → answer_of text out ≡ Err r → buffer_of text out ≡ out

-- a row that is good
pub record IsGood (r : Row) : Type 0 where
  pub says : Said
  pub is : r ≡ good says

-- line number l, counted from 1, is bad: n was expected; those before it are good
pub record Stops (text : List ℕ) (n l : ℕ) : Type 0 where
  pub from : 1 ≤ l
  pub to : l ≤ length (lines_of text)
  pub here : line_row (get_or (lines_of text) (l - 1) []) ≡ bad n
  pub before : (i : ℕ) → i + 1 < l → IsGood (line_row (get_or (lines_of text) i []))

-- Where it refuses with a number of a line, that line is the first bad one, and the number is what was expected there.
abbrev pub FirstBadLine : Type 0
FirstBadLine = (text out : List ℕ) (r : Refused) → answer_of text out ≡ Err r → r.number ≤ a_set → Stops text r.number r.line

-- What the programs read in the sixteen bytes of a line's record is the record that the line says.
abbrev pub ReadAsTyped : Type 0
ReadAsTyped = (l : List ℕ) (r : Record) → line_row l ≡ good (Plan r) → record_in (bytes_said (Plan r)) ≡ r

-- No line is read as another record: lines that say different records of a plan are packed to different bytes.
abbrev pub NoOtherRecord : Type 0
NoOtherRecord =
    (l m : List ℕ) (r q : Record) → line_row l ≡ good (Plan r) → line_row m ≡ good (Plan q) → bytes_said (Plan r) ≡ bytes_said (Plan q)
    → r ≡ q

-- sixteen bytes as an event: the minute, the point (255 for none), the set, and all else zero
pub record ReadsAs (bytes : List ℕ) (minute point set : ℕ) : Type 0 where
  pub at_0 : word_at bytes 0 ≡ minute
  pub at_4 : get_or bytes 4 0 ≡ point
  pub at_5 : get_or bytes 5 0 ≡ 0
  pub at_6 : get_or bytes 6 0 ≡ 0
  pub at_7 : get_or bytes 7 0 ≡ 0
  pub at_8 : word_at bytes 8 ≡ set
  pub at_12 : word_at bytes 12 ≡ 0

-- What the programs read in the sixteen bytes of a line's event is the event that the line says.
abbrev pub EventAsTyped : Type 0
EventAsTyped = (l : List ℕ) (m p s : ℕ) → line_row l ≡ good (Event m p s) → ReadsAs (bytes_said (Event m p s)) m p s
