-- A plan file as a listing: one line for each record, in file order, as `listing` takes it. Numbers are decimal without zeros in front.
-- Assumes nothing.
use Rattle.std.specs.Prelude.{◌≡◌, Ok, List, [], ◌∷◌, ◌++◌, ℕ, ◌≤◌, length, drop, if◌then◌else◌}
use Rattle.numbers.specs.Fits.{All, IsByte}
use Rattle.records.specs.Records.{point, link, ordinary, wait, is}
use Rattle.records.specs.declared.Record.{Record}
use Rattle.plan.specs.APlan.{records_of}
use Rattle.plan.specs.ReplyNumbers.{read_of, number_in, plan_in}
use Rattle.lines.specs.Text.{line_of, text_of}
use Rattle.lines.specs.declared.Line.{Line}
use Rattle.lines.specs.declared.Piece.TheVariants.{Name, Number}
use Rattle.text.specs.Words.{point_word, ordinary_word, wait_word}
use Rattle.text.specs.Lines.{signed_piece}
use Rattle.listing.specs.Listing.{answer_of, buffer_of}

abbrev pub link_word : ℕ
link_word = 0x6b6e696c

-- point NUMBER POND
abbrev pub point_text : Record → List ℕ
point_text r = text_of (Name point_word) (Number r.a ∷ Number r.code ∷ [])

-- link A X Y C
abbrev pub link_text : Record → List ℕ
link_text r = text_of (Name link_word) (Number r.a ∷ signed_piece r.first ∷ signed_piece r.second ∷ Number r.b ∷ [])

-- ordinary X D Y
abbrev pub ordinary_text : Record → List ℕ
ordinary_text r = text_of (Name ordinary_word) (Number r.a ∷ signed_piece r.first ∷ Number r.b ∷ [])

-- wait V C W
abbrev pub wait_text : Record → List ℕ
wait_text r = text_of (Name wait_word) (Number r.a ∷ Number r.b ∷ signed_piece r.first ∷ [])

-- what the last two kinds, and none, are typed as
abbrev pub other_text : Record → List ℕ
other_text r = if is ordinary r then ordinary_text r else (if is wait r then wait_text r else [])

-- the text of a record's line
abbrev pub record_text : Record → List ℕ
record_text r = if is point r then point_text r else (if is link r then link_text r else other_text r)

abbrev pub link_line : Record → Line
link_line r = line_of (link_text r)

abbrev pub other_line : Record → Line
other_line r = line_of (other_text r)

abbrev pub record_line : Record → Line
record_line r = line_of (record_text r)

-- the listing of some records
unfoldable pub listing_of : List Record → List ℕ
listing_of [] = []
listing_of (r ∷ rs) = record_text r ++ listing_of rs

-- The listing of a plan file packs to the same bytes: nothing is refused, as many bytes are written as the file has, and they are the
-- file's, where there is room for them.
abbrev pub PacksBack : Type 0
PacksBack =
    (s out : List ℕ) → All IsByte s → number_in (read_of s) ≡ 0 → length s ≤ length out
    → (answer_of (listing_of (records_of (plan_in (read_of s)))) out ≡ Ok (length s))
    × (buffer_of (listing_of (records_of (plan_in (read_of s)))) out ≡ s ++ drop (length s) out)
