-- The text is lines, none of which exceeds 75 octets. Assumes nothing.
use mathlib.Core.Path.{◌≡◌, refl, sym, ◌∙◌}
use mathlib.Core.Bool.{Bool, true, false, cond, ◌&&◌}
use mathlib.Core.List.{List, [], ◌∷◌, ◌++◌, append_assoc, append-nil}
use Prim.Native.Nat.{ℕ, zero, suc, ◌+◌, ◌/◌, ◌%◌, ◌≤◌}
use native.Mathlib.Omega.{arith}
use borrow.Author.Tests.{le-leb}
use lib.Dec.{leb, ltb}
use lib.ListN.{length, length-append}
use Rattle.numbers.specs.Fits.{All}
use Rattle.values.specs.Ascii.{ascii}
use Rattle.lines.specs.Text.{decimal, digits}
use Rattle.lines.proofs.Adding.{few_digits}
use Rattle.records.specs.declared.Record.{Record}
use Rattle.plan.specs.APlan.{points}
use Rattle.board.specs.Boards.{minute}
use Rattle.board.specs.declared.Board.{Board}
use Rattle.dates.specs.declared.Stamp.{Stamp}
use Rattle.dates.specs.Gregorian.{shown}
use Rattle.moments.specs.Event.{line, digit, uid_line, summary_line, event_text}
use Rattle.moments.specs.Inside.{moment_bytes}
use Rattle.calendar.specs.Calendars.{stamp_text, pond_code, moment_of, events_of, calendar_text}
use Rattle.calendar.specs.Promises.{most_octets, all_plain, IsLine, lines_text, OfLines, ShortLines}

-- ---- characters

plain_append : (s t : List ℕ) → all_plain s ≡ true → all_plain t ≡ true → all_plain (s ++ t) ≡ true
unfolding all_plain
plain_append [] t e f = f
plain_append (c ∷ s) t e f = go (leb 32 c && leb c 126) (all_plain s) (all_plain (s ++ t)) e (λ h. plain_append s t h f)
  where
    go : (x y z : Bool) → (x && y) ≡ true → (y ≡ true → z ≡ true) → (x && z) ≡ true
    go true y z h k = k h
    go false y z h k = h

plain_digit : (n : ℕ) (s : List ℕ) → all_plain s ≡ true → all_plain (digit n ∷ s) ≡ true
unfolding all_plain
plain_digit n s e = rw (le-leb 32 (48 + n % 10) (omega arith), le-leb (48 + n % 10) 126 (omega arith)) e

plain_none : all_plain [] ≡ true
unfolding all_plain
plain_none = refl

plain_digits : (k n : ℕ) → all_plain (digits k n) ≡ true
unfolding digits
plain_digits zero n = plain_none
plain_digits (suc k) n =
    plain_append (cond (ltb n 10) [] (digits k (n / 10))) ((48 + n % 10) ∷ []) (by_test (ltb n 10) (plain_digits k (n / 10))) (plain_digit n [] plain_none)
  where
    by_test : (b : Bool) → all_plain (digits k (n / 10)) ≡ true → all_plain (cond b [] (digits k (n / 10))) ≡ true
    by_test true h = plain_none
    by_test false h = h

plain_number : (n : ℕ) → all_plain (decimal n) ≡ true
plain_number n = plain_digits 20 n

plain_T : (s : List ℕ) → all_plain s ≡ true → all_plain (84 ∷ s) ≡ true
unfolding all_plain
plain_T s e = e

plain_end : all_plain (ascii "00Z") ≡ true
unfolding all_plain
plain_end = refl

pub plain_moment : (s : Stamp) → all_plain (stamp_text s) ≡ true
plain_moment s =
    plain_digit (s.year / 10 / 10 / 10) _ (plain_digit (s.year / 10 / 10) _ (plain_digit (s.year / 10) _ (plain_digit s.year _
    (plain_digit (s.month / 10) _ (plain_digit s.month _ (plain_digit (s.day / 10) _ (plain_digit s.day _
    (plain_T _ (plain_digit (s.hour / 10) _ (plain_digit s.hour _ (plain_digit (s.minute / 10) _ (plain_digit s.minute _ plain_end))))))))))))

-- ---- lines

lines_append : (ls ms : List (List ℕ)) → lines_text (ls ++ ms) ≡ lines_text ls ++ lines_text ms
unfolding lines_text
lines_append [] ms = refl
lines_append (l ∷ ls) ms = rw (lines_append ls ms) (sym (append_assoc (line l) (lines_text ls) (lines_text ms)))

all_append : (ls ms : List (List ℕ)) → All IsLine ls → All IsLine ms → All IsLine (ls ++ ms)
all_append [] ms a b = b
all_append (l ∷ ls) ms a b = (a.0, all_append ls ms a.1 b)

-- lines and then more lines
and_then : {s t : List ℕ} → OfLines s → OfLines t → OfLines (s ++ t)
and_then a b =
    record {
      lines = a.lines ++ b.lines;
      each = all_append a.lines b.lines a.each b.each;
      same = (λ i. a.same i ++ b.same i) ∙ sym (lines_append a.lines b.lines);
    }

no_lines : OfLines []
unfolding lines_text
no_lines = record { lines = []; each = tt; same = refl }

-- one line
a_line : (l : List ℕ) → length l ≤ most_octets → all_plain l ≡ true → OfLines (line l)
unfolding lines_text
a_line l h e = record { lines = l ∷ []; each = (record { few = h; plain = e }, tt); same = sym (append-nil (line l)) }

-- a word and then more
a_word : (w s : List ℕ) → length w + length s ≤ most_octets → all_plain w ≡ true → all_plain s ≡ true → OfLines (line (w ++ s))
a_word w s h e f = a_line (w ++ s) (omega (arith, length-append w s)) (plain_append w s e f)

module _ (p code : ℕ) (m : List ℕ) (long : length m ≡ moment_bytes) (plain : all_plain m ≡ true) where
  uid_line_lem : OfLines (uid_line p m)
  unfolding all_plain
  uid_line_lem =
      a_line (ascii "UID:" ++ decimal p ++ ascii "-" ++ m)
      (omega (arith, length-append (decimal p ++ ascii "-") m, length-append (decimal p) (ascii "-"), few_digits p))
      (plain_append (ascii "UID:" ++ decimal p ++ ascii "-") m (plain_append (ascii "UID:" ++ decimal p) (ascii "-") (plain_append (ascii "UID:") (decimal p) refl (plain_number p)) refl) plain)

  summary_line_lem : OfLines (summary_line p code)
  unfolding all_plain
  summary_line_lem =
      a_line (ascii "SUMMARY:Point " ++ decimal p ++ ascii " " ++ decimal code)
      (omega (arith, length-append (decimal p ++ ascii " ") (decimal code), length-append (decimal p) (ascii " "), few_digits p, few_digits code))
      (plain_append (ascii "SUMMARY:Point " ++ decimal p ++ ascii " ") (decimal code) (plain_append (ascii "SUMMARY:Point " ++ decimal p) (ascii " ") (plain_append (ascii "SUMMARY:Point ") (decimal p) refl (plain_number p)) refl) (plain_number code))

  event_lines_lem : OfLines (event_text p code m)
  unfolding all_plain event_text
  event_lines_lem =
      and_then
      (and_then
      (and_then
      (and_then
      (and_then (a_line (ascii "BEGIN:VEVENT") (omega arith) refl) uid_line_lem)
      (a_word (ascii "DTSTAMP:") m (omega arith) refl plain))
      (a_word (ascii "DTSTART:") m (omega arith) refl plain))
      summary_line_lem)
      (a_line (ascii "END:VEVENT") (omega arith) refl)

module _ (rs : List Record) (b : Board) (origin : Stamp) where
  events_lines : (n : ℕ) → OfLines (events_of rs b origin n)
  unfolding events_of
  events_lines zero = no_lines
  events_lines (suc n) = and_then (events_lines n) (event_lines_lem n (pond_code rs n) (moment_of b origin n) refl (plain_moment (shown origin (minute b n))))

pub short_lines : ShortLines
unfolding calendar_text all_plain
short_lines rs b origin =
    and_then
    (and_then
    (and_then
    (and_then (a_line (ascii "BEGIN:VCALENDAR") (omega arith) refl) (a_line (ascii "VERSION:2.0") (omega arith) refl))
    (a_line (ascii "PRODID:-//Ponds//Sheets//EN") (omega arith) refl))
    (events_lines rs b origin (points rs)))
    (a_line (ascii "END:VCALENDAR") (omega arith) refl)
