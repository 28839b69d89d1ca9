-- The record of a row: the code has each of its parts, and a line shows of it what it shows of the plan's own record. And the line of an
-- event is that of the board that is kept. Assumes nothing.
use mathlib.Core.Path.{◌≡◌, refl}
use mathlib.Core.Bool.{Bool, true, false}
use mathlib.Core.List.{List}
use Prim.Native.Nat.{ℕ, ◌+◌, ◌-◌, ◌%◌, ◌^◌, ◌<◌, ◌≤◌, min}
use native.Mathlib.Omega.{arith}
use lib.IntN.{ℤ, pos, negsuc}
use lib.ListN.{length, get_or}
use lib.Signed.{mag}
use borrow.Author.Tests.{lt-ltb, le-ltb, eqb-true}
use Rattle.numbers.specs.Numbers.{gap_of}
use Rattle.points.specs.Sets.{count_of}
use Rattle.kept.specs.Rooms.{clock_at, done_at}
use Rattle.records.specs.Held.{Held}
use Rattle.records.specs.Records.{link, is}
use Rattle.records.specs.declared.Record.{Record}
use Rattle.plan.specs.APlan.{blank}
use Rattle.plan.specs.Limits.{most_records}
use Rattle.rows.specs.Sheet.{row_at}
use Rattle.rows.specs.Layout.{LaidOut}
use Rattle.rows.specs.declared.sheet.Row.{Row}
use Rattle.board.specs.declared.Taken.{Taken}
use Rattle.engine.specs.Takes.{BoardIn}
use Rattle.text.specs.Lines.{numbers_line, event_line, record_pieces}
use Rattle.lines.specs.declared.Line.{Line}
use Rattle.places.specs.Places.{joined, reason_of, reason_at, kept_line}

-- the record that the code puts together
pub reason_by : (x : Row) {k a b : ℕ} {d : ℤ} → k ≡ x.kind % 256 → a ≡ x.from % 256 → b ≡ x.over % 256 → d ≡ joined x.first x.second
    → record { kind = k; a = a; b = b; first = d; second = pos 0; code = 0 } ≡ reason_of x
reason_by x e f g h = rw (e, f, g, h)

-- a number from its own parts
pub joined_again : (z : ℤ) → mag z < 2 ^ 31 → joined (gap_of z).up (gap_of z).down ≡ z
joined_again (pos n) h =
    let e : (n % 2 ^ 32 + (2 ^ 32 - 0 % 2 ^ 32)) % 2 ^ 32 ≡ n = omega arith in
    rw e (rw (lt-ltb n (2 ^ 31) h))
joined_again (negsuc n) h =
    let e : (0 % 2 ^ 32 + (2 ^ 32 - (n + 1) % 2 ^ 32)) % 2 ^ 32 ≡ 2 ^ 32 - 1 - n = omega arith in
    let f : 2 ^ 32 - 1 - (2 ^ 32 - 1 - n) ≡ n = omega arith in
    rw e (rw (le-ltb (2 ^ 32 - 1 - n) (2 ^ 31) (omega arith), f))

-- the line that the code makes of an event
pub kept_line_by : (kept : List ℕ) (k n : ℕ) {m : ℕ} {l : Line} → m ≡ count_of (get_or kept done_at 0) → l ≡ numbers_line k n (get_or kept clock_at 0) m → l ≡ kept_line kept k n
kept_line_by kept k n e f = rw (f, e)

-- the line of an event is that of the board that is kept
pub kept_line_is : (kept : List ℕ) (k : ℕ) (t : Taken) → BoardIn kept t.board → kept_line kept k t.number ≡ event_line k t
kept_line_is kept k t b = rw (b.clock, b.done)

-- of a link a line shows nothing, so its first number does not count
pieces_by : (q r : Record) → q.kind ≡ r.kind → q.a ≡ r.a → q.b ≡ r.b → (is link r ≡ false → q.first ≡ r.first) → record_pieces q ≡ record_pieces r
pieces_by q r e f g h = go (is link r) refl
  where
    go : (b : Bool) → is link r ≡ b → record_pieces q ≡ record_pieces r
    go true l = let k : r.kind ≡ 2 = eqb-true r.kind 2 l in rw (e, k)
    go false l = rw (e, f, g, h l)

byte_again : (n : ℕ) {m : ℕ} → n ≡ m → m < 256 → n % 256 ≡ m
byte_again n e h = omega arith

-- A line shows of a row's record what it shows of the plan's record.
pub shows_same : (rs : List Record) (rows : List ℕ) → LaidOut rs rows → length rs ≤ most_records → (n : ℕ) → n < length rs → Held (get_or rs n blank)
    → record_pieces (reason_at rows n) ≡ record_pieces (get_or rs n blank)
shows_same rs rows laid few n h d =
    let r = get_or rs n blank in
    let x = laid.rows n h in
    let e : min n (most_records - 1) ≡ n = omega arith in
    rw e
    (pieces_by (reason_of (row_at rows n)) r (byte_again _ x.kind d.kind) (byte_again _ x.from d.a) (byte_again _ x.over d.b)
    (λ l. rw (x.first, x.second) (rw l (joined_again r.first d.first))))
