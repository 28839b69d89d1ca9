-- What a record does to a sheet, from what the code's calls answer. Assumes nothing.
use Rattle.std.proofs.Common.{◌≡◌, ℕ, ◌+◌, ◌%◌, ◌^◌, min, Bool, List, length, take, sym, refl, ap, ◌∙◌}
use Rattle.std.specs.Prelude.{if◌then◌else◌}
use Rattle.plan.specs.Limits.{record_bytes}
use Rattle.plan.specs.ReplyNumbers.{Reading, read_of}
use Rattle.board.specs.Events.{taken, take_of}
use Rattle.board.specs.Streams.{many_in, take_all_of}
use Rattle.board.specs.declared.Taken.{Taken}
use Rattle.stream.specs.Sheets.{shown, read_front, planning, nothing, event, played_of, is_mark, begun_of, longer, next_at, next_of, ended_at, ended_of}
use Rattle.stream.specs.Many.{all_played_of}
use Rattle.stream.specs.declared.sheet.Sheet.{Sheet}
use Rattle.stream.specs.declared.sheet.Stage.{Stage}

-- the part of the buffer that is read
pub part_read : (m : ℕ) (front : List ℕ) {r : Reading} {n k : ℕ} → r ≡ read_of (take n front) → n ≡ min k (length front) → k ≡ shown m → r ≡ read_front m front
part_read m front {r} {n} {k} er en ek = rw (er, en, ek)

-- an event
pub played_by : (s : Sheet) (bytes : List ℕ) {t : Taken} {n : ℕ} → t ≡ take_of s.plan s.taken.board bytes → n ≡ (s.events + 1) % 2 ^ 64
    → record { stage = s.stage; news = event; length = s.length; events = n; last = s.events; plan = s.plan; taken = t } ≡ played_of s bytes
played_by s bytes et en = rw (et, en)

-- some events at once
pub all_played_by : (s : Sheet) (bytes room : List ℕ) {t : Taken} {k n : ℕ} → t ≡ take_all_of s.plan s.taken.board bytes room → k ≡ many_in bytes room → n ≡ (s.events + k) % 2 ^ 64
    → record { stage = s.stage; news = nothing; length = s.length; events = n; last = s.last; plan = s.plan; taken = t } ≡ all_played_of s bytes room
all_played_by s bytes room et ek en = rw (et, en, ek)

-- what a stage does with a record, and with the end
pub next_here : (s : Sheet) (bytes front : List ℕ) {t : Stage} → s.stage ≡ t → next_at t s bytes front ≡ next_of s bytes front
unfolding next_of
next_here s bytes front e = ap (λ (t : Stage). next_at t s bytes front) (sym e)

pub next_planning : (s : Sheet) (bytes front : List ℕ) {b : Bool} → s.stage ≡ planning → b ≡ is_mark bytes → (if b then begun_of s front else longer s record_bytes) ≡ next_of s bytes front
next_planning s bytes front e m = ap (λ (b : Bool). if b then begun_of s front else longer s record_bytes) m ∙ next_here s bytes front e

pub ended_here : (s : Sheet) (n : ℕ) (front : List ℕ) {t : Stage} → s.stage ≡ t → ended_at t s n front ≡ ended_of s n front
unfolding ended_of
ended_here s n front e = ap (λ (t : Stage). ended_at t s n front) (sym e)
