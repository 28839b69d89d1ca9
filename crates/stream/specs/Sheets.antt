-- Document 01, "The printing program": the input, record by record. A sheet is what has come so far; each record gives the
-- next one, which says what there is to print. Assumes nothing.
use Rattle.std.specs.Prelude.{ℕ, ◌+◌, ◌*◌, ◌%◌, ◌^◌, min, Bool, true, not, ◌&&◌, List, [], ◌∷◌, length, take, ◌==◌, nat_lt, Ok, Err, if◌then◌else◌}
use Rattle.std.specs.List.{list_all}
use Rattle.plan.specs.Limits.{most_records, record_bytes}
use Rattle.plan.specs.APlan.{plan_of}
use Rattle.plan.specs.ReplyNumbers.{Reading, read_of}
use Rattle.plan.specs.declared.Plan.{Plan}
use Rattle.board.specs.Boards.{fresh}
use Rattle.board.specs.Events.{taken, take_of}
use Rattle.board.specs.declared.Taken.{Taken}
use Rattle.stream.specs.declared.sheet.Sheet.{Sheet}
use Rattle.stream.specs.declared.sheet.Stage.{Stage}
use Rattle.stream.specs.declared.sheet.Stage.TheVariants.{Planning, Playing, Over}
use Rattle.stream.specs.declared.sheet.News.{News}
use Rattle.stream.specs.declared.sheet.News.TheVariants as news

-- the stages: in the plan part; among the events; over, since the plan is refused
abbrev pub planning : Stage
planning = Planning

abbrev pub playing : Stage
playing = Playing

abbrev pub over : Stage
over = Over

-- what there is to print: nothing; a refused plan; a plan that is read; an event; an unfinished last record
abbrev pub nothing : News
nothing = news.Nothing

abbrev pub refused : News
refused = news.Refused

abbrev pub begun : News
begun = news.Begun

abbrev pub event : News
event = news.Event

abbrev pub tail : News
tail = news.Tail

-- the sheet s at another stage, with other news, plan and reply
abbrev pub turned : Sheet → Stage → News → Plan → Taken → Sheet
turned s stage n p t =
    record { stage = stage; news = n; length = s.length; events = s.events; last = s.last; plan = p; taken = t }

-- nothing has come yet
abbrev pub start : Sheet
start = record { stage = planning; news = nothing; length = 0; events = 0; last = 0; plan = plan_of []; taken = taken 0 0 fresh }

-- a record of sixteen bytes 255
abbrev pub is_mark : List ℕ → Bool
is_mark bytes = list_all (λ b. b == 255) bytes

-- so many bytes of a plan part of n are read: all, or, where it is longer than any plan, one record more than a plan may
-- have and what n leaves over, since reading then goes by the length alone
abbrev pub shown : ℕ → ℕ
shown n = if nat_lt n (record_bytes * (most_records + 1)) then n else record_bytes * (most_records + 1) + n % record_bytes

-- reading a plan part of n bytes at the front of a buffer
abbrev pub read_front : ℕ → List ℕ → Reading
read_front n buffer = read_of (take (min (shown n) (length buffer)) buffer)

abbrev pub begins : Sheet → Reading → Sheet
begins s (Ok p) = turned s playing begun p s.taken
begins s (Err x) = turned s over refused s.plan (taken x.number x.place s.taken.board)

-- the plan part has ended: its plan, or its refusal
abbrev pub begun_of : Sheet → List ℕ → Sheet
begun_of s buffer = begins s (read_front s.length buffer)

-- n bytes more of the plan part
abbrev pub longer : Sheet → ℕ → Sheet
longer s n =
    record { stage = s.stage; news = nothing; length = (s.length + n) % 2 ^ 64; events = s.events; last = s.last; plan = s.plan; taken = s.taken }

-- an event: the next one goes on from the board that is handed back
abbrev pub played_of : Sheet → List ℕ → Sheet
played_of s bytes =
    record { stage = s.stage; news = event; length = s.length; events = (s.events + 1) % 2 ^ 64; last = s.events; plan = s.plan; taken = take_of s.plan s.taken.board bytes }

abbrev pub quiet : Sheet → Sheet
quiet s = turned s s.stage nothing s.plan s.taken

-- a record more, at each stage
abbrev pub next_at : Stage → Sheet → List ℕ → List ℕ → Sheet
next_at Planning s bytes buffer = if is_mark bytes then begun_of s buffer else longer s record_bytes
next_at Playing s bytes buffer = played_of s bytes
next_at Over s bytes buffer = quiet s

unfoldable pub next_of : Sheet → List ℕ → List ℕ → Sheet
next_of s bytes buffer = next_at s.stage s bytes buffer

-- the input has ended, with n bytes of an unfinished record
abbrev pub ended_at : Stage → Sheet → ℕ → List ℕ → Sheet
ended_at Planning s n buffer = begun_of (longer s n) buffer
ended_at Playing s n buffer = if not (n == 0) then turned s s.stage tail s.plan s.taken else quiet s
ended_at Over s n buffer = quiet s

unfoldable pub ended_of : Sheet → ℕ → List ℕ → Sheet
ended_of s n buffer = ended_at s.stage s n buffer
