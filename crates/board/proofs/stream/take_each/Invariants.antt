-- `board::stream::take_each` meets its contract. Assumes nothing.
use mathlib.Core.Path.{◌≡◌}
use Prim.Native.Nat.{◌≤◌, ◌*◌}
use lib.ListN.{length}
use Rattle.plan.specs.Limits.{record_bytes}
use Rattle.board.specs.Streams.{said_numbers}
use Rattle.board.specs.InsideReplies.{Ready}
use Rattle.board.proofs.Streaming.{Went}
use Rattle.board.proofs.stream.take_each.Given as goal

abbrev pub invariant-loop-i : goal.invariant-loop-i
invariant-loop-i l =
    (l.i ≤ l.n) × (record_bytes * l.n ≤ length l.events) × (said_numbers * l.n ≤ length l.initial.room) × (length l.room ≡ length l.initial.room) × Ready l.plan l.now l.links ×
    Went l.plan l.initial.now l.n l.events l.initial.room l.i l.now l.room
