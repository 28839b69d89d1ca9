-- Document 01, "Board, windows, replies", and document 02, §6: the windows of a foreman's point q not yet done, from history: rs
-- are the plan's records, b the board. What a record says of q by the clock, the done set and the minutes is said in `Rules` of `lowhigh`.
-- High and H can be below zero, so both are kept 100,000 up; where there is none, they are past every minute. Assumes
-- nothing.
use Rattle.std.specs.Prelude.{Bool, not, ◌||◌, List, [], ◌∷◌, ℕ, ◌+◌, min, ltb, if◌then◌else◌, Option}
use Rattle.points.specs.Sets.{from, every}
use Rattle.plan.specs.Limits.{most_points, farthest}
use Rattle.records.specs.declared.Record.{Record}
use Rattle.lowhigh.specs.Rules as lowhigh
pub use Rattle.lowhigh.specs.Rules.{never}
unfoldable pub use Rattle.lowhigh.specs.Rules.{place_from, greatest, least}
use Rattle.board.specs.declared.Board.{Board}

-- the record r keeps q shut: an ordinary one from q with negative d to a point not done, or a wait on q whose A is not
-- done
abbrev pub shuts : List Record → Board → ℕ → Record → Bool
shuts rs b q r = lowhigh.shuts rs b.done q r

-- q is a foreman's point not yet done
abbrev pub foremans : List Record → Board → ℕ → Bool
foremans rs b q = lowhigh.foremans rs b.done q

-- the first record in file order that keeps q shut, if one does
abbrev pub shut_by : List Record → Board → ℕ → Option ℕ
shut_by rs b q = lowhigh.shut_by rs b.done q

-- its number in the plan's file, and 0 for none: record 0 is always a point's
abbrev pub holder : List Record → Board → ℕ → ℕ
holder rs b q = lowhigh.holder rs b.done q

-- open: no record keeps it shut
abbrev pub is_open : List Record → Board → ℕ → Bool
is_open rs b q = lowhigh.is_open rs b.done q

-- the minute before which r keeps q: Y − d for a record from q to a done Y, A + w for a wait on q whose link is running,
-- else 0
abbrev pub earliest : List Record → Board → ℕ → Record → ℕ
earliest rs b q r = lowhigh.earliest rs b.done b.minutes q r

-- Low: the largest of 0, the clock and what the records give
abbrev pub low : List Record → Board → ℕ → ℕ
low rs b q = lowhigh.low rs b.clock b.done b.minutes q

-- the minute past which r does not let q come, 100,000 up: X + d for a record to q from a done X, negative d included
abbrev pub bound : Board → ℕ → Record → ℕ
bound b q r = lowhigh.bound b.done b.minutes q r

-- High, 100,000 up
abbrev pub high : List Record → Board → ℕ → ℕ
high rs b q = lowhigh.high rs b.done b.minutes q

-- the least High of the open ones among some points
unfoldable pub least_high : List Record → Board → List ℕ → ℕ
least_high rs b [] = never
least_high rs b (q ∷ qs) = if is_open rs b q then min (high rs b q) (least_high rs b qs) else least_high rs b qs

-- H, 100,000 up
abbrev pub H : List Record → Board → ℕ
H rs b = least_high rs b (from 0 most_points)

-- the latest, 100,000 up: the lesser of H and clock + 100,000
abbrev pub latest_up : List Record → Board → ℕ
latest_up rs b = min (H rs b) (b.clock + farthest + farthest)

-- something is open
abbrev pub some_open : List Record → Board → Bool
some_open rs b = not (every (λ (q : ℕ). not (is_open rs b q)) (from 0 most_points))

-- every open Low is above H
abbrev pub all_above : List Record → Board → Bool
all_above rs b = every (λ (q : ℕ). not (is_open rs b q) || ltb (H rs b) (low rs b q + farthest)) (from 0 most_points)
