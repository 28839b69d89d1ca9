-- Document 01, "Board, windows, replies", and document 02, §6: what the records say of a foreman's point q not yet done, on
-- plain values: rs are the plan's records, then the clock, the set of done points and the minute of each. High can be below
-- zero, so it is kept 100,000 up; where there is none, it is past every minute. `board` says the same words of a board.
-- Assumes nothing.
use Rattle.std.specs.Prelude.{Bool, true, false, not, ◌&&◌, ◌||◌, List, [], ◌∷◌, ℕ, ◌+◌, ◌-◌, ◌^◌, min, max, eqb, ltb, if◌then◌else◌, Option, Some, None}
use Rattle.points.specs.Sets.{member}
use Rattle.plan.specs.Limits.{farthest}
use Rattle.plan.specs.APlan.{ordinary, wait, is, points, watched, link_to, gap_of}
unfoldable pub use Rattle.plan.specs.APlan.{place_from}
use Rattle.records.specs.declared.Record.{Record}
use Rattle.history.specs.History.{minute_in, runs}

-- the record r keeps q shut: an ordinary one from q with negative d to a point not done, or a wait on q whose A is not
-- done
abbrev pub shuts : List Record → ℕ → ℕ → Record → Bool
shuts rs done q r =
    eqb r.a q
    && ((is ordinary r && (ltb 0 (gap_of r.first).down && not (member done r.b)))
    || (is wait r && not (member done (link_to rs r.b).a)))

-- q is a foreman's point not yet done
abbrev pub foremans : List Record → ℕ → ℕ → Bool
foremans rs done q = ltb q (points rs) && (not (watched rs q) && not (member done q))

-- the first record in file order that keeps q shut, if one does
abbrev pub shut_by : List Record → ℕ → ℕ → Option ℕ
shut_by rs done q = place_from 0 (shuts rs done q) rs

abbrev pub is_nothing : Option ℕ → Bool
is_nothing None = true
is_nothing (Some i) = false

-- open: no record keeps it shut
abbrev pub is_open : List Record → ℕ → ℕ → Bool
is_open rs done q = foremans rs done q && is_nothing (shut_by rs done q)

-- a record's number in the plan's file, and 0 for none: record 0 is always a point's
abbrev pub number_at : Option ℕ → ℕ
number_at None = 0
number_at (Some i) = i

-- the number of the record that keeps q shut
abbrev pub holder : List Record → ℕ → ℕ → ℕ
holder rs done q = number_at (shut_by rs done q)

-- the record beside the number n of an event for the point q: beside 28 the one that keeps q shut, none where q is watched or
-- done; none beside any other number
abbrev pub beside : List Record → ℕ → ℕ → ℕ → ℕ
beside rs done q n = if eqb n 28 && foremans rs done q then holder rs done q else 0

-- the minute before which r keeps q: Y − d for a record from q to a done Y, A + w for a wait on q whose link is running,
-- else 0
abbrev pub earliest : List Record → ℕ → List ℕ → ℕ → Record → ℕ
earliest rs done minutes q r =
    if eqb r.a q && (is ordinary r && member done r.b) then minute_in minutes r.b + (gap_of r.first).down - (gap_of r.first).up
    else (if eqb r.a q && (is wait r && runs done (link_to rs r.b)) then minute_in minutes (link_to rs r.b).a + (gap_of r.first).up
    else 0)

-- the largest of what the records give
unfoldable pub greatest : (Record → ℕ) → List Record → ℕ
greatest f [] = 0
greatest f (r ∷ rs) = max (f r) (greatest f rs)

-- Low: the largest of 0, the clock and what the records give
abbrev pub low : List Record → ℕ → ℕ → List ℕ → ℕ → ℕ
low rs clock done minutes q = max clock (greatest (earliest rs done minutes q) rs)

-- past every minute
abbrev pub never : ℕ
never = 2 ^ 32 - 1

-- the minute past which r does not let q come, 100,000 up: X + d for a record to q from a done X, negative d included
abbrev pub bound : ℕ → List ℕ → ℕ → Record → ℕ
bound done minutes q r =
    if eqb r.b q && (is ordinary r && member done r.a) then minute_in minutes r.a + farthest + (gap_of r.first).up - (gap_of r.first).down
    else never

-- the least of what the records give
unfoldable pub least : (Record → ℕ) → List Record → ℕ
least f [] = never
least f (r ∷ rs) = min (f r) (least f rs)

-- High, 100,000 up
abbrev pub high : List Record → ℕ → List ℕ → ℕ → ℕ
high rs done minutes q = least (bound done minutes q) rs
