-- Document 02, §5: what is kept for a point q, each as a count, largest or least over the whole plan, on plain values: rs are the plan's
-- records, then the set of done points and the minute of each. Assumes nothing.
use Rattle.std.specs.Prelude.{Bool, ◌&&◌, ◌||◌, List, ℕ, ◌+◌, ◌-◌, eqb, ltb, if◌then◌else◌}
use Rattle.points.specs.Sets.{member}
use Rattle.plan.specs.Limits.{farthest}
use Rattle.plan.specs.APlan.{ordinary, wait, is, how_many, link_to, gap_of}
use Rattle.records.specs.declared.Record.{Record}
use Rattle.history.specs.History.{minute_in, runs}
use Rattle.lowhigh.specs.Rules.{shuts, greatest, least, bound, never}

-- how many records still hold q shut
abbrev pub holds_of : List Record → ℕ → ℕ → ℕ
holds_of rs done q = how_many (shuts rs done q) rs

-- the minute before which r, an ordinary record to a done point, keeps q
abbrev pub after : ℕ → List ℕ → ℕ → Record → ℕ
after done minutes q r =
    if eqb r.a q && (is ordinary r && member done r.b) then minute_in minutes r.b + (gap_of r.first).down - (gap_of r.first).up
    else 0

-- the minute before which r, a wait on a running link, keeps q
abbrev pub awaits : List Record → ℕ → List ℕ → ℕ → Record → ℕ
awaits rs done minutes q r =
    if eqb r.a q && (is wait r && runs done (link_to rs r.b)) then minute_in minutes (link_to rs r.b).a + (gap_of r.first).up
    else 0

-- the window so far: Low by the ordinary records
abbrev pub low_of : List Record → ℕ → List ℕ → ℕ → ℕ
low_of rs done minutes q = greatest (after done minutes q) rs

-- Low by the running waits
abbrev pub wait_of : List Record → ℕ → List ℕ → ℕ → ℕ
wait_of rs done minutes q = greatest (awaits rs done minutes q) rs

-- High, 100,000 up
abbrev pub high_of : List Record → ℕ → List ℕ → ℕ → ℕ
high_of rs done minutes q = least (bound done minutes q) rs

-- ---- what one more done point z changes

-- r is a record or a wait that holds q shut until z is done
abbrev pub frees : List Record → ℕ → ℕ → Record → Bool
frees rs z q r =
    eqb r.a q
    && ((is ordinary r && (ltb 0 (gap_of r.first).down && eqb r.b z)) || (is wait r && eqb (link_to rs r.b).a z))

-- what z done at t gives by r before which, and past which, q does not come
abbrev pub after_by : ℕ → ℕ → ℕ → Record → ℕ
after_by t z q r = if eqb r.a q && (is ordinary r && eqb r.b z) then t + (gap_of r.first).down - (gap_of r.first).up else 0

abbrev pub bound_by : ℕ → ℕ → ℕ → Record → ℕ
bound_by t z q r =
    if eqb r.b q && (is ordinary r && eqb r.a z) then t + farthest + (gap_of r.first).up - (gap_of r.first).down else never

-- what z done at t gives by r, a wait on a link that starts at z, before which q does not come
abbrev pub starts_by : List Record → ℕ → ℕ → ℕ → Record → ℕ
starts_by rs t z q r = if eqb r.a q && (is wait r && eqb (link_to rs r.b).a z) then t + (gap_of r.first).up else 0

-- ---- the fresh board

-- r holds q shut before anything is done
abbrev pub holds_first : ℕ → Record → Bool
holds_first q r = eqb r.a q && ((is ordinary r && ltb 0 (gap_of r.first).down) || is wait r)
