-- Document 02, §12, "Plans without watched steps": the plan that is made of a plan with no links and no waits, in the words of the
-- request. The distances are those that the plan test computes (`TestOf` of `vee`): an entry is the distance and `bias`, or `none`
-- where no path joins the two points. Assumes nothing.
use Rattle.std.specs.Prelude.{Bool, not, ◌&&◌, ◌||◌, List, [], ◌∷◌, ◌++◌, ℕ, zero, suc, ◌+◌, eqb, ltb, take, if◌then◌else◌}
use Rattle.std.proofs.Math.IntN.{sub_ℕ}
use Rattle.plan.specs.Limits.{farthest}
use Rattle.plan.specs.APlan.{link, wait, is, some, points, records_of}
use Rattle.plan.specs.ReplyNumbers.{Reading, refusal, refused, taken, check_of}
use Rattle.plan.specs.Haul.{an_ordinary}
use Rattle.records.specs.declared.Record.{Record}
use Rattle.plan.specs.declared.Plan.{Plan}
use Rattle.tables.specs.Tables.{Table, bias, none}
use Rattle.vee.specs.PlanTest.{unset}
use Rattle.vee.specs.TestOf.{Rows, arcs, entry, distances, among, has_cycle}

-- a link or wait is present
abbrev pub is_step : Record → Bool
is_step r = is link r || is wait r

abbrev pub has_steps : List Record → Bool
has_steps rs = some is_step rs

-- the shortest distances between the points, over the ordinary records: a plan with no links has one projection
abbrev pub distances_of : List Record → Rows
distances_of rs = distances (points rs) (arcs rs unset rs)

-- the record of the pair (X, Y) whose distance is v: one where the two differ and a path joins them, with that distance as bound
abbrev pub record_of : ℕ → ℕ → ℕ → List Record
record_of X Y v = if not (eqb X Y) && ltb v none then an_ordinary X (sub_ℕ v bias) Y ∷ [] else []

-- what f gives at k numbers, from i on, in their order
unfoldable pub gathered : ℕ → ℕ → (ℕ → List Record) → List Record
gathered i zero f = []
gathered i (suc k) f = f i ++ gathered (suc i) k f

-- the records of n points by their distances, first point slowest
abbrev pub row_of : ℕ → Table → ℕ → List Record
row_of n f X = gathered 0 n (λ Y. record_of X Y (f X Y))

abbrev pub records_by : ℕ → Table → List Record
records_by n f = gathered 0 n (row_of n f)

-- the points of a plan, which are its first records: pond codes are carried over
abbrev pub points_in : List Record → List Record
points_in rs = take (points rs) rs

-- the plan that is made: the points, then a record for each pair of different points that a path joins
abbrev pub made_of : List Record → List Record
made_of rs = points_in rs ++ records_by (points rs) (entry (distances_of rs))

-- a distance v outside −100,000 to 100,000
abbrev pub too_far : ℕ → Bool
too_far v = ltb v none && (ltb (v + farthest) bias || ltb (bias + farthest) v)

-- some distance between n points is
abbrev pub some_too_far : ℕ → Table → Bool
some_too_far n f = among n (λ X. among n (λ Y. too_far (f X Y)))

-- the plan's own refusal; 61 if a link or wait is present; 62 if some cycle sums below zero; 63 if a distance is outside its
-- bounds; else the plan that is made. Refused or not, it is answered as a file that is read
unfoldable pub close_of : Plan → Reading
close_of p =
    if not (eqb (check_of p).number 0) then refused (check_of p)
    else (if has_steps (records_of p) then refused (refusal 61 0)
    else (if has_cycle (points (records_of p)) (distances_of (records_of p)) then refused (refusal 62 0)
    else (if some_too_far (points (records_of p)) (entry (distances_of (records_of p))) then refused (refusal 63 0)
    else taken (made_of (records_of p)))))
