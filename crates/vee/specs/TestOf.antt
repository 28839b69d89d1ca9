-- Document 01, "Verdict and plan test": the test of a plan, computed. A projection has three tables of distances: of all its
-- edges, of the negative ones and of the others. Each is closed by a pass for each point. Assumes nothing.
use Rattle.std.specs.Prelude.{Bool, true, false, not, ◌&&◌, List, [], ◌∷◌, ◌++◌, ℕ, zero, suc, min, ◌+◌, ◌-◌, eqb, ltb, leb, get_or, if◌then◌else◌, Option, None, Some}
use Rattle.plan.specs.APlan.{link, ordinary, wait, is, points, link_to, gap_of, records_of}
use Rattle.plan.specs.ReplyNumbers.{check_of}
use Rattle.records.specs.declared.Record.{Record}
use Rattle.plan.specs.declared.Plan.{Plan}
use Rattle.vee.specs.declared.Answer.{Answer}
use Rattle.vee.specs.declared.Answer.TheVariants as answer
use Rattle.tables.specs.declared.table.Part.{Part}
use Rattle.tables.specs.declared.table.Part.TheVariants.{All, Falling, Rising}
use Rattle.tables.specs.Tables.{Table, bias, none}
use Rattle.tables.specs.Steps.{takes_of}
use Rattle.rows.specs.Sheet.{by}
use Rattle.vee.specs.PlanTest.{spans, projections, many, unset, most_projections}

-- an edge of a projection, of the weight up − down
pub record Arc : Type 0 where
  pub from : ℕ
  pub to : ℕ
  pub up : ℕ
  pub down : ℕ

abbrev pub arc : ℕ → ℕ → ℕ → ℕ → Arc
arc X Y u d = record { from = X; to = Y; up = u; down = d }

-- the edges of the record r of a plan rs at the durations w: the ordinary records, A to C with p, C to A with −p, and each
-- wait as V to A with −min(w, p)
abbrev pub arcs_of : List Record → List ℕ → Record → List Arc
arcs_of rs w r =
    if is ordinary r then arc r.a r.b (gap_of r.first).up (gap_of r.first).down ∷ []
    else (if is link r then arc r.a r.b (by w r.b) 0 ∷ arc r.b r.a 0 (by w r.b) ∷ []
    else (if is wait r then arc r.a (link_to rs r.b).a 0 (min (gap_of r.first).up (by w r.b)) ∷ []
    else []))

-- the edges of some of the records
unfoldable pub arcs : List Record → List ℕ → List Record → List Arc
arcs rs w [] = []
arcs rs w (r ∷ more) = arcs_of rs w r ++ arcs rs w more

-- k values of f, from that of i on
unfoldable pub listed : {A : Type 0} → ℕ → ℕ → (ℕ → A) → List A
listed i zero f = []
listed i (suc k) f = f i ∷ listed (suc i) k f

-- a table as rows, and the rows of a table of n points
abbrev pub Rows : Type 0
Rows = List (List ℕ)

abbrev pub entry : Rows → Table
entry t X Y = get_or (get_or t X []) Y none

abbrev pub rows_of : ℕ → Table → Rows
rows_of n f = listed 0 n (λ X. listed 0 n (f X))

-- the lesser of v and what was there, if v is offered
abbrev pub offered : Bool → ℕ → ℕ → ℕ
offered true v a = min v a
offered false v a = a

-- the least weight of an edge of the part from X to Y; each point is at 0 from itself
unfoldable pub at_once : Part → List Arc → Table
at_once b [] X Y = if eqb X Y then bias else none
at_once b (e ∷ es) X Y = offered (takes_of b e.up e.down && (eqb e.from X && eqb e.to Y)) (bias + e.up - e.down) (at_once b es X Y)

-- the better of a and of the way by b and then c
abbrev pub better : ℕ → ℕ → ℕ → ℕ
better a b c = offered (ltb b none && ltb c none) (b + c - bias) a

-- the pass at the point k of n
abbrev pub pass : ℕ → ℕ → Rows → Rows
pass n k t = rows_of n (λ X Y. better (entry t X Y) (entry t X k) (entry t k Y))

-- j passes, from that at k on, as long as the point is not below zero from itself to itself
unfoldable pub passes : ℕ → ℕ → ℕ → Rows → Rows
passes n k zero t = t
passes n k (suc j) t = if ltb (entry t k k) bias then t else passes n (suc k) j (pass n k t)

-- the distances over the edges of a part: over all, over the negative ones, over the others
abbrev pub closed : ℕ → Part → List Arc → Rows
closed n b es = passes n 0 n (rows_of n (at_once b es))

abbrev pub distances : ℕ → List Arc → Rows
distances n es = closed n All es

abbrev pub falling : ℕ → List Arc → Rows
falling n es = closed n Falling es

abbrev pub rising : ℕ → List Arc → Rows
rising n es = closed n Rising es

-- the first of the k numbers from i on that is so, i + k where none is
unfoldable pub first_from : ℕ → ℕ → (ℕ → Bool) → ℕ
first_from i zero so = i
first_from i (suc k) so = if so i then i else first_from (suc i) k so

-- the first number below n that is so, n where none is; and whether one is
abbrev pub first : ℕ → (ℕ → Bool) → ℕ
first n so = first_from 0 n so

abbrev pub among : ℕ → (ℕ → Bool) → Bool
among n so = ltb (first n so) n

-- some point is below zero from itself to itself
abbrev pub has_cycle : ℕ → Rows → Bool
has_cycle n t = among n (λ X. ltb (entry t X X) bias)

-- a way of a and then b is there, and no longer than v
abbrev pub is_way : ℕ → ℕ → ℕ → Bool
is_way a b v = ltb a none && (ltb b none && leb (a + b) (v + bias))

-- X is joined to Y, but by no way down to some M and then up that is as short, by the distances d over all edges, g over
-- the negative ones and r over the others
abbrev pub misses : ℕ → Rows → Rows → Rows → ℕ → ℕ → Bool
misses n d g r X Y = ltb (entry d X Y) none && not (among n (λ M. is_way (entry g X M) (entry r M Y) (entry d X Y)))

-- the first such pair, X slowest
abbrev pub pair_of : ℕ → (ℕ → ℕ → Bool) → Option (ℕ × ℕ)
pair_of n bad = let X = first n (λ X. among n (bad X)) in if ltb X n then Some (X, first n (bad X)) else None

abbrev pub answer_of : ℕ → Option (ℕ × ℕ) → Answer
answer_of i None = answer.Yes (i + 1)
answer_of i (Some p) = answer.Pair i p.0 p.1

-- what is found of the projection number i, by its edges: a cycle, a pair, or nothing
unfoldable pub judge_of : ℕ → ℕ → List Arc → Answer
judge_of n i es =
    let d = distances n es in
    if has_cycle n d then answer.Cycle i
    else answer_of i (pair_of n (misses n d (falling n es) (rising n es)))

-- a yes so far goes on
abbrev pub onward : Answer → (ℕ → Answer) → Answer
onward (answer.Refused k i) next = answer.Refused k i
onward (answer.Yes j) next = next j
onward (answer.Cycle i) next = answer.Cycle i
onward (answer.Pair i X Y) next = answer.Pair i X Y

-- the projections ws in order, the first of them number i
unfoldable pub test_from : List Record → ℕ → List (List ℕ) → Answer
test_from rs i [] = answer.Yes i
test_from rs i (w ∷ ws) = onward (judge_of (points rs) i (arcs rs w rs)) (λ j. test_from rs j ws)

-- the plan's own refusal; 13 where there are more than 4,096 projections; else its projections in order
unfoldable pub test_of : Plan → Answer
test_of p =
    if not (eqb (check_of p).number 0) then answer.Refused (check_of p).number (check_of p).place
    else (if ltb most_projections (many (spans (records_of p))) then answer.Refused 13 0
    else test_from (records_of p) 0 (projections (spans (records_of p)) unset))
