-- Document 01, "Verdict and plan test": the test of a plan. What the records of a plan say as a network, its projections in
-- order, and what an answer of the test means. Assumes nothing.
use Rattle.std.specs.Prelude.{◌≡◌, ◌≢◌, Bool, true, false, not, List, [], ◌∷◌, ◌++◌, ℕ, zero, suc, ◌+◌, ◌-◌, ◌*◌, ◌<◌, ◌≤◌, eqb, ltb, pos, length, get_or, set, replicate, if◌then◌else◌}
use Rattle.plan.specs.Limits.{most_points}
use Rattle.plan.specs.APlan.{Kind, link, ordinary, wait, is, blank, gap_of, records_of}
use Rattle.plan.specs.ReplyNumbers.{check_of}
use Rattle.records.specs.declared.Record.{Record}
use Rattle.plan.specs.declared.Plan.{Plan}
use Rattle.network.specs.Projection.{Net, Edge}
use Rattle.network.specs.Passing.{Cycle, Good}
use Rattle.vee.specs.declared.Answer.{Answer}
use Rattle.vee.specs.declared.Answer.TheVariants as answer
use Rattle.rows.specs.Sheet.{by}
use Rattle.projection.specs.Judging.{FirstBad}

-- r is one of the records, of the kind k
pub record Has (rs : List Record) (k : Kind) (r : Record) : Type 0 where
  pub place : ℕ
  pub listed : place < length rs
  pub here : get_or rs place blank ≡ r
  pub kind : is k r ≡ true

-- (X, d, Y) is an ordinary record, d = u − d
pub record OrdinaryIn (rs : List Record) (X u d Y : ℕ) : Type 0 where
  pub what : Record
  pub has : Has rs ordinary what
  pub from : what.a ≡ X
  pub to : what.b ≡ Y
  pub up : (gap_of what.first).up ≡ u
  pub down : (gap_of what.first).down ≡ d

-- (A, x, y, C) is a link
pub record LinkIn (rs : List Record) (A x y C : ℕ) : Type 0 where
  pub what : Record
  pub has : Has rs link what
  pub from : what.a ≡ A
  pub to : what.b ≡ C
  pub least : what.first ≡ pos x
  pub most : what.second ≡ pos y

-- (B, C, w) is a wait
pub record WaitIn (rs : List Record) (B C w : ℕ) : Type 0 where
  pub what : Record
  pub has : Has rs wait what
  pub holds : what.a ≡ B
  pub until : what.b ≡ C
  pub long : what.first ≡ pos w

-- what the records say
abbrev pub net_of : List Record → Net
net_of rs = record { Ordinary = OrdinaryIn rs; Link = LinkIn rs; Wait = WaitIn rs }

-- a link's C and the durations that it can have
pub record Span : Type 0 where
  pub over : ℕ
  pub least : ℕ
  pub most : ℕ

abbrev pub span_of : Record → Span
span_of r = record { over = r.b; least = (gap_of r.first).up; most = (gap_of r.second).up }

-- l in front of ls, if so
abbrev pub in_front : Bool → Span → List Span → List Span
in_front true l ls = l ∷ ls
in_front false l ls = ls

-- the links of a plan, in file order
unfoldable pub spans : List Record → List Span
spans [] = []
spans (r ∷ rs) = in_front (is link r) (span_of r) (spans rs)

-- k durations of a link, from p up, each with all that follows it: the link changes slowest
unfoldable pub spread : (List ℕ → List (List ℕ)) → ℕ → ℕ → ℕ → List ℕ → List (List ℕ)
spread rest C p zero w = []
spread rest C p (suc k) w = rest (set w C p) ++ spread rest C (suc p) k w

-- the projections in order, the first link's duration changing slowest, each from x up to y; without links there is one.
-- A projection has a duration for each point, of which those of the links' C count
unfoldable pub projections : List Span → List ℕ → List (List ℕ)
projections [] w = w ∷ []
projections (l ∷ ls) w = spread (projections ls) l.over l.least (suc l.most - l.least) w

-- no durations yet
abbrev pub unset : List ℕ
unset = replicate most_points 0

-- how many projections there are
unfoldable pub many : List Span → ℕ
many [] = 1
many (l ∷ ls) = (suc l.most - l.least) * many ls

abbrev pub most_projections : ℕ
most_projections = 4096

-- what is found of the projections ws, tested in order, the first of them number i: all are good, and they end at number
-- j; or the first that is not has a cycle, or a first bad pair
pub data Found (E : List ℕ → ℕ → ℕ → ℕ → ℕ → Type 0) : ℕ → List (List ℕ) → Answer → Type 0 where
  all_good : {i : ℕ} → Found E i [] (answer.Yes i)
  good : {i : ℕ} {w : List ℕ} {ws : List (List ℕ)} {r : Answer} → Good (E w) → Found E (i + 1) ws r → Found E i (w ∷ ws) r
  cycle : {i : ℕ} {w : List ℕ} {ws : List (List ℕ)} → Cycle (E w) → Found E i (w ∷ ws) (answer.Cycle i)
  pair : {i X Y : ℕ} {w : List ℕ} {ws : List (List ℕ)} → FirstBad (E w) X Y → Found E i (w ∷ ws) (answer.Pair i X Y)

-- the edges of a plan at some durations
abbrev pub edges_of : List Record → List ℕ → ℕ → ℕ → ℕ → ℕ → Type 0
edges_of rs w = Edge (net_of rs) (by w)

-- the answer r to the plan p: its own refusal; 13 where there are more than 4,096 projections; else what is found
pub data Tested (p : Plan) : Answer → Type 0 where
  refused : (check_of p).number ≢ 0 → Tested p (answer.Refused (check_of p).number (check_of p).place)
  too_many : (check_of p).number ≡ 0 → most_projections < many (spans (records_of p)) → Tested p (answer.Refused 13 0)
  tested : {r : Answer} → (check_of p).number ≡ 0 → many (spans (records_of p)) ≤ most_projections
      → Found (edges_of (records_of p)) 0 (projections (spans (records_of p)) unset) r → Tested p r

-- document 01's number of an answer, 0 where nothing is refused, and the values that each case carries: a refusal's record,
-- how many projections were tried, and the number of the first that fails with its pair
abbrev pub answer_number : Answer → ℕ
answer_number (answer.Refused n i) = n
answer_number (answer.Yes k) = 0
answer_number (answer.Cycle i) = 0
answer_number (answer.Pair i X Y) = 0

abbrev pub answer_values : Answer → List ℕ
answer_values (answer.Refused n i) = i ∷ []
answer_values (answer.Yes k) = k ∷ []
answer_values (answer.Cycle i) = i ∷ []
answer_values (answer.Pair i X Y) = i ∷ X ∷ Y ∷ []

-- the number that the test gives: the plan's own, or 13
abbrev pub test_number : Plan → ℕ
test_number p =
    if not (eqb (check_of p).number 0) then (check_of p).number
    else (if ltb most_projections (many (spans (records_of p))) then 13
    else 0)
