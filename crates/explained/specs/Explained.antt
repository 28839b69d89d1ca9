-- Why the plan test says no, document 01, "Verdict and plan test", in numbers and steps. A length is up − down. Which shortest way and
-- which cycle is shown is open: every one is right. Assumes nothing.
use Rattle.std.specs.Prelude.{◌≡◌, Bool, true, false, List, [], ◌∷◌, ℕ, ◌<◌, length, get_or, Option, None, Some}
use Rattle.numbers.specs.Fits.{All}
use Rattle.plan.specs.APlan.{blank, records_of}
use Rattle.records.specs.declared.Record.{Record}
use Rattle.plan.specs.declared.Plan.{Plan}
use Rattle.network.specs.Walks.{Walk, Vee}
use Rattle.vee.specs.declared.Answer.{Answer}
use Rattle.vee.specs.declared.Answer.TheVariants as answer
use Rattle.vee.specs.PlanTest.{spans, projections, unset, edges_of, Tested}
use Rattle.vee.specs.TestOf.{Arc, arc, arcs_of}
use Rattle.lengths.specs.declared.Length.{Length}
use Rattle.lengths.specs.Lengths.{length_of, Least}
use Rattle.ways.specs.declared.steps.Step.{Step}
use Rattle.ways.specs.Steps.{Leads, ups, downs, way_as}
use Rattle.explained.specs.declared.reasons.Why.{Why}
use Rattle.explained.specs.declared.Explanation.{Explanation}
use Rattle.explained.specs.Drives.{drives_of, drives_as}
use Rattle.explained.specs.Reasons.{why_as}

-- the durations of a plan's projection number i
abbrev pub durations_of : Plan → ℕ → List ℕ
durations_of p i = get_or (projections (spans (records_of p)) unset) i []

-- a is one of the list
pub data OneOf (a : Arc) : List Arc → Type 0 where
  here : {es : List Arc} → OneOf a (a ∷ es)
  later : {b : Arc} {es : List Arc} → OneOf a es → OneOf a (b ∷ es)

-- a step is an edge of the record that it names, at the durations w: of a link there or back, of a wait with −min(w, p)
pub record StepOf (rs : List Record) (w : List ℕ) (e : Step) : Type 0 where
  pub listed : e.row < length rs
  pub edge : OneOf (arc e.from e.to e.up e.down) (arcs_of rs w (get_or rs e.row blank))

-- an answer of the test that says no
abbrev pub says_no : Answer → Bool
says_no (answer.Refused n i) = false
says_no (answer.Yes k) = false
says_no (answer.Cycle i) = true
says_no (answer.Pair i X Y) = true

abbrev pub explanation_as : Answer → Why → Explanation
explanation_as r y = record { answer = r; why = y }

-- nothing is to be explained
abbrev pub nothing_more : Answer → Explanation
nothing_more r = explanation_as r (record { drives = drives_as []; shortest = None; allowed = None; way = way_as []; sum = None })

-- the answer to the plan p: what the test says, and where that is no, the drives of the projection that fails. For a cycle, steps that
-- lead from a point back to it and come to less than zero; for a pair, the shortest length, the best that a walk of negative edges and
-- then non-negative ones has, and steps that lead from X to Y and come to the shortest
pub data Explained (p : Plan) : Explanation → Type 0 where
  plainly : {r : Answer} → Tested p r → says_no r ≡ false → Explained p (nothing_more r)
  by_cycle : {i : ℕ} (at : ℕ) (es : List Step) → Tested p (answer.Cycle i) → All (StepOf (records_of p) (durations_of p i)) es → Leads es at at → ups es < downs es
      → Explained p (explanation_as (answer.Cycle i) (why_as (drives_of (durations_of p i) (records_of p)) None None es))
  by_pair : {i X Y : ℕ} (es : List Step) {best : Option Length} → Tested p (answer.Pair i X Y) → All (StepOf (records_of p) (durations_of p i)) es → Leads es X Y
      → Least (Walk (edges_of (records_of p) (durations_of p i)) X Y) (Some (length_of (ups es) (downs es))) → Least (Vee (edges_of (records_of p) (durations_of p i)) X Y) best
      → Explained p (explanation_as (answer.Pair i X Y) (why_as (drives_of (durations_of p i) (records_of p)) (Some (length_of (ups es) (downs es))) best es))
