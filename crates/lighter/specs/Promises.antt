-- Document 02, §11, "A lighter plan, with a list of what went": what is promised of the lighter plan, in the words of the request. p is
-- any plan, q the lighter plan that is made of it and ds the numbers of the records dropped. Assumes nothing.
use Rattle.std.specs.Prelude.{◌≡◌, Bool, true, false, List, [], ◌∷◌, ◌++◌, ℕ, suc, min, ◌+◌, ◌≤◌, ◌<◌, length, get_or, take, drop, Result, Ok}
use Rattle.plan.specs.APlan.{ordinary, is, blank, records_of}
use Rattle.plan.specs.ReplyNumbers.{check_of}
use Rattle.plan.specs.Held.{HeldPlan}
use Rattle.records.specs.declared.Record.{Record}
use Rattle.plan.specs.declared.Plan.{Plan}
use Rattle.plan.specs.declared.Refusal.{Refusal}
use Rattle.network.specs.Projection.{InBounds}
use Rattle.network.specs.Passing.{Passes}
use Rattle.vee.specs.PlanTest.{OrdinaryIn, LinkIn, WaitIn, net_of}
use Rattle.lighter.specs.declared.Lighter.{Lighter}
use Rattle.lighter.specs.Lighter.{SameInEach, MayGo, LighterOf}

-- the records that are not ordinary, in their order
abbrev pub unless : Bool → Record → List Record → List Record
unless true r rs = rs
unless false r rs = r ∷ rs

unfoldable pub others : List Record → List Record
others [] = []
others (r ∷ rs) = unless (is ordinary r) r (others rs)

-- some records with r put in at place i
abbrev pub put_in : ℕ → Record → List Record → List Record
put_in i r rs = take i rs ++ (r ∷ drop i rs)

-- the records of rs with the numbers ds put back into qs, each at its number, the lowest first
unfoldable pub put_back : List Record → List ℕ → List Record → List Record
put_back rs [] qs = qs
put_back rs (d ∷ ds) qs = put_back rs ds (put_in d (get_or rs d blank) qs)

-- the numbers rise, and each is that of an ordinary record of rs; i is the least that may come
unfoldable pub InOrder : List Record → ℕ → List ℕ → Type 0
InOrder rs i [] = Unit {0}
InOrder rs i (d ∷ ds) = (i ≤ d) × (d < length rs) × (is ordinary (get_or rs d blank) ≡ true) × InOrder rs (suc d) ds

-- the minutes g and the durations ω keep a plan's records: every ordinary record, every link at its duration, every wait as
-- min(w, duration)
pub record KeptBy (rs : List Record) (ω g : ℕ → ℕ) : Type 0 where
  pub within : InBounds (net_of rs) ω
  pub records : {X up down Y : ℕ} → OrdinaryIn rs X up down Y → g Y + down ≤ g X + up
  pub links : {A x y C : ℕ} → LinkIn rs A x y C → g C ≡ g A + ω C
  pub waits : {A x y B C w : ℕ} → LinkIn rs A x y C → WaitIn rs B C w → g A + min w (ω C) ≤ g B

-- what is promised of the records rs of a plan and what is left of them, qs, with the numbers dropped, ds
pub record Stands (rs qs : List Record) (ds : List ℕ) : Type 0 where
  -- "the result passes the test"
  pub passes : Passes (net_of qs)
  -- "has the same distances in every projection"
  pub same : SameInEach rs qs
  -- "and no single ordinary record of it could still go by the same rule"
  pub none_left : (ks more : List Record) (r : Record) → qs ≡ ks ++ (r ∷ more) → MayGo ks r more → ⊥
  -- "links and waits are untouched", and so are points: what is not ordinary stands in its order
  pub untouched : others qs ≡ others rs
  -- "the numbers of the records dropped, each referring to the plan as it came in": put back there, they give it
  pub back : put_back rs ds qs ≡ rs
  pub in_order : InOrder rs 0 ds
  -- the same minutes and durations keep both: nobody loses a constraint, and none is new
  pub kept : (ω g : ℕ → ℕ) → KeptBy qs ω g → KeptBy rs ω g
  pub still_kept : (ω g : ℕ → ℕ) → KeptBy rs ω g → KeptBy qs ω g

-- what is promised of a lighter plan
pub record Lightened (p : Plan) (x : Lighter) : Type 0 where
  -- it is a plan
  pub accepted : (check_of x.plan).number ≡ 0
  pub stands : Stands (records_of p) (records_of x.plan) (take x.count x.dropped)
  -- all the numbers have room
  pub count : x.count ≤ length x.dropped

-- each answer that refuses nothing stands, for any plan that a program can hold; and an answer is the only one
pub record Promised (p : Plan) (x : Result Lighter Refusal) : Type 0 where
  pub lightened : HeldPlan p → (y : Lighter) → x ≡ Ok y → Lightened p y
  pub single : (y : Result Lighter Refusal) → LighterOf p y → x ≡ y
