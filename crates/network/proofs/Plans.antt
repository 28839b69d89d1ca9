-- The words of document 01 for a plan N, whatever its form, and what a board says, s: watched points, running links,
-- windows, events, and when durations agree with a board. Definitions alone. Assumes nothing.
use Prim.Native.Nat.{ℕ, ◌+◌, ◌≤◌, ◌<◌, min}
use mathlib.Core.Path.{◌≡◌}
use mathlib.Core.Logic.{◌⊎◌}
use Rattle.network.specs.Projection.{Net, InBounds, Edge}
use Rattle.network.proofs.States.{State, Done, Undone, Change, Invariant}

module _ (N : Net) where
  -- C is watched: a link ends at it. Every other point is the foreman's
  pub record Watched (C : ℕ) : Type 0 where
    pub A : ℕ
    pub x : ℕ
    pub y : ℕ
    pub link : N.Link A x y C

  abbrev pub Foremans : ℕ → Type 0
  Foremans Z = (A x y : ℕ) → N.Link A x y Z → ⊥

  -- a running link: A done, C not
  pub record Running (s : State) (A x y C : ℕ) : Type 0 where
    pub link : N.Link A x y C
    pub started : Done s A
    pub undone : Undone s C

  -- open: a foreman's point not yet done; every ordinary record from it with negative d points to a done point, and each
  -- wait on it has its A done
  pub record Open (s : State) (Z : ℕ) : Type 0 where
    pub foremans : Foremans Z
    pub undone : Undone s Z
    pub records : {u d Y : ℕ} → N.Ordinary Z u d Y → u < d → Done s Y
    pub waits : {A x y C w : ℕ} → N.Link A x y C → N.Wait Z C w → Done s A

  -- shut: a record or a wait keeps it from being open
  pub data Shut (s : State) (Z : ℕ) : Type 0 where
    by_record : {u d Y : ℕ} → N.Ordinary Z u d Y → u < d → Undone s Y → Shut s Z
    by_wait : {A x y C w : ℕ} → N.Link A x y C → N.Wait Z C w → Undone s A → Shut s Z

  -- t is no earlier than Low of Z: the clock, Y − d over records (Z, d, Y) with Y done, A + w over waits on Z whose link
  -- is running
  pub record FromLow (s : State) (t Z : ℕ) : Type 0 where
    pub now : s.clock ≤ t
    pub records : {u d Y : ℕ} → N.Ordinary Z u d Y → Done s Y → s.minute Y + d ≤ t + u
    pub waits : {A x y C w : ℕ} → Running s A x y C → N.Wait Z C w → s.minute A + w ≤ t

  -- t is no later than H: X + d over records (X, d, Z) with X done and Z open
  pub record ToH (s : State) (t : ℕ) : Type 0 where
    pub high : {X u d Z : ℕ} → Done s X → N.Ordinary X u d Z → Open s Z → t + d ≤ s.minute X + u

  -- why Z may be done at t: it is offered, or its link ends
  pub data May (s : State) (t Z : ℕ) : Type 0 where
    offered : Open s Z → FromLow s t Z → May s t Z
    ends : {A x y : ℕ} → Running s A x y Z → May s t Z

  -- an event at t that is allowed, from s to s'
  pub record Event (s : State) (t : ℕ) (s' : State) : Type 0 where
    pub now : s.clock ≤ t
    pub high : ToH s t
    pub points : (X : ℕ) → Change (May s t) s s' t X
    pub clock : s'.clock ≡ t

  -- Z can be done next
  pub data Ready (s : State) (Z : ℕ) : Type 0 where
    opens : Open s Z → Ready s Z
    runs : {A x y : ℕ} → Running s A x y Z → Ready s Z

  -- the durations ω agree with s: an ended link has its own, and no running link has run out
  pub record Agrees (s : State) (ω : ℕ → ℕ) : Type 0 where
    pub ended : {A x y C : ℕ} → N.Link A x y C → Done s A → Done s C → s.minute C ≡ s.minute A + ω C
    pub running : {A x y C : ℕ} → Running s A x y C → s.clock ≤ s.minute A + ω C

  -- the longest durations: each running link takes its y
  pub record Longest (s : State) (ω : ℕ → ℕ) : Type 0 where
    pub running : {A x y C : ℕ} → Running s A x y C → ω C ≡ y

  -- at the durations ω no deadline is before t: neither H nor the end of a running link
  pub record Due (s : State) (t : ℕ) (ω : ℕ → ℕ) : Type 0 where
    pub high : ToH s t
    pub ends : {A x y C : ℕ} → Running s A x y C → t ≤ s.minute A + ω C

  -- what a sound board says of its links
  pub record InTime (s : State) : Type 0 where
    pub started : {A x y C : ℕ} → N.Link A x y C → Done s C → Done s A
    pub ended : {A x y C : ℕ} → N.Link A x y C → Done s C → (s.minute A + x ≤ s.minute C) × (s.minute C ≤ s.minute A + y)
    pub running : {A x y C : ℕ} → Running s A x y C → s.clock ≤ s.minute A + y

  -- each ordinary record is kept, and each wait: V − A ≥ min(w, C − A)
  pub record Kept (s : State) : Type 0 where
    pub records : {X u d Y : ℕ} → N.Ordinary X u d Y → s.minute Y + d ≤ s.minute X + u
    pub waits : {A x y B C w : ℕ} → N.Link A x y C → N.Wait B C w → min (s.minute A + w) (s.minute C) ≤ s.minute B

  -- what holds between events of a plan that passes
  pub record Safe (s : State) : Type 0 where
    pub each : (ω : ℕ → ℕ) → InBounds N ω → Agrees s ω → Invariant (Edge N ω) s

-- all points done, of n
abbrev pub Finished : ℕ → State → Type 0
Finished n s = (X : ℕ) → X < n → Done s X

-- what the rules of a plan of n points give: its points are below n, its links and waits are in bounds, no point ends two
-- links, and each point can be told watched or the foreman's, open or shut
pub record Rules (N : Net) (n : ℕ) : Type 0 where
  pub record_points : {X u d Y : ℕ} → N.Ordinary X u d Y → (X < n) × (Y < n)
  pub link_points : {A x y C : ℕ} → N.Link A x y C → (A < n) × (C < n)
  pub wait_point : {B C w : ℕ} → N.Wait B C w → B < n
  pub link_bounds : {A x y C : ℕ} → N.Link A x y C → (0 < x) × (x ≤ y)
  pub wait_bounds : {A x y B C w : ℕ} → N.Link A x y C → N.Wait B C w → (0 < w) × (w ≤ y)
  pub one : {A x y A' x' y' C : ℕ} → N.Link A x y C → N.Link A' x' y' C → (A ≡ A') × (x ≡ x') × (y ≡ y')
  pub kind : (Z : ℕ) → Watched N Z ⊎ Foremans N Z
  pub look : (s : State) (Z : ℕ) → Foremans N Z → Undone s Z → Open N s Z ⊎ Shut N s Z
