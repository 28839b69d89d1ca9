-- The theorems on deadlines, events and stuck boards for the edges of one projection, in the words of the plan N. Nothing
-- here asks that a link's A be the foreman's. Assumes nothing.
use Prim.Native.Nat.{ℕ, ◌+◌, ◌≤◌, ◌<◌}
use mathlib.Core.Path.{◌≡◌}
use mathlib.Core.Logic.{◌⊎◌, inl, inr}
use native.Mathlib.Omega.{arith}
use Rattle.network.specs.Projection.{Net, InBounds, Edge, ordinary, there, back, wait}
use Rattle.network.specs.Walks.{Walk}
use Rattle.network.specs.Passing.{Consistent, Dispatchable}
use Rattle.network.proofs.States.{State, Done, Undone, ask, clash, Change, same, fresh, still, stays, Invariant, kept}
use Rattle.network.proofs.Deadlines
use Rattle.network.proofs.Changes.{Why, opened, ended, changed}
use Rattle.network.proofs.Stuck.{Blocked, one_free, bound_now, bound_free}
use Rattle.network.proofs.Plans.{Running, Open, Shut, by_record, by_wait, FromLow, ToH, May, offered, ends, Event, Ready, opens, runs, Agrees, Longest, Due, Kept, Finished, Rules}

module _ {N : Net} {n : ℕ} (rules : Rules N n) {ω : ℕ → ℕ} (within : InBounds N ω) where
  positive : {A x y C : ℕ} → N.Link A x y C → 0 < ω C
  positive l = omega (arith, rules.link_bounds l, within.within l)

  -- a point that is not done comes after another such, or is open, or ends a running link
  stand : (s : State) (Z : ℕ) → Undone s Z → Blocked (Edge N ω) s Z ⊎ Ready N s Z
  stand s Z z =
      elim (rules.kind Z) [
        | inl c ↦ elim (ask s c.A) [
          | inl a ↦ inr (runs (record { link = c.link; started = a; undone = z }))
          | inr a ↦ inl (record { to = c.A; up = 0; down = ω Z; edge = back c.link; below = positive c.link; undone = a })
        ]
        | inr f ↦ elim (rules.look s Z f z) [
          | inl o ↦ inr (opens o)
          | inr b ↦ inl (shut b)
        ]
      ]
    where
      shut : Shut N s Z → Blocked (Edge N ω) s Z
      shut (by_record r p y) = record { to = _; up = _; down = _; edge = ordinary r; below = p; undone = y }
      shut (by_wait l w a) = record { to = _; up = _; down = _; edge = wait l w; below = omega (arith, rules.wait_bounds l w, positive l); undone = a }

  module _ {s : State} {t : ℕ} where
    -- what leads to an open point and is not negative is an ordinary record
    into_open : {X Z u d : ℕ} → ToH N s t → Open N s Z → Done s X → Edge N ω X Z u d → d ≤ u → t + d ≤ s.minute X + u
    into_open h o x (ordinary r) p = h.high x r o
    into_open h o x (there l) p = absurd (o.foremans _ _ _ l)
    into_open h o x (back l) p = absurd (omega (arith, positive l))
    into_open h o x (wait l w) p = absurd (omega (arith, rules.wait_bounds l w, positive l))

    -- why a point that is not done is not due before t
    held : Due N s t ω → (Z : ℕ) → Undone s Z → Deadlines.Held (Edge N ω) s t Z
    held due Z z = elim (stand s Z z) [ inl b ↦ Deadlines.waits b.edge b.below b.undone | inr r ↦ go r ]
      where
        go : Ready N s Z → Deadlines.Held (Edge N ω) s t Z
        go (opens o) = Deadlines.bound (λ X u d x e p. into_open due.high o x e p)
        go (runs r) = Deadlines.runs (back r.link) r.started (omega (arith, due.ends r))

    -- Theorem A
    pub deadline : {X Y u d : ℕ} → Dispatchable (Edge N ω) → Invariant (Edge N ω) s → Due N s t ω → Done s X → Undone s Y → Walk (Edge N ω) X Y u d → t + d ≤ s.minute X + u
    deadline dispatch inv due x y w = Deadlines.deadline (Edge N ω) s t inv (held due) dispatch x y w

    -- what an open point comes after is done, and by Low long enough before t
    out_of_open : {Z W u d : ℕ} → Agrees N s ω → Invariant (Edge N ω) s → Open N s Z → FromLow N s t Z → Edge N ω Z W u d → u < d → Done s W × (s.minute W + d ≤ t + u)
    out_of_open agree inv o low (ordinary r) p = let y = o.records r p in (y, low.records r y)
    out_of_open agree inv o low (there l) p = absurd (omega arith)
    out_of_open agree inv o low (back l) p = absurd (o.foremans _ _ _ l)
    out_of_open agree inv o low (wait {C = C} l w) p =
        let a = o.waits l w in
        elim (ask s C) [
          | inl c ↦ (a, omega (arith, agree.ended l a c, inv.past C c, low.now))
          | inr c ↦ (a, omega (arith, low.waits (record { link = l; started = a; undone = c }) w))
        ]

  -- Theorem B, for an event at t from s to s' and durations that agree with s'
  module _ {s s' : State} {t : ℕ} (event : Event N s t s') (agree : Agrees N s' ω) where
    -- a link that is running before the event ends at t or is still running then
    past_end : {A x y C : ℕ} → Running N s A x y C → Change (May N s t) s s' t C → t ≤ s.minute A + ω C
    past_end r (same h h' e) = clash h r.undone
    past_end r (fresh h h' e m) =
        let (a, k) = stays r.started (event.points _) in
        omega (arith, agree.ended r.link a h')
    past_end r (still h h') =
        let (a, k) = stays r.started (event.points _) in
        omega (arith, event.clock, agree.running (record { link = r.link; started = a; undone = h' }))

    pub due : Due N s t ω
    due = record { high = event.high; ends = λ r. past_end r (event.points _) }

    pub agreed : Agrees N s ω
    agreed =
        record {
          ended = λ l a c.
              let (a', i) = stays a (event.points _) in
              let (c', j) = stays c (event.points _) in
              omega (arith, agree.ended l a' c');
          running = λ r. omega (arith, event.now, due.ends r);
        }

    module _ (inv : Invariant (Edge N ω) s) where
      why : {Z : ℕ} → Done s' Z → s'.minute Z ≡ t → May N s t Z → Why (Edge N ω) s t Z
      why z e (offered o low) = opened (λ W u d k p. out_of_open agreed inv o low k p)
      why z e (ends r) =
          let (a, k) = stays r.started (event.points _) in
          ended (there r.link) r.started (omega (arith, agree.ended r.link a z))

      change : {Z : ℕ} → Change (May N s t) s s' t Z → Change (Why (Edge N ω) s t) s s' t Z
      change (same h h' e) = same h h' e
      change (fresh h h' e m) = fresh h h' e (why h' e m)
      change (still h h') = still h h'

      pub taken : Dispatchable (Edge N ω) → Invariant (Edge N ω) s'
      taken dispatch =
          changed (Edge N ω) s t inv (held due) dispatch event.now s' (λ X. change (event.points X)) event.clock

  inside : (X Y u d : ℕ) → Edge N ω X Y u d → Y < n
  inside X Y u d (ordinary r) = (rules.record_points r).1
  inside X Y u d (there l) = (rules.link_points l).1
  inside X Y u d (back l) = (rules.link_points l).0
  inside X Y u d (wait l w) = (rules.link_points l).0

  -- Theorem C: while a point is not done, one is open or ends a running link
  pub not_stuck : (s : State) → Consistent (Edge N ω) → (X : ℕ) → X < n → Undone s X → (Z : ℕ) × (Z < n) × Ready N s Z
  not_stuck s con X h x = let (Z, g, z, r) = one_free (Edge N ω) s n con inside (Ready N s) (stand s) X h x in (Z, g, r)

  module _ {s : State} (inv : Invariant (Edge N ω) s) where
    -- and no High is below Low, where no running link ends before a wait on it is over
    pub low_to_high : {X u d Z : ℕ} → Longest N s ω → Done s X → N.Ordinary X u d Z → Open N s Z → (t : ℕ) → s.minute X + u ≤ t + d → FromLow N s t Z
    low_to_high long x r o t h =
        record {
          now = omega (arith, bound_now (Edge N ω) s inv x o.undone (ordinary r));
          records = λ r' y. omega (arith, bound_free (Edge N ω) s inv x y (ordinary r) (ordinary r'));
          waits = λ k w. omega (arith, rules.wait_bounds k.link w, long.running k, bound_free (Edge N ω) s inv x k.started (ordinary r) (wait k.link w));
        }

    -- where all is done, all is kept
    pub finished : Agrees N s ω → Finished n s → Kept N s
    finished agree all =
        record {
          records = λ r. let (x, y) = rules.record_points r in kept (Edge N ω) inv (all _ x) (all _ y) (ordinary r);
          waits = λ l w.
              let (a, c) = rules.link_points l in
              let b = rules.wait_point w in
              omega (arith, agree.ended l (all _ a) (all _ c), kept (Edge N ω) inv (all _ b) (all _ a) (wait l w));
        }
