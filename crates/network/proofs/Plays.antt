-- Haulage's durations ω from event to event: where links end as ω says, ω agrees with the board after an event if it agrees
-- with the one before. Assumes nothing.
use Prim.Native.Nat.{ℕ, ◌+◌, ◌≤◌}
use mathlib.Core.Path.{◌≡◌}
use native.Mathlib.Omega.{arith}
use Rattle.network.specs.Projection.{Net}
use Rattle.network.proofs.States.{State, Done, Undone, clash, Change, same, fresh, still, stays, undone_before}
use Rattle.network.proofs.Plans.{Running, May, offered, ends, Event, Agrees, InTime, Rules}

-- in an event at t from s to s', a running link that ends does so as ω says, and no other has run out
pub record OnTime (N : Net) (s : State) (t : ℕ) (s' : State) (ω : ℕ → ℕ) : Type 0 where
  pub ended : {A x y C : ℕ} → Running N s A x y C → Done s' C → t ≡ s.minute A + ω C
  pub running : {A x y C : ℕ} → Running N s A x y C → Undone s' C → t ≤ s.minute A + ω C

module _ {N : Net} {n : ℕ} (rules : Rules N n) {s s' : State} {t : ℕ} {ω : ℕ → ℕ} (event : Event N s t s') (time : InTime N s) (agree : Agrees N s ω) (on : OnTime N s t s' ω) where
  as_long : {A x y C : ℕ} → N.Link A x y C → Done s' C → Change (May N s t) s s' t C → s'.minute C ≡ s'.minute A + ω C
  as_long l c (same k k' i) =
      let a = time.started l k in
      omega (arith, (stays a (event.points _)).1, agree.ended l a k)
  as_long l c (fresh k k' i (offered o low)) = absurd (o.foremans _ _ _ l)
  as_long {A} l c (fresh k k' i (ends r)) =
      let a : Done s A = rw (rules.one r.link l).0 at r.started in
      omega (arith, (stays a (event.points _)).1, on.ended (record { link = l; started = a; undone = k }) c)
  as_long l c (still k k') = clash c k'

  goes_on_lem : {A x y C : ℕ} → Running N s' A x y C → Change (May N s t) s s' t A → s'.clock ≤ s'.minute A + ω C
  goes_on_lem r (same h h' e) =
      let c = undone_before r.undone (event.points _) in
      omega (arith, event.clock, on.running (record { link = r.link; started = h; undone = c }) r.undone)
  goes_on_lem r (fresh h h' e m) = omega (arith, event.clock)
  goes_on_lem r (still h h') = clash r.started h'

  pub agrees_event : Agrees N s' ω
  agrees_event = record { ended = λ l a c. as_long l c (event.points _); running = λ r. goes_on_lem r (event.points _) }
