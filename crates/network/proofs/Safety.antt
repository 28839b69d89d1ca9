-- What follows for a plan N of n points that keeps the rules and passes, at no durations in particular: `Safe` holds before
-- the first event and from event to event; no safe board is stuck; and a safe finished board has kept all. Assumes nothing.
use Prim.Native.Nat.{ℕ, ◌+◌, ◌≤◌, ◌<◌}
use Rattle.network.specs.Projection.{Net}
use Rattle.network.specs.Passing.{Passes}
use Rattle.network.proofs.States.{State, Done, Undone, at_start}
use Rattle.network.proofs.Plans.{Open, FromLow, Event, Ready, InTime, Kept, Safe, Finished, Rules}
use Rattle.network.proofs.Projected
use Rattle.network.proofs.Durations.{longest_long, longest_within, longest_agrees}

pub safe_fresh : (N : Net) (s : State) → ((X : ℕ) → Undone s X) → Safe N s
safe_fresh N s un = record { each = λ ω within agree. at_start _ s un }

module _ {N : Net} {n : ℕ} (rules : Rules N n) (passes : Passes N) where
  pub safe_event : {s s' : State} {t : ℕ} → Event N s t s' → Safe N s → Safe N s'
  safe_event event safe =
      record {
        each = λ ω within agree.
            Projected.taken rules within event agree (safe.each ω within (Projected.agreed rules within event agree)) (passes.each ω within).dispatchable;
      }

  module _ {s : State} (time : InTime N s) where
    -- while a point is not done, one is open or ends a running link
    pub open_or_running : (X : ℕ) → X < n → Undone s X → (Z : ℕ) × (Z < n) × Ready N s Z
    open_or_running X h x =
        let within = longest_within rules s time in
        Projected.not_stuck rules within s (passes.each _ within).consistent X h x

    module _ (safe : Safe N s) where
      -- a record that bounds an open point bounds it no sooner than its Low
      pub low_to_high : {X u d Z : ℕ} → Done s X → N.Ordinary X u d Z → Open N s Z → (t : ℕ) → s.minute X + u ≤ t + d → FromLow N s t Z
      low_to_high x r o t h =
          let within = longest_within rules s time in
          Projected.low_to_high rules within (safe.each _ within (longest_agrees rules s time)) (longest_long rules s) x r o t h

      pub all_kept : Finished n s → Kept N s
      all_kept all =
          let within = longest_within rules s time in
          let agree = longest_agrees rules s time in
          Projected.finished rules within (safe.each _ within agree) agree all
