-- A day: the events of a run, put into a buffer. Assumes nothing.
use mathlib.Core.Path.{◌≡◌, refl, ap, ◌∙◌}
use mathlib.Core.List.{List, ◌++◌}
use Prim.Native.Nat.{ℕ, ◌*◌, ◌≤◌, ◌<◌}
use native.Mathlib.Omega.{arith}
use lib.Dec.{ltb}
use lib.ListN.{length, take, drop, length-take}
use lib.Seq.{take_at}
use borrow.Author.Tests.{lt-ltb, le-ltb}
use Rattle.std.specs.Prelude.{Result, Ok, Err, if◌then◌else◌}
use Rattle.plan.specs.Limits.{most_points, record_bytes}
use Rattle.plan.specs.declared.Plan.{Plan}
use Rattle.steps.specs.Found.{RoomsOf}
use Rattle.projection_runs.specs.ProjectionRuns.{events_of_run, bytes_of_all}
use Rattle.projection_runs.specs.Coded.{Lent, RunReady, RunAsks, RanOf}
use Rattle.projection_runs.specs.declared.Ran.{Ran}
use Rattle.projection_runs.proofs.Going.{few_of_run, rooms_ready, length_bytes}
use Rattle.all_runs.specs.Coded.{DayAsks, DayAs}
use Rattle.plan.specs.ReplyNumbers.{refusal}
use Rattle.plan.specs.declared.Refusal.{Refusal}

-- ---- the log into the buffer

pub cut : (log : List ℕ) (n : ℕ) → n ≤ length log → length (take n log) ≡ n
cut log n h = omega (arith, length-take n log)

module _ (out log : List ℕ) (k : ℕ) where
  pub too_short : length out < record_bytes * k
      → (Err (refusal 12 0) ≡ (if ltb (length out) (record_bytes * k) then Err (refusal 12 0) else Ok k))
      × (out ≡ (if ltb (length out) (record_bytes * k) then out else take (record_bytes * k) log ++ drop (record_bytes * k) out))
  too_short h = let e = lt-ltb (length out) (record_bytes * k) h in (rw e refl, rw e refl)

  pub long_enough : record_bytes * k ≤ length out → {out' : List ℕ} → out' ≡ take (record_bytes * k) log ++ drop (record_bytes * k) out
      → (Ok k ≡ (if ltb (length out) (record_bytes * k) then Err (refusal 12 0) else Ok k))
      × (out' ≡ (if ltb (length out) (record_bytes * k) then out else take (record_bytes * k) log ++ drop (record_bytes * k) out))
  long_enough h e = let f = le-ltb (length out) (record_bytes * k) h in (rw f refl, e ∙ rw f refl)

-- ---- a day

module _ {l : Lent} {m n : ℕ} {w : List ℕ} (asks : DayAsks l.sheet m n w) (o : RoomsOf l.sheet m l.into l.out l.ends l.begun l.starts) where
  -- a log of an event for each point is long enough
  pub day_counts : {log : List ℕ} → record_bytes * most_points ≤ length log → RunAsks l n w log
  day_counts room = record { plan = asks.plan; ready = rooms_ready o asks.plan asks.ready; room = omega (arith, few_of_run asks.plan asks.ready) }

  module _ {log log' : List ℕ} {ran : Ran} (c : RanOf l n w log log' ran) where
    -- there are few events, and the log has them
    pub day_few : ran.events ≤ most_points
    day_few = omega (arith, c.events asks.plan (rooms_ready o asks.plan asks.ready), few_of_run asks.plan asks.ready)

    -- of any plan that the rows have, the front of the log is the events' bytes
    front : (p : Plan) → RunReady p l.sheet m n w → take (record_bytes * ran.events) log' ≡ bytes_of_all (events_of_run p w)
    front p r =
        let q = rooms_ready o p r in
        let e : record_bytes * ran.events ≡ record_bytes * length (events_of_run p w) = ap (λ (k : ℕ). record_bytes * k) (c.events p q) in
        rw (e, c.written p q) (take_at (bytes_of_all (events_of_run p w)) (drop (record_bytes * length (events_of_run p w)) log) (record_bytes * length (events_of_run p w)) (length_bytes (events_of_run p w)))

    pub day_written_lem : {out out' : List ℕ} {d : Result ℕ Refusal}
        → d ≡ (if ltb (length out) (record_bytes * ran.events) then Err (refusal 12 0) else Ok ran.events)
        → out' ≡ (if ltb (length out) (record_bytes * ran.events) then out else take (record_bytes * ran.events) log' ++ drop (record_bytes * ran.events) out)
        → DayAs l.sheet m n w out out' d
    day_written_lem {out} e f =
        record {
          reply = λ p r. e ∙ ap (λ (k : ℕ). if ltb (length out) (record_bytes * k) then Err (refusal 12 0) else Ok k) (c.events p (rooms_ready o p r));
          written = λ p r. f
              ∙ ap (λ (s : List ℕ). if ltb (length out) (record_bytes * ran.events) then out else s ++ drop (record_bytes * ran.events) out) (front p r)
              ∙ ap (λ (k : ℕ). if ltb (length out) (record_bytes * k) then out else bytes_of_all (events_of_run p w) ++ drop (record_bytes * k) out) (c.events p (rooms_ready o p r));
        }
