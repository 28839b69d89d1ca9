-- The longest durations that agree with a board whose links are in time: those of the ended links, and y for all others.
-- They are in bounds. Assumes nothing.
use Prim.Native.Nat.{ℕ, ◌+◌, ◌-◌, ◌≤◌}
use mathlib.Core.Path.{◌≡◌}
use mathlib.Core.Bool.{cond}
use mathlib.Core.Logic.{◌⊎◌, inl, inr}
use native.Mathlib.Omega.{arith}
use Rattle.network.specs.Projection.{Net, InBounds}
use Rattle.network.proofs.States.{State, Done, Undone, ask}
use Rattle.network.proofs.Plans.{Watched, Foremans, Agrees, Longest, InTime, Rules}

module _ {N : Net} {n : ℕ} (rules : Rules N n) (s : State) where
  lasting : (C : ℕ) → Watched N C ⊎ Foremans N C → ℕ
  lasting C (inl c) = cond (s.done C) (s.minute C - s.minute c.A) c.y
  lasting C (inr f) = 0

  pub longest : ℕ → ℕ
  longest C = lasting C (rules.kind C)

  lasting_ended : {A x y C : ℕ} (k : Watched N C ⊎ Foremans N C) → N.Link A x y C → Done s C → s.minute A ≤ s.minute C → s.minute C ≡ s.minute A + lasting C k
  unfolding lasting
  lasting_ended (inl c) l h p = rw (h, (rules.one c.link l).0) (omega arith)
  lasting_ended (inr f) l h p = absurd (f _ _ _ l)

  lasting_other : {A x y C : ℕ} (k : Watched N C ⊎ Foremans N C) → N.Link A x y C → Undone s C → lasting C k ≡ y
  unfolding lasting
  lasting_other (inl c) l h = rw h (rules.one c.link l).2
  lasting_other (inr f) l h = absurd (f _ _ _ l)

  of_other : {A x y C : ℕ} → N.Link A x y C → Undone s C → longest C ≡ y
  unfolding longest
  of_other l c = lasting_other (rules.kind _) l c

  pub longest_long : Longest N s longest
  longest_long = record { running = λ r. of_other r.link r.undone }

  module _ (time : InTime N s) where
    of_ended : {A x y C : ℕ} → N.Link A x y C → Done s C → s.minute C ≡ s.minute A + longest C
    unfolding longest
    of_ended l c = lasting_ended (rules.kind _) l c (omega (arith, time.ended l c))

    pub longest_within : InBounds N longest
    longest_within = record { within = λ {C = C} l. go l (ask s C) }
      where
        go : {A x y C : ℕ} → N.Link A x y C → Done s C ⊎ Undone s C → (x ≤ longest C) × (longest C ≤ y)
        go l (inl c) = let h = of_ended l c in let k = time.ended l c in (omega arith, omega arith)
        go l (inr c) = let h = of_other l c in let k = rules.link_bounds l in (omega arith, omega arith)

    pub longest_agrees : Agrees N s longest
    longest_agrees =
        record {
          ended = λ l a c. of_ended l c;
          running = λ r. omega (arith, time.running r, of_other r.link r.undone);
        }
