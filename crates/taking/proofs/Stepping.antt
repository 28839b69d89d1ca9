-- What an event does, by whether it is refused; `found` is what the code has for its number and the record beside it. Assumes nothing.
use mathlib.Core.Path.{◌≡◌, ap, ◌∙◌}
use mathlib.Core.Bool.{true}
use mathlib.Core.List.{List}
use Prim.Native.Nat.{ℕ, ◌^◌, ◌<◌}
use borrow.Author.Tests.{eq-eqb, ne_eqb}
use Rattle.plan.specs.declared.Refusal.{Refusal}
use Rattle.links.specs.declared.Links.{Links}
use Rattle.events.specs.Fields.{event_set, well_formed}
use Rattle.events.specs.Inside.{event_in}
use Rattle.events.specs.declared.Event.{Event}
use Rattle.windows.specs.declared.Windows.{Windows}
use Rattle.planless.specs.ByWindows.{number_by, with_record}
use Rattle.planless.proofs.Numbering.{taken_formed}
use Rattle.taking.specs.Steps.{marked_by, points_of, next_of, refused_with, step_by, SetFits}
use Rattle.taking.specs.declared.Marks.{Marks}
use Rattle.taking.specs.declared.Step.{Step}

module _ (l : Links) (clock : ℕ) (m : Marks) (w : Windows) (s : List ℕ) (found : Refusal) (e : found ≡ with_record l m.done w s (number_by l clock m.done m.minutes w s)) where
  number : found.number ≡ number_by l clock m.done m.minutes w s
  number = ap (λ (f : Refusal). f.number) e

  pub formed : found.number ≡ 0 → well_formed l.points s ≡ true
  formed z = taken_formed l clock m.done m.minutes w s (rw number at z)

  module _ (r : Step) where
    pub refuses : (found.number ≡ 0 → ⊥) → r ≡ refused_with found.number found.place clock m → (r ≡ step_by l clock m w s) × SetFits l clock m.done m.minutes w s
    unfolding step_by
    refuses h a = (rw (ne_eqb (number_by l clock m.done m.minutes w s) 0 (λ z. h (number ∙ z))) (rw e at a), record { fits = λ z. absurd (h (number ∙ z)) })

    -- e, n and k are what the code has for the event, its number and the marks after it
    pub takes : found.number ≡ 0 → event_set s < 2 ^ 32 → (e : Event) → e ≡ event_in s → (n : ℕ) → n ≡ next_of m → (k : Marks) → k ≡ marked_by e.minute n (points_of e) m
        → r ≡ (record { number = 0; place = 0; clock = e.minute; marks = k }) → (r ≡ step_by l clock m w s) × SetFits l clock m.done m.minutes w s
    unfolding step_by
    takes z f e says n next k marks a = (rw (eq-eqb (number_by l clock m.done m.minutes w s) 0 (rw number at z)) (rw (marks, says, next) at a), record { fits = λ q. f })
