-- The file of a plan that was made. Assumes nothing.
use mathlib.Core.Path.{◌≡◌, sym, ap, ◌∙◌}
use mathlib.Core.List.{List}
use Prim.Native.Nat.{ℕ}
use lib.Dec.{eqb}
use Rattle.std.specs.Prelude.{Ok, Err, if◌then◌else◌}
use Rattle.plan.specs.Limits.{most_ordinary}
use Rattle.plan.specs.ReplyNumbers.{Reading, number_in, place_in, plan_in as plan_read, read_of}
use Rattle.plan.specs.declared.Plan.{Plan}
use Rattle.plan.specs.declared.Refusal.{Refusal}
use Rattle.plan.proofs.Limited.{refused_number}
use Rattle.lighter.specs.Lighter.{LighterOf}
use Rattle.lighter.specs.declared.Lighter.{Lighter}
use Rattle.halves.specs.Answers.{answer_of, answer_with}
use Rattle.made_files.specs.Made.{filed_of, file_left, filed_answer, plan_in, dropped_left, LighterWritten}
use Rattle.made_files.specs.Made.LighterWritten.{unread, refused, made}

-- the answer, from the count that the code takes of the plan
pub filed_answer_lem : (x : Reading) (out : List ℕ) (found : Refusal) (count r : ℕ) → found ≡ filed_of x out → count ≡ (plan_read x).count → r ≡ answer_with found.number found.place count
    → r ≡ filed_answer x out
filed_answer_lem x out found count r e ec er = er ∙ (λ i. answer_with (e i).number (e i).place (ec i))

-- ---- the lighter plan

pub dropped_is : (x : Lighter) (out room room' : List ℕ) (found : Refusal) → found ≡ filed_of (plan_in x) out → room' ≡ (if eqb found.number 0 then x.dropped else room)
    → room' ≡ dropped_left x out room
dropped_is x out room room' found e d = d ∙ ap (λ (w : Refusal). if eqb w.number 0 then x.dropped else room) e

module _ (s out room : List ℕ) where
  pub lighter_unread : (x : Refusal) → Err x ≡ read_of s → (r : ℕ) → r ≡ answer_of x.number x.place → LighterWritten s out room r out room
  lighter_unread x e r a =
      let a' : r ≡ answer_of (number_in (read_of s)) (place_in (read_of s)) = a ∙ ap (λ (y : Reading). answer_of (number_in y) (place_in y)) e in
      rw a' (unread (λ z. refused_number most_ordinary s x e (ap number_in e ∙ z)))

  pub lighter_refused : (p : Plan) → Ok p ≡ read_of s → (y : Refusal) (r : ℕ) → LighterOf p (Err y) → r ≡ answer_of y.number y.place → LighterWritten s out room r out room
  lighter_refused p e y r l a =
      let plan_is : p ≡ plan_read (read_of s) = ap plan_read e in
      rw a (refused (sym (ap number_in e)) (rw plan_is at l))

  pub lighter_made : (p : Plan) → Ok p ≡ read_of s → (y : Lighter) (r : ℕ) (out' room' : List ℕ) → LighterOf p (Ok y)
      → r ≡ filed_answer (plan_in y) out → out' ≡ file_left (plan_in y) out → room' ≡ dropped_left y out room → LighterWritten s out room r out' room'
  lighter_made p e y r out' room' l er eo ed =
      let plan_is : p ≡ plan_read (read_of s) = ap plan_read e in
      rw (er, eo, ed) (made (sym (ap number_in e)) (rw plan_is at l))
