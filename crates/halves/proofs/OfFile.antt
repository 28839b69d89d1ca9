-- What is answered of a file, from what reading it answers. Assumes nothing.
use mathlib.Core.Path.{◌≡◌, ap}
use mathlib.Core.List.{List}
use Prim.Native.Nat.{ℕ}
use Rattle.std.specs.Prelude.{Ok, Err}
use Rattle.plan.specs.ReplyNumbers.{Reading, read_of}
use Rattle.plan.specs.declared.Plan.{Plan}
use Rattle.plan.specs.declared.Refusal.{Refusal}
use Rattle.halves.specs.OfFile.{of_reading, of_file}

-- the bytes s are read to a plan, or refused
module _ {A : Type 0} (s : List ℕ) (f : Plan → A) (g : ℕ → ℕ → A) where
  pub of_read : (p : Plan) → Ok p ≡ read_of s → f p ≡ of_file s f g
  of_read p e = ap (λ (y : Reading). of_reading y f g) e

  pub of_refused : (x : Refusal) → Err x ≡ read_of s → g x.number x.place ≡ of_file s f g
  of_refused x e = ap (λ (y : Reading). of_reading y f g) e
