-- The number of a verdict: it is refused exactly by the plan's own number, 20 or 31. Assumes nothing.
use mathlib.Core.Path.{◌≡◌, refl, sym, ap, ◌∙◌}
use mathlib.Core.Bool.{Bool, true, false, not}
use mathlib.Core.List.{List, [], ◌∷◌}
use Prim.Native.Nat.{ℕ, suc}
use lib.Dec.{eqb}
use borrow.Author.Tests.{eqb-true}
use Rattle.std.specs.Prelude.{if◌then◌else◌}
use Rattle.plan.specs.APlan.{records_of}
use Rattle.records.specs.declared.Record.{Record}
use Rattle.plan.specs.declared.Plan.{Plan}
use Rattle.board.specs.declared.Board.{Board}
use Rattle.verdict.specs.Verdicts.{kept, first_broken, ended_of, verdict_of}
use Rattle.verdict.specs.Numbers.{verdict_number}
use Rattle.verdict.specs.declared.Verdict.{Verdict}
use Rattle.verdict.specs.declared.Verdict.TheVariants.{Refused, Broken}

module _ (rs : List Record) (b : Board) where
  -- what judging the records says is no refusal
  broken_number : (i : ℕ) (xs : List Record) → verdict_number (first_broken rs b i xs) ≡ 0
  unfolding first_broken
  broken_number i [] = refl
  broken_number i (x ∷ xs) = go (kept rs b x) (broken_number (suc i) xs)
    where
      go : (k : Bool) → verdict_number (first_broken rs b (suc i) xs) ≡ 0 → verdict_number (if k then first_broken rs b (suc i) xs else Broken i) ≡ 0
      go true e = e
      go false e = refl

module _ (p : Plan) (b : Board) where
  -- The number of a verdict is that of `ended`: the plan's own, 20, 31, or 0.
  pub verdict_number_lem : verdict_number (verdict_of p b) ≡ (ended_of p b).number
  unfolding verdict_of
  verdict_number_lem = go (eqb (ended_of p b).number 0) refl
    where
      go : (k : Bool) → eqb (ended_of p b).number 0 ≡ k
          → verdict_number (if not k then Refused (ended_of p b).number (ended_of p b).place else first_broken (records_of p) b 0 (records_of p)) ≡ (ended_of p b).number
      go true e = broken_number (records_of p) b 0 (records_of p) ∙ sym (eqb-true _ _ e)
      go false e = refl

-- with its number, as the contract says it
pub verdict_numbered : (p : Plan) (b : Board) {v : Verdict} → v ≡ verdict_of p b → (v ≡ verdict_of p b) × (verdict_number v ≡ (ended_of p b).number)
verdict_numbered p b e = (e, ap (λ (v : Verdict). verdict_number v) e ∙ verdict_number_lem p b)
