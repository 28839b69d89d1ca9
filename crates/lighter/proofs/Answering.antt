-- What the answer of the plan test makes of a plan: a refusal, or its records gone through. Assumes nothing.
use mathlib.Core.Path.{◌≡◌, sym, subst}
use mathlib.Core.List.{List}
use Prim.Native.Nat.{ℕ, ◌≤◌}
use native.Mathlib.Omega.{arith}
use Rattle.plan.specs.APlan.{records_of}
use Rattle.plan.specs.ReplyNumbers.{check_of, refusal}
use Rattle.plan.specs.declared.Plan.{Plan}
use Rattle.vee.specs.PlanTest.{spans, many, most_projections, Found, good, Tested}
use Rattle.vee.specs.PlanTest.Tested.{refused as t-refused, too_many as t-too-many, tested}
use Rattle.vee.specs.declared.Answer.{Answer}
use Rattle.vee.specs.declared.Answer.TheVariants as answer
use Rattle.vee.proofs.Yes.{yes_passes, yes_exactly}
use Rattle.vee.proofs.Numbered.{yes_at}
use Rattle.lighter.specs.declared.Lighter.{Lighter}
use Rattle.std.specs.Prelude.{Ok, Err}
use Rattle.lighter.specs.Lighter.{LighterOf, refused, too_many, fails, made}
use Rattle.lighter.specs.Inside.{DropAsks, Dropped}

-- nothing that is found of projections is a refusal
never_refused : {E : List ℕ → ℕ → ℕ → ℕ → ℕ → Type 0} {i n j : ℕ} {ws : List (List ℕ)} → Found E i ws (answer.Refused n j) → ⊥
never_refused (good g f) = never_refused f

module _ {p : Plan} where
  pub answers_refused : {n i : ℕ} → Tested p (answer.Refused n i) → LighterOf p (Err (refusal n i))
  answers_refused (t-refused h) = refused h
  answers_refused (t-too-many ok m) = too_many ok m
  answers_refused (tested ok m f) = absurd (never_refused f)

  -- a yes has the number of projections, and the plan passes
  pub answers_asks : {k : ℕ} → Tested p (answer.Yes k) → DropAsks p k
  answers_asks {k} t = go t
    where
      go : Tested p (answer.Yes k) → DropAsks p k
      go (tested ok m f) = record { ok = ok; counted = (yes_at t).all; few = omega (arith, (yes_at t).all); passes = yes_passes t }

  pub answers_made : {k : ℕ} → Tested p (answer.Yes k) → {x : Lighter} → Dropped p x → LighterOf p (Ok x)
  answers_made t {x} d =
      let a = answers_asks t in
      subst (λ (y : Lighter). LighterOf p (Ok y)) (sym d.is) (made a.ok (omega (arith, a.counted, a.few)) a.passes d.goes)

  -- any other answer is no yes, so the plan does not pass
  not_yes : {a : Answer} → Tested p a → ((k : ℕ) → a ≡ answer.Yes k → ⊥) → (check_of p).number ≡ 0 → many (spans (records_of p)) ≤ most_projections → LighterOf p (Err (refusal 60 0))
  not_yes t n ok m = fails ok m (λ h. n _ ((yes_exactly ok m t).1 h))

  pub answers_cycle : {i : ℕ} → Tested p (answer.Cycle i) → LighterOf p (Err (refusal 60 0))
  answers_cycle (tested ok m f) = not_yes (tested ok m f) (λ k q. let z : ◌≡◌ {A = ℕ} 0 1 = cc in omega arith) ok m

  pub answers_pair : {i X Y : ℕ} → Tested p (answer.Pair i X Y) → LighterOf p (Err (refusal 60 0))
  answers_pair (tested ok m f) = not_yes (tested ok m f) (λ k q. let z : ◌≡◌ {A = ℕ} 0 1 = cc in omega arith) ok m
