-- The sheets of a lighter plan are those of the plan as it came in. Assumes nothing.
use mathlib.Core.Path.{◌≡◌, refl, sym, ap, ◌∙◌}
use mathlib.Core.Logic.{◌↔◌}
use mathlib.Core.List.{List, ◌∷◌}
use Prim.Native.Nat.{ℕ}
use native.Mathlib.Omega.{arith}
use borrow.Author.Tests.{eqb-true}
use Rattle.plan.specs.APlan.{point, is, one, points, how_many, records_of, plan_of}
use Rattle.plan.specs.Held.{HeldPlan}
use Rattle.records.specs.declared.Record.{Record}
use Rattle.plan.specs.declared.Plan.{Plan}
use Rattle.promise.specs.GoodSheets.{GoodSheet, lasted, ExactlyTheGood}
use Rattle.promise.proofs.LetThrough.{exactly_the_good}
use Rattle.lighter.specs.declared.Lighter.{Lighter}
use Rattle.std.specs.Prelude.{Ok}
use Rattle.lighter.specs.Lighter.{LighterOf, made}
use Rattle.lighter.specs.Promises.{KeptBy, Stands}
use Rattle.lighter.proofs.Accepts.{records_of_lem}
use Rattle.lighter.proofs.Keeping.{Stays, no_more, one_less, one_stays, goes_stays}
use Rattle.lighter.proofs.Theorems.{lightened}
use Rattle.lighter_sheets.specs.SameSheets.{SameSheets}

-- the points stay
stays_points : {i : ℕ} {rs ts : List Record} {ds : List ℕ} → Stays i rs ts ds → points ts ≡ points rs
unfolding how_many
stays_points no_more = refl
stays_points {rs = r ∷ rs} (one_less e s) = let k = eqb-true r.kind 3 e in let z : one (is point r) ≡ 0 = rw k refl in omega (arith, z, stays_points s)
stays_points {rs = r ∷ rs} (one_stays s) = omega (arith, stays_points s)

-- what is asked of a good sheet besides its records: by its points alone
kept_part : (p : Plan) {ω g : ℕ → ℕ} → GoodSheet p ω g → KeptBy (records_of p) ω g
kept_part p s = record { within = s.within; records = s.records; links = s.links; waits = s.waits }

other_sheet : (p q : Plan) {ω g : ℕ → ℕ} → points (records_of p) ≡ points (records_of q) → GoodSheet p ω g → KeptBy (records_of q) ω g → GoodSheet q ω g
other_sheet p q e s k =
    record {
      within = k.within;
      records = k.records;
      links = k.links;
      waits = k.waits;
      first = rw e at s.first;
      near = rw e at s.near;
    }

module _ (p q : Plan) (same : points (records_of q) ≡ points (records_of p)) {ds : List ℕ} (s : Stands (records_of p) (records_of q) ds) where
  good_both : (ω g : ℕ → ℕ) → GoodSheet p ω g ↔ GoodSheet q ω g
  good_both ω g = (λ k. other_sheet p q (sym same) k (s.still_kept ω g (kept_part p k)), λ k. other_sheet q p same k (s.kept ω g (kept_part q k)))

  module _ (a : ExactlyTheGood p) (b : ExactlyTheGood q) where
    both : SameSheets p q
    both =
        record {
          good = good_both;
          through = λ g. (
            λ t. b.through (lasted (records_of p) g) g ((good_both (lasted (records_of p) g) g).0 (a.good g t)),
            λ t. a.through (lasted (records_of q) g) g ((good_both (lasted (records_of q) g) g).1 (b.good g t)),
          );
        }

-- A plan and the lighter plan that is made of it have the same good sheets, and the engine lets the same sheets through for both.
pub same_sheets : (p : Plan) {x : Lighter} → HeldPlan p → LighterOf p (Ok x) → SameSheets p x.plan
same_sheets p held (made {qs = qs} {ds = ds} ok m passes g) =
    let l = lightened p held (made ok m passes g) in
    let t = goes_stays g in
    let n : points (records_of (plan_of qs)) ≡ points (records_of p) = ap (λ (l : List Record). points l) (records_of_lem qs ∙ t.1) ∙ stays_points t.2 in
    both p (plan_of qs) n l.stands (exactly_the_good p ok passes) (exactly_the_good (plan_of qs) l.accepted l.stands.passes)
