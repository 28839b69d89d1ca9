-- The lighter plan is accepted and stands, and the contract permits a single answer. Assumes nothing.
use mathlib.Core.Path.{◌≡◌, refl, sym, ap, subst}
use mathlib.Core.List.{List, [], ◌∷◌, ◌++◌, append-nil}
use Prim.Native.Nat.{ℕ, ◌-◌, ◌<◌, ◌≤◌}
use native.Mathlib.Omega.{arith}
use lib.ListN.{length, replicate, length-append, length-take}
use lib.Seq.{append_snoc, take-append_seam}
use borrow.Author.Tests.{eqb-true}
use Rattle.plan.specs.Limits.{most_records}
use Rattle.plan.specs.APlan.{records_of}
use Rattle.plan.specs.ReplyNumbers.{check_of}
use Rattle.plan.specs.Held.{HeldPlan}
use Rattle.records.specs.declared.Record.{Record}
use Rattle.plan.specs.declared.Plan.{Plan}
use Rattle.network.specs.Passing.{Passes}
use Rattle.vee.specs.PlanTest.{net_of}
use Rattle.vee.proofs.Rules.{Valid}
use Rattle.vee.proofs.Testing.{accepted_plan}
use Rattle.std.specs.Prelude.{Result, Ok}
use Rattle.plan.specs.declared.Refusal.{Refusal}
use Rattle.lighter.specs.declared.Lighter.{Lighter}
use Rattle.lighter.specs.Lighter.{Goes, ends, drops, keeps, lighter_as, LighterOf, refused, too_many, fails, made}
use Rattle.lighter.specs.Promises.{Lightened, Promised}
use Rattle.lighter.proofs.Accepts.{valid_without, records_of_lem, some_left, plan_accepted, count_some}
use Rattle.lighter.proofs.Standing.{stands}

-- ---- it is a plan

-- valid records, some and not too many
record Fair (rs : List Record) : Type 0 where
  valid : Valid [] rs
  some : 0 < length rs
  few : length rs ≤ most_records

goes_fair : {ks rs qs : List Record} {i : ℕ} {ds : List ℕ} → Goes ks i rs qs ds → Fair (ks ++ rs) → Fair qs
goes_fair {ks} ends f = subst (λ (l : List Record). Fair l) (append-nil ks) f
goes_fair {ks} (drops {more = more} {r = r} m g) f =
    let kind = eqb-true r.kind 3 m.ordinary in
    goes_fair g (record { valid = valid_without ks r more kind f.valid; some = some_left ks r more kind f.valid; few = omega (arith, f.few, length-append ks (r ∷ more), length-append ks more) })
goes_fair {ks} (keeps {more = more} {r = r} n g) f = goes_fair g (subst (λ (l : List Record). Fair l) (sym (append_snoc ks r more)) f)

-- ---- one answer

one_walk : {ks rs qs qs' : List Record} {i : ℕ} {ds ds' : List ℕ} → Goes ks i rs qs ds → Goes ks i rs qs' ds' → (qs ≡ qs') × (ds ≡ ds')
one_walk ends ends = (refl, refl)
one_walk {i = i} (drops m g) (drops m' g') = let e = one_walk g g' in (e.0, ap (λ (l : List ℕ). i ∷ l) e.1)
one_walk (drops m g) (keeps n g') = absurd (n m)
one_walk (keeps n g) (drops m g') = absurd (n m)
one_walk (keeps n g) (keeps n' g') = one_walk g g'

-- The contract permits a single answer.
pub one_lighter : {p : Plan} {x y : Result Lighter Refusal} → LighterOf p x → LighterOf p y → x ≡ y
one_lighter (refused h) (refused k) = refl
one_lighter (refused h) (too_many ok m) = absurd (h ok)
one_lighter (refused h) (fails ok m n) = absurd (h ok)
one_lighter (refused h) (made ok m p g) = absurd (h ok)
one_lighter (too_many ok m) (refused h) = absurd (h ok)
one_lighter (too_many ok m) (too_many ok' m') = refl
one_lighter (too_many ok m) (fails ok' m' n) = absurd (omega arith)
one_lighter (too_many ok m) (made ok' m' p g) = absurd (omega arith)
one_lighter (fails ok m n) (refused h) = absurd (h ok)
one_lighter (fails ok m n) (too_many ok' m') = absurd (omega arith)
one_lighter (fails ok m n) (fails ok' m' n') = refl
one_lighter (fails ok m n) (made ok' m' p g) = absurd (n p)
one_lighter (made ok m p g) (refused h) = absurd (h ok)
one_lighter (made ok m p g) (too_many ok' m') = absurd (omega arith)
one_lighter (made ok m p g) (fails ok' m' n) = absurd (n p)
one_lighter (made ok m p g) (made ok' m' p' g') = let e = one_walk g g' in rw (e.0, e.1) refl

-- ---- what is promised

-- Each answer that refuses nothing is accepted and stands.
module _ (p : Plan) (held : HeldPlan p) where
  fair : (check_of p).number ≡ 0 → Fair (records_of p)
  fair ok =
      let a = accepted_plan p ok in
      let n : length (records_of p) ≡ p.count = omega (arith, length-take p.count p.records, held.room, a.0) in
      record { valid = a.1; some = omega (arith, n, count_some p ok); few = omega (arith, n, a.0) }

  made_stands : {qs : List Record} {ds : List ℕ} → (check_of p).number ≡ 0 → Passes (net_of (records_of p)) → Goes [] 0 (records_of p) qs ds → Lightened p (lighter_as qs ds)
  made_stands {qs} {ds} ok passes g =
      let f = goes_fair g (fair ok) in
      record {
        accepted = plan_accepted qs f.some f.few f.valid;
        stands = rw (records_of_lem qs, take-append_seam ds (replicate (most_records - length ds) 0)) (stands g passes);
        count = omega (arith, length-append ds (replicate (most_records - length ds) 0));
      }

  -- a refusal is none of these
  pub lightened : {x : Lighter} → LighterOf p (Ok x) → Lightened p x
  lightened (made ok m passes g) = made_stands ok passes g

-- What is promised of each answer that the contract permits.
pub promised : {p : Plan} {x : Result Lighter Refusal} → LighterOf p x → Promised p x
promised {p} l = record { lightened = λ h y e. lightened p h (rw e at l); single = λ y m. one_lighter l m }
