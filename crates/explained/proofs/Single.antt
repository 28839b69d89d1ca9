-- What the contract of the explanation leaves open is the way alone: any two explanations of a plan have the same answer, the same drives,
-- the same shortest length and the same best. Assumes nothing.
use mathlib.Core.Path.{◌≡◌, refl, sym, ap, ◌∙◌}
use mathlib.Core.Bool.{true, false}
use Prim.Native.Nat.{ℕ, ◌-◌}
use native.Mathlib.Omega.{arith}
use Rattle.plan.specs.declared.Plan.{Plan}
use Rattle.vee.specs.declared.Answer.{Answer}
use Rattle.vee.specs.declared.Answer.TheVariants as answer
use Rattle.vee.proofs.Single.{one_answer}
use Rattle.lengths.specs.declared.Length.{Length}
use Rattle.std.specs.Prelude.{Option}
use Rattle.lengths.specs.Lengths.{Least, nothing, least}
use Rattle.explained.specs.declared.Explanation.{Explanation}
use Rattle.explained.specs.Explained.{says_no, Explained, plainly, by_cycle, by_pair}

-- there is one least length
pub one_least : {W : ℕ → ℕ → Type 0} {a b : Option Length} → Least W a → Least W b → a ≡ b
one_least (nothing f) (nothing g) = refl
one_least (nothing f) (least b g) = absurd (f _ _ b)
one_least (least a f) (nothing g) = absurd (g _ _ a)
one_least (least {u = u} {d = d} a f) (least {u = u'} {d = d'} b g) =
    let h = f u' d' b in
    let k = g u d a in
    let e : u - d ≡ u' - d' = omega arith in
    let i : d - u ≡ d' - u' = omega arith in
    rw (e, i) refl

-- what two explanations have in common
pub record Agree (x y : Explanation) : Type 0 where
  pub answer : x.answer ≡ y.answer
  pub drives : x.why.drives ≡ y.why.drives
  pub shortest : x.why.shortest ≡ y.why.shortest
  pub allowed : x.why.allowed ≡ y.why.allowed

no_clash : {r : Answer} (s : Answer) → r ≡ s → says_no r ≡ false → says_no s ≡ true → ⊥
no_clash s e h k = let z : true ≡ false = sym k ∙ (rw e at h) in let y : ◌≡◌ {A = ℕ} 0 1 = cc in omega arith

number_of : Answer → ℕ
number_of (answer.Refused n i) = 0
number_of (answer.Yes k) = 0
number_of (answer.Cycle i) = i
number_of (answer.Pair i X Y) = i

from_of : Answer → ℕ
from_of (answer.Refused n i) = 0
from_of (answer.Yes k) = 0
from_of (answer.Cycle i) = 0
from_of (answer.Pair i X Y) = X

to_of : Answer → ℕ
to_of (answer.Refused n i) = 0
to_of (answer.Yes k) = 0
to_of (answer.Cycle i) = 0
to_of (answer.Pair i X Y) = Y

pub one_explanation : {p : Plan} {x y : Explanation} → Explained p x → Explained p y → Agree x y
unfolding number_of from_of to_of
one_explanation (plainly t h) (plainly t' h') = record { answer = one_answer t t'; drives = refl; shortest = refl; allowed = refl }
one_explanation (plainly t h) (by_cycle {i} at es t' a l b) = absurd (no_clash (answer.Cycle i) (one_answer t t') h refl)
one_explanation (plainly t h) (by_pair {i} {X} {Y} es t' a l b c) = absurd (no_clash (answer.Pair i X Y) (one_answer t t') h refl)
one_explanation (by_cycle {i} at es t a l b) (plainly t' h) = absurd (no_clash (answer.Cycle i) (one_answer t' t) h refl)
one_explanation (by_pair {i} {X} {Y} es t a l b c) (plainly t' h) = absurd (no_clash (answer.Pair i X Y) (one_answer t' t) h refl)
one_explanation (by_cycle {i} at es t a l b) (by_cycle {i = i'} at' es' t' a' l' b') =
    let e = one_answer t t' in
    let n : i ≡ i' = ap number_of e in
    record { answer = e; drives = rw n refl; shortest = refl; allowed = refl }
one_explanation (by_cycle {i} at es t a l b) (by_pair {i = i'} {X = X} {Y = Y} es' t' a' l' b' c') = absurd (let e = one_answer t t' in let z : ◌≡◌ {A = ℕ} 0 1 = cc in omega arith)
one_explanation (by_pair {i} {X} {Y} es t a l b c) (by_cycle {i = i'} at' es' t' a' l' b') = absurd (let e = one_answer t t' in let z : ◌≡◌ {A = ℕ} 0 1 = cc in omega arith)
one_explanation (by_pair {i = i} {X = X} {Y = Y} es {best = best} t a l b c) (by_pair {i = i'} {X = X'} {Y = Y'} es' {best = best'} t' a' l' b' c') =
    let e = one_answer t t' in
    let n : i ≡ i' = ap number_of e in
    let f : X ≡ X' = ap from_of e in
    let g : Y ≡ Y' = ap to_of e in
    record { answer = e; drives = rw n refl; shortest = one_least (rw (n, f, g) at b) b'; allowed = one_least (rw (n, f, g) at c) c' }
