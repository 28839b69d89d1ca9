-- The tests over all points and over all records, read at one of them, and back; which points a list has; the largest minute
-- of some points. Assumes nothing.
use mathlib.Core.Path.{◌≡◌, refl, sym, ◌∙◌}
use mathlib.Core.Logic.{◌⊎◌, inl, inr}
use mathlib.Core.Bool.{Bool, true, false, cond, ◌&&◌, ◌||◌, and-true, and-false, or-true}
use mathlib.Core.List.{List, [], ◌∷◌, ◌++◌}
use Prim.Native.Nat.{ℕ, zero, suc, ◌+◌, ◌≤◌, ◌<◌, min, max}
use native.Mathlib.Nat.{eq-or-lt_of_le}
use native.Mathlib.Omega.{arith}
use native.Mathlib.Decide.{dec_lt}
use lib.Dec.{eqb}
use lib.ListN.{length, get_or}
use borrow.Author.Tests.{ltb-true, lt-ltb, eqb-true, eq-eqb}
use Rattle.points.proofs.Laws.{member_below, subset_member, member_subset}
use Rattle.points.specs.Sets.{below_of, subset_of, member, members_of, from, every, passing}
use Rattle.plan.specs.Limits.{most_points}
use Rattle.plan.specs.APlan.{blank}
use Rattle.records.specs.declared.Record.{Record}
use Rattle.history.specs.History.{minute_in, each, largest}
use Rattle.history.proofs.Tests.{clash, both, and_both, either}

-- ---- the points that a list has

abbrev pub has : ℕ → List ℕ → Bool
has q [] = false
has q (p ∷ ps) = eqb q p || has q ps

pub has_append : (q : ℕ) (ps rest : List ℕ) → has q (ps ++ rest) ≡ (has q ps || has q rest)
has_append q [] rest = refl
has_append q (p ∷ ps) rest = rw (has_append q ps rest) (or_join (eqb q p))
  where
    or_join : (a : Bool) → (a || (has q ps || has q rest)) ≡ ((a || has q ps) || has q rest)
    or_join true = refl
    or_join false = refl

-- A test of all points of a list holds at each of them.
pub every_has : (test : ℕ → Bool) (ps : List ℕ) → every test ps ≡ true → (q : ℕ) → has q ps ≡ true → test q ≡ true
unfolding every
every_has test [] e q h = clash (sym h)
every_has test (p ∷ ps) e q h =
    let r = both (test p) (every test ps) e in
    elim (either (eqb q p) (has q ps) h) [ inl k ↦ rw (eqb-true q p k) r.0 | inr k ↦ every_has test ps r.1 q k ]

-- A test that holds at each point of a list holds of all.
pub has_every : (test : ℕ → Bool) (ps : List ℕ) → ((q : ℕ) → has q ps ≡ true → test q ≡ true) → every test ps ≡ true
unfolding every
has_every test [] h = refl
has_every test (p ∷ ps) h =
    and_both (test p) (every test ps) (h p (rw (eq-eqb p p refl))) (has_every test ps (λ q k. h q (rw k (or-true (eqb q p)))))

pub has_from : (q n p : ℕ) → p ≤ q → q < p + n → has q (from p n) ≡ true
unfolding from
has_from q zero p a b = absurd (omega arith)
has_from q (suc n) p a b =
    elim (eq-or-lt_of_le a) [ inl k ↦ rw (eq-eqb q p (sym k)) | inr l ↦ rw (has_from q n (suc p) l (omega arith)) (or-true (eqb q p)) ]

pub from_has : (q n p : ℕ) → has q (from p n) ≡ true → (p ≤ q) × (q < p + n)
unfolding from
from_has q zero p h = clash (sym h)
from_has q (suc n) p h =
    elim (either (eqb q p) (has q (from (suc p) n)) h) [ inl k ↦ omega (arith, eqb-true q p k) | inr k ↦ omega (arith, from_has q n (suc p) k) ]

has_passing : (test : ℕ → Bool) (q : ℕ) (ps : List ℕ) → has q (passing test ps) ≡ (test q && has q ps)
unfolding passing
has_passing test q [] = sym (and-false (test q))
has_passing test q (p ∷ ps) = go (test p) (eqb q p) refl refl (has_passing test q ps)
  where
    go : (a b : Bool) → test p ≡ a → eqb q p ≡ b → has q (passing test ps) ≡ (test q && has q ps)
        → has q (cond a (p ∷ passing test ps) (passing test ps)) ≡ (test q && (b || has q ps))
    go true true e f g = rw (f, eqb-true q p f, e)
    go true false e f g = rw f g
    go false true e f g = let n : test q ≡ false = rw (eqb-true q p f) e in rw (g, n)
    go false false e f g = g

-- A test of all the points there can be holds at each.
pub every_point : (test : ℕ → Bool) → every test (from 0 most_points) ≡ true → (q : ℕ) → q < most_points → test q ≡ true
every_point test e q l = every_has test (from 0 most_points) e q (has_from q most_points 0 (omega arith) (omega arith))

pub point_every : (test : ℕ → Bool) → ((q : ℕ) → q < most_points → test q ≡ true) → every test (from 0 most_points) ≡ true
point_every test h = has_every test (from 0 most_points) (λ q k. h q (omega (arith, from_has q most_points 0 k)))

-- The members of a set are the points that are in it.
pub has_members : (s q : ℕ) → q < most_points → has q (members_of s) ≡ member s q
unfolding members_of
has_members s q l = rw (has_passing (member s) q (from 0 most_points), has_from q most_points 0 (omega arith) (omega arith)) (and-true (member s q))

pub members_has : (s q : ℕ) → has q (members_of s) ≡ true → (q < most_points) × (member s q ≡ true)
unfolding members_of
members_has s q h =
    let r = both (member s q) (has q (from 0 most_points)) (sym (has_passing (member s) q (from 0 most_points)) ∙ h) in
    (omega (arith, from_has q most_points 0 r.1), r.0)

-- A test of all members of a set holds at each, and back.
pub every_member : (test : ℕ → Bool) (s : ℕ) → every test (members_of s) ≡ true → (q : ℕ) → q < most_points → member s q ≡ true → test q ≡ true
every_member test s e q l m = every_has test (members_of s) e q (has_members s q l ∙ m)

pub member_every : (test : ℕ → Bool) (s : ℕ) → ((q : ℕ) → q < most_points → member s q ≡ true → test q ≡ true) → every test (members_of s) ≡ true
member_every test s h = has_every test (members_of s) (λ q k. let r = members_has s q k in h q r.0 r.1)

-- The members of a set within the points below n are below n, and back.
pub subset_below : (s n : ℕ) → subset_of s (below_of n) ≡ true → (q : ℕ) → q < most_points → member s q ≡ true → q < n
subset_below s n e q l m = omega (arith, ltb-true q (min n most_points) (sym (member_below n q) ∙ subset_member s (below_of n) e q l m))

pub below_subset : (s n : ℕ) → ((q : ℕ) → q < most_points → member s q ≡ true → q < n) → subset_of s (below_of n) ≡ true
below_subset s n h = member_subset s (below_of n) (λ q l m. member_below n q ∙ lt-ltb q (min n most_points) (omega (arith, h q l m)))

-- ---- records

-- A test of all records holds at each, and back.
pub each_at : (so : Record → Bool) (rs : List Record) → each so rs ≡ true → (i : ℕ) → i < length rs → so (get_or rs i blank) ≡ true
unfolding each
each_at so [] e i h = absurd (omega arith)
each_at so (r ∷ rs) e zero h = (both (so r) (each so rs) e).0
each_at so (r ∷ rs) e (suc i) h = each_at so rs (both (so r) (each so rs) e).1 i (omega arith)

pub at_each : (so : Record → Bool) (rs : List Record) → ((i : ℕ) → i < length rs → so (get_or rs i blank) ≡ true) → each so rs ≡ true
unfolding each
at_each so [] h = refl
at_each so (r ∷ rs) h = and_both (so r) (each so rs) (h 0 (omega arith)) (at_each so rs (λ i l. h (suc i) (omega arith)))

-- ---- the largest minute

module _ (minutes : List ℕ) where
  -- The largest minute of some points is no more than n just where each is no more.
  pub largest_le : (n : ℕ) (ps : List ℕ) → ((q : ℕ) → has q ps ≡ true → minute_in minutes q ≤ n) → largest minutes ps ≤ n
  unfolding largest
  largest_le n [] h = omega arith
  largest_le n (p ∷ ps) h = omega (arith, h p (rw (eq-eqb p p refl)), largest_le n ps (λ q k. h q (rw k (or-true (eqb q p)))))

  pub largest_ge : (ps : List ℕ) (q : ℕ) → has q ps ≡ true → minute_in minutes q ≤ largest minutes ps
  unfolding largest
  largest_ge [] q h = clash (sym h)
  largest_ge (p ∷ ps) q h =
      elim (either (eqb q p) (has q ps) h) [ inl k ↦ rw (eqb-true q p k) (omega arith) | inr k ↦ omega (arith, largest_ge ps q k) ]

  -- It is 0, or the minute of one of them.
  pub largest_at : (ps : List ℕ) → (largest minutes ps ≡ 0) ⊎ ((q : ℕ) × (has q ps ≡ true) × (minute_in minutes q ≡ largest minutes ps))
  unfolding largest
  largest_at [] = inl refl
  largest_at (p ∷ ps) = go (dec_lt (largest minutes ps) (minute_in minutes p)) (largest_at ps)
    where
      go : Dec (largest minutes ps < minute_in minutes p) → (largest minutes ps ≡ 0) ⊎ ((q : ℕ) × (has q ps ≡ true) × (minute_in minutes q ≡ largest minutes ps))
          → (max (minute_in minutes p) (largest minutes ps) ≡ 0) ⊎ ((q : ℕ) × (has q (p ∷ ps) ≡ true) × (minute_in minutes q ≡ max (minute_in minutes p) (largest minutes ps)))
      go (yes l) w = inr (p, rw (eq-eqb p p refl), omega arith)
      go (no l) (inl z) = inl (omega arith)
      go (no l) (inr w) = inr (w.0, rw w.1 (or-true (eqb w.0 p)), omega (arith, w.2))
