-- The least of a table and the first point that has it, and the set of the points that have a minute, as the loops find them
-- and as the rules say them. Assumes nothing.
use mathlib.Core.Path.{◌≡◌, refl, sym, ap, ◌∙◌}
use mathlib.Core.Bool.{Bool, true, false, not, cond, ◌&&◌}
use mathlib.Core.List.{List, [], ◌∷◌}
use Prim.Native.Nat.{ℕ, zero, suc, ◌+◌, ◌-◌, ◌≤◌, ◌<◌, min}
use native.Mathlib.Omega.{arith}
use borrow.Author.Tests.{eq-eqb, ne_eqb, lt-ltb, le-ltb, le-leb, lt-leb, ltb-true, ltb-false}
use lib.Dec.{eqb, ltb, leb}
use lib.ListN.{get_or}
use Rattle.points.specs.Sets.{member, with_of, from, passing, first_or}
use Rattle.std.specs.Prelude.{if◌then◌else◌}
use Rattle.plan.specs.Limits.{most_points}
use Rattle.board.specs.Windows.{never}
use Rattle.board.specs.Events.{no_point}
use Rattle.kept.specs.Rooms.{done_at}
use Rattle.promise.specs.Plays.{least_of, set_of}
use Rattle.steps.specs.Found.{open_by, low_by, end_by, ends_then, nearer, nearest_from, nearest, earlier, first_by, event_at, event_by}
use Rattle.steps.specs.declared.Least.{Least}

-- ---- one point, and the event

-- an open point, where `done` says whether it is done
pub opened : (kept starts : List ℕ) (n q : ℕ) {done : Bool} → done ≡ member (get_or kept done_at 0) q
    → ((ltb q n && (leb most_points (get_or starts q 0) && not done)) && eqb (get_or kept q 0) 0) ≡ open_by kept starts n q
opened kept starts n q e = λ i. (ltb q n && (leb most_points (get_or starts q 0) && not (e i))) && eqb (get_or kept q 0) 0

-- a choice, the other way round
pub turned : (done : Bool) (x : ℕ) → (if done then never else x) ≡ (if not done then x else never)
turned true x = refl
turned false x = refl

-- what is sooner takes the place of what was found, and nothing else does
pub is_sooner : (found : Least) (t q : ℕ) → t < found.minute → record { minute = t; point = q } ≡ nearer found t q
is_sooner found t q h = rw (lt-ltb t found.minute h) refl

pub no_sooner : (found : Least) (t q : ℕ) → found.minute ≤ t → found ≡ nearer found t q
no_sooner found t q h = rw (le-ltb t found.minute h) refl

-- the aim comes first, unless a link ends before it
pub aim_first : (aim : Least) (t : ℕ) → aim.minute ≤ t → aim ≡ earlier aim t
aim_first aim t h = rw (le-leb aim.minute t h) refl

pub end_first : (aim : Least) (t : ℕ) → t < aim.minute → record { minute = t; point = no_point } ≡ earlier aim t
end_first aim t h = rw (lt-leb aim.minute t h) refl

-- the event, from what is found
pub event_made : (kept starts w : List ℕ) (n : ℕ) {aim end first : Least} {set : ℕ} → aim ≡ nearest (low_by kept starts n) → end ≡ nearest (end_by kept starts w)
    → first ≡ earlier aim end.minute → set ≡ set_of (ends_then kept starts w first.minute) (from 0 most_points)
    → record { minute = first.minute; point = first.point; set = set } ≡ event_by kept starts n w
event_made kept starts w n {aim} {end} {first} {set} ea ee ef es =
    let f : first ≡ first_by kept starts n w = ef ∙ (λ i. earlier (ea i) (ee i).minute) in
    (λ i. record { minute = first.minute; point = first.point; set = es i }) ∙ ap (event_at kept starts w) f

-- ---- the loops

-- the points that are left, where there is one
from_here : (q : ℕ) → q < most_points → from q (most_points - q) ≡ q ∷ from (q + 1) (most_points - (q + 1))
unfolding from
from_here q h =
    let e : most_points - q ≡ suc (most_points - (q + 1)) = omega arith in
    let f : suc q ≡ q + 1 = omega arith in
    rw (e, f) refl

from_past : (q : ℕ) → most_points ≤ q → from q (most_points - q) ≡ []
unfolding from
from_past q h = let e : most_points - q ≡ 0 = omega arith in rw e refl

pub nearest_turn : (f : ℕ → ℕ) (found : Least) (q : ℕ) {next : Least} → q < most_points → next ≡ nearer found (f q) q
    → nearest_from f found (from q (most_points - q)) ≡ nearest f → nearest_from f next (from (q + 1) (most_points - (q + 1))) ≡ nearest f
unfolding nearest_from
nearest_turn f found q h e i = rw e (rw (from_here q h) at i)

pub nearest_end : (f : ℕ → ℕ) (found : Least) (q : ℕ) → most_points ≤ q → nearest_from f found (from q (most_points - q)) ≡ nearest f → found ≡ nearest f
unfolding nearest_from
nearest_end f found q h i = rw (from_past q h) at i

pub set_turn : (test : ℕ → Bool) (left : ℕ) {set next : ℕ} → 0 < left → left ≤ most_points → set ≡ set_of test (from left (most_points - left))
    → next ≡ (if test (left - 1) then with_of set (left - 1) else set) → next ≡ set_of test (from (left - 1) (most_points - (left - 1)))
unfolding set_of
set_turn test left {set} {next} h l e f =
    let k : left - 1 + 1 ≡ left = omega arith in
    let g = from_here (left - 1) (omega arith) in
    f ∙ rw (g, k, e) refl

pub set_end : (test : ℕ → Bool) (left : ℕ) {set : ℕ} → left ≡ 0 → set ≡ set_of test (from left (most_points - left)) → set ≡ set_of test (from 0 most_points)
set_end test left e h = rw e at h

-- ---- before the least

-- what is kept of two is past neither
nearer_least : (found : Least) (t q : ℕ) → ((nearer found t q).minute ≤ found.minute) × ((nearer found t q).minute ≤ t)
nearer_least found t q = go (ltb t found.minute) refl
  where
    go : (c : Bool) → ltb t found.minute ≡ c
        → ((if c then record { minute = t; point = q } else found).minute ≤ found.minute) × ((if c then record { minute = t; point = q } else found).minute ≤ t)
    go true e = omega (arith, ltb-true t found.minute e)
    go false e = omega (arith, ltb-false t found.minute e)

falls : (f : ℕ → ℕ) (found : Least) (qs : List ℕ) → (nearest_from f found qs).minute ≤ found.minute
unfolding nearest_from
falls f found [] = omega arith
falls f found (q ∷ qs) = omega (arith, falls f (nearer found (f q) q) qs, nearer_least found (f q) q)

-- no point of qs has a minute before the least of them
none_from : (f : ℕ → ℕ) (t : ℕ) (found : Least) (qs : List ℕ) → t < (nearest_from f found qs).minute → set_of (λ (q : ℕ). eqb (f q) t && ltb t never) qs ≡ 0
unfolding nearest_from set_of
none_from f t found [] h = refl
none_from f t found (q ∷ qs) h =
    let n : eqb (f q) t ≡ false = ne_eqb (f q) t (λ e. omega (arith, e, falls f (nearer found (f q) q) qs, nearer_least found (f q) q)) in
    rw n (none_from f t (nearer found (f q) q) qs h)

pub none_then : (kept starts w : List ℕ) (t soonest : ℕ) → soonest ≡ (nearest (end_by kept starts w)).minute → t < soonest → 0 ≡ set_of (ends_then kept starts w t) (from 0 most_points)
none_then kept starts w t soonest e h =
    sym (none_from (end_by kept starts w) t (record { minute = never; point = no_point }) (from 0 most_points) (omega (arith, e)))

-- ---- what they find

-- The least is not past what is past all.
pub least_never : (test : ℕ → Bool) (at : ℕ → ℕ) (qs : List ℕ) → least_of test at qs ≤ never
unfolding least_of
least_never test at [] = omega arith
least_never test at (q ∷ qs) = go (test q) (least_never test at qs)
  where
    go : (c : Bool) → least_of test at qs ≤ never → (if c then min (at q) (least_of test at qs) else least_of test at qs) ≤ never
    go true h = omega arith
    go false h = h

-- only the points below the last count
pub nearest_alike : (f g : ℕ → ℕ) (n p : ℕ) (found : Least) → ((q : ℕ) → q < p + n → f q ≡ g q) → nearest_from f found (from p n) ≡ nearest_from g found (from p n)
unfolding nearest_from from
nearest_alike f g zero p found h = refl
nearest_alike f g (suc n) p found h =
    ap (λ (t : ℕ). nearest_from f (nearer found t p) (from (suc p) n)) (h p (omega arith))
    ∙ nearest_alike f g n (suc p) (nearer found (g p) p) (λ q l. h q (omega arith))

pub set_below : (test same : ℕ → Bool) (n p : ℕ) → ((q : ℕ) → q < p + n → test q ≡ same q) → set_of test (from p n) ≡ set_of same (from p n)
unfolding set_of from
set_below test same zero p h = refl
set_below test same (suc n) p h = rw (h p (omega arith), set_below test same n (suc p) (λ q l. h q (omega arith)))

module _ (test : ℕ → Bool) (at : ℕ → ℕ) (soon : (q : ℕ) → test q ≡ true → at q < never) where
  -- what the points that pass give, past every minute for the others
  abbrev given : ℕ → ℕ
  given q = if test q then at q else never

  abbrev hits : ℕ → ℕ → Bool
  hits t q = test q && eqb (at q) t

  -- the least of qs, and the first of qs that has it
  abbrev least : List ℕ → ℕ
  least qs = least_of test at qs

  abbrev first : List ℕ → ℕ
  first qs = first_or no_point (passing (hits (least_of test at qs)) qs)

  -- what is found after qs: what was found before, or the first of the least where that is sooner
  abbrev Found : Least → List ℕ → Least → Type 0
  Found found qs r =
      (r.minute ≡ min found.minute (least_of test at qs)) × (r.point ≡ (if ltb (least_of test at qs) found.minute then first_or no_point (passing (hits (least_of test at qs)) qs) else found.point))

  -- a point more in front, which does not pass
  skip : (q : ℕ) (qs : List ℕ) → test q ≡ false → (least_of test at (q ∷ qs) ≡ least_of test at qs) × ((t : ℕ) → passing (hits t) (q ∷ qs) ≡ passing (hits t) qs)
  unfolding least_of passing
  skip q qs e = (rw e refl, λ t. rw e refl)

  -- a point more in front, which is not the first of the least
  pass_on : (f : Least) (q : ℕ) (qs : List ℕ) (r : Least) → least_of test at (q ∷ qs) ≡ least_of test at qs
      → passing (hits (least_of test at qs)) (q ∷ qs) ≡ passing (hits (least_of test at qs)) qs → Found f qs r → Found f (q ∷ qs) r
  pass_on f q qs r s t h = rw (s, t) h

  found : (found : Least) (qs : List ℕ) → found.minute ≤ never → Found found qs (nearest_from given found qs)
  unfolding nearest_from least_of passing first_or
  found f [] l = (omega arith, rw (le-ltb never f.minute l))
  found f (q ∷ qs) l = go (test q) refl (λ g k. found g qs k)
    where
      L : ℕ
      L = least_of test at qs

      go : (c : Bool) → test q ≡ c → ((g : Least) → g.minute ≤ never → Found g qs (nearest_from given g qs))
          → Found f (q ∷ qs) (nearest_from given (nearer f (given q) q) qs)
      go false e on =
          let z : ltb never f.minute ≡ false = le-ltb never f.minute l in
          let s = skip q qs e in
          pass_on f q qs (nearest_from given (nearer f (given q) q) qs) s.0 (s.1 (least_of test at qs)) (rw (e, z) (on f l))
      go true e on = sooner (ltb (at q) f.minute) refl (ltb (least_of test at qs) (at q)) refl
        where
          sooner : (c : Bool) → ltb (at q) f.minute ≡ c → (d : Bool) → ltb (least_of test at qs) (at q) ≡ d → Found f (q ∷ qs) (nearest_from given (nearer f (given q) q) qs)
          sooner true x true y =
              let i = on (record { minute = at q; point = q }) (omega (arith, soon q e)) in
              let a = ltb-true (at q) f.minute x in
              let b = ltb-true (least_of test at qs) (at q) y in
              let m : min (at q) (least_of test at qs) ≡ least_of test at qs = omega arith in
              let n : eqb (at q) (least_of test at qs) ≡ false = ne_eqb (at q) (least_of test at qs) (omega arith) in
              pass_on f q qs (nearest_from given (nearer f (given q) q) qs) (rw e m) (rw (e, n))
              (rw (e, x) (omega (arith, i.0), rw (lt-ltb (least_of test at qs) f.minute (omega arith)) (i.1 ∙ rw y refl)))
          sooner true x false y =
              let i = on (record { minute = at q; point = q }) (omega (arith, soon q e)) in
              let a = ltb-true (at q) f.minute x in
              let b = ltb-false (least_of test at qs) (at q) y in
              let m : min (at q) (least_of test at qs) ≡ at q = omega arith in
              rw (e, x, m, eq-eqb (at q) (at q) refl) (omega (arith, i.0), rw x (i.1 ∙ rw y refl))
          sooner false x d y =
              let i = on f l in
              let a = ltb-false (at q) f.minute x in
              late (ltb (least_of test at qs) f.minute) refl
            where
              late : (d : Bool) → ltb (least_of test at qs) f.minute ≡ d → Found f (q ∷ qs) (nearest_from given (nearer f (given q) q) qs)
              late true z =
                  let i = on f l in
                  let a = ltb-false (at q) f.minute x in
                  let b = ltb-true (least_of test at qs) f.minute z in
                  let m : min (at q) (least_of test at qs) ≡ least_of test at qs = omega arith in
                  let n : eqb (at q) (least_of test at qs) ≡ false = ne_eqb (at q) (least_of test at qs) (omega arith) in
                  pass_on f q qs (nearest_from given (nearer f (given q) q) qs) (rw e m) (rw (e, n)) (rw (e, x) i)
              late false z =
                  let i = on f l in
                  let a = ltb-false (at q) f.minute x in
                  let b = ltb-false (least_of test at qs) f.minute z in
                  let k : ltb (min (at q) (least_of test at qs)) f.minute ≡ false = le-ltb (min (at q) (least_of test at qs)) f.minute (omega arith) in
                  rw (e, x, k) (omega (arith, i.0), i.1 ∙ rw z refl)

  -- where the least is past every minute no point passes
  none_passes : (t : ℕ) (qs : List ℕ) → never ≤ least_of test at qs → first_or no_point (passing (hits t) qs) ≡ no_point
  unfolding least_of passing first_or
  none_passes t [] l = refl
  none_passes t (q ∷ qs) l = go (test q) refl l (none_passes t qs)
    where
      go : (c : Bool) → test q ≡ c → never ≤ (if c then min (at q) (least_of test at qs) else least_of test at qs)
          → (never ≤ least_of test at qs → first_or no_point (passing (hits t) qs) ≡ no_point)
          → first_or no_point (cond (c && eqb (at q) t) (q ∷ passing (hits t) qs) (passing (hits t) qs)) ≡ no_point
      go true e l on = absurd (omega (arith, soon q e))
      go false e l on = on l

  -- the least of all points, and the first that has it
  pub nearest_is : (f : ℕ → ℕ) → ((q : ℕ) → q < most_points → f q ≡ (if test q then at q else never))
      → nearest f ≡ record { minute = least_of test at (from 0 most_points); point = first_or no_point (passing (λ (q : ℕ). test q && eqb (at q) (least_of test at (from 0 most_points))) (from 0 most_points)) }
  nearest_is f h =
      let none : Least = record { minute = never; point = no_point } in
      let i = found none (from 0 most_points) (omega arith) in
      nearest_alike f given most_points 0 none (λ q l. h q (omega arith))
      ∙ (λ k. record { minute = minute_is i k; point = point_is i (ltb (least_of test at (from 0 most_points)) never) refl k })
    where
      all : List ℕ
      all = from 0 most_points

      none' : Least
      none' = record { minute = never; point = no_point }

      minute_is : Found none' (from 0 most_points) (nearest_from given none' (from 0 most_points)) → (nearest_from given none' (from 0 most_points)).minute ≡ least_of test at (from 0 most_points)
      minute_is i = omega (arith, i.0, least_never test at (from 0 most_points))

      point_is : Found none' (from 0 most_points) (nearest_from given none' (from 0 most_points)) → (c : Bool) → ltb (least_of test at (from 0 most_points)) never ≡ c
          → (nearest_from given none' (from 0 most_points)).point ≡ first (from 0 most_points)
      point_is i true e = i.1 ∙ rw e refl
      point_is i false e = i.1 ∙ rw e (sym (none_passes (least_of test at (from 0 most_points)) (from 0 most_points) (omega (arith, ltb-false (least_of test at (from 0 most_points)) never e))))
