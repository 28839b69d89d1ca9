-- The tests of an event's set on a plan's links say what the rules say. Assumes nothing.
use mathlib.Core.Path.{◌≡◌, refl, sym, ap}
use mathlib.Core.Bool.{Bool, true, false, not, cond, ◌&&◌}
use mathlib.Core.List.{List, ◌∷◌}
use Prim.Native.Nat.{ℕ, zero, suc, ◌+◌, ◌<◌}
use native.Mathlib.Omega.{arith}
use lib.Dec.{leb}
use Rattle.points.specs.Sets.{member, members_of, from, passing, every}
use Rattle.plan.specs.Limits.{most_points}
use Rattle.plan.specs.APlan.{watched, link_to}
use Rattle.records.specs.declared.Record.{Record}
use Rattle.history.specs.History.{minute_in, runs}
use Rattle.links.specs.Ending.{ends_running, in_time}
use Rattle.links.specs.Inside.{LinksOf, runs_at, timely, timely_at}
use Rattle.links.specs.declared.End.{End}
use Rattle.links.specs.declared.Links.{Links}
use Rattle.links.proofs.Linking.{runs_to_lem}

-- two tests that agree below 32 agree on the members of a set
same_passing : (f g : ℕ → Bool) (s n p : ℕ) → ((q : ℕ) → q < p + n → f q ≡ g q) → every f (passing (member s) (from p n)) ≡ every g (passing (member s) (from p n))
unfolding every passing from
same_passing f g s zero p h = refl
same_passing f g s (suc n) p h = go (member s p) (same_passing f g s n (suc p) (λ q l. h q (omega arith)))
  where
    rest : List ℕ
    rest = passing (member s) (from (suc p) n)

    go : (b : Bool) → every f rest ≡ every g rest → every f (cond b (p ∷ rest) rest) ≡ every g (cond b (p ∷ rest) rest)
    go true e = rw (h p (omega arith), e)
    go false e = e

same_members : (f g : ℕ → Bool) (s : ℕ) → ((q : ℕ) → q < most_points → f q ≡ g q) → every f (members_of s) ≡ every g (members_of s)
unfolding members_of
same_members f g s h = same_passing f g s 32 0 (λ q l. h q (omega arith))

-- the tests of the set
module _ (rs : List Record) (l : Links) (w : LinksOf rs l) (done : ℕ) (minutes : List ℕ) where
  runs_at_lem : (c : ℕ) → c < most_points → runs_at done l c ≡ ends_running rs done c
  runs_at_lem c h = rw (w.watches c h, w.ends c h) (go (watched rs c) refl)
    where
      go : (k : Bool) → watched rs c ≡ k → (k && (member done (link_to rs c).a && not (member done c))) ≡ (k && runs done (link_to rs c))
      go true e = sym (runs_to_lem rs done c e)
      go false e = refl

  pub all_run : (s : ℕ) → every (runs_at done l) (members_of s) ≡ every (ends_running rs done) (members_of s)
  all_run s = same_members (runs_at done l) (ends_running rs done) s runs_at_lem

  pub all_timely : (t s : ℕ) → every (timely_at minutes l t) (members_of s) ≡ every (in_time rs minutes t) (members_of s)
  all_timely t s = same_members (timely_at minutes l t) (in_time rs minutes t) s (λ c h. ap (λ (e : End). timely (minute_in minutes e.from) e t) (w.ends c h))

-- from what the code has for the minutes and the link's numbers, whether the link may end at t
pub timely_by : (from : ℕ) (e : End) (t : ℕ) {f x u v g y : ℕ} → f ≡ from → x ≡ e.shortest → u ≡ t → v ≡ t → g ≡ from → y ≡ e.longest
    → (leb (f + x) u && leb v (g + y)) ≡ timely from e t
timely_by from e t p q r s o w = rw (p, q, r, s, o, w)
