-- What an accepted plan and small minutes give the tables: records whose points have places and whose numbers are small.
-- Assumes nothing.
use mathlib.Core.Path.{◌≡◌, refl}
use mathlib.Core.Logic.{inl, inr}
use mathlib.Core.Bool.{true, false}
use mathlib.Core.List.{List}
use Prim.Native.Nat.{ℕ, ◌%◌, ◌≤◌, ◌<◌}
use native.Mathlib.Omega.{arith}
use borrow.Author.Tests.{eqb-true}
use lib.IntN.{ℤ, pos, negsuc}
use lib.ListN.{length, get_or}
use Rattle.plan.specs.Limits.{most_points}
use Rattle.plan.specs.APlan.{point, link, ordinary, wait, is, gap_of, blank}
use Rattle.plan.proofs.Accepted.{Rules, Accepted}
use Rattle.records.specs.declared.Record.{Record}
use Rattle.history.specs.History.{minute_in}
use Rattle.history.proofs.Tests.{either}
use Rattle.lowhigh.specs.Inside.{last_minute, Near, Small}
use Rattle.lowhigh.proofs.Windowing.{timed, Fine}

-- what adds takes nothing away
one_way : (z : ℤ) → 1 ≤ (gap_of z).up → (gap_of z).down ≡ 0
one_way (pos n) h = refl
one_way (negsuc n) h = absurd (omega arith)

module _ (rs : List Record) (ok : Accepted rs) (i : ℕ) (h : i < length rs) (r : Record) (here : get_or rs i blank ≡ r) where
  keeps : Rules rs r
  keeps = rw here at (ok.each i h)

  no_point_lem : timed r ≡ true → is point r ≡ false
  no_point_lem t = elim (either (is ordinary r) (is wait r) t) [ inl e ↦ rw (eqb-true r.kind 3 e) | inr e ↦ rw (eqb-true r.kind 4 e) ]

  wait_near : is wait r ≡ true → Near (gap_of r.first)
  wait_near e =
      let w = keeps.wait_bounds e in
      let l = ok.ends r.b (keeps.wait_watched e) in
      let k : is link (get_or rs l.2.0 blank) ≡ true = rw l.2.2 l.0 in
      let f = rw l.2.2 at ((ok.each l.2.0 l.2.1).link_bounds k) in
      record { up = omega (arith, w.1, f.2); down = omega (arith, one_way r.first w.0) }

  ordinary_near : is ordinary r ≡ true → Near (gap_of r.first)
  ordinary_near e = record { up = (keeps.ordinary_bounds e).0; down = (keeps.ordinary_bounds e).1 }

  pub fine : Fine rs r
  fine =
      record {
        first = λ t. omega (arith, (keeps.names (no_point_lem t)).0, ok.few);
        second = λ t. omega (arith, (keeps.names (no_point_lem t)).1, ok.few);
        ends = keeps.wait_watched;
      }

  -- where every minute is small, every number is
  pub small : (minutes : List ℕ) → ((q : ℕ) → q < most_points → minute_in minutes q ≤ last_minute) → (p q f : ℕ)
      → Small r (get_or minutes (p % most_points) 0) (get_or minutes (q % most_points) 0) (get_or minutes (f % most_points) 0)
  small minutes s p q f =
      record {
        ordinary_near = ordinary_near;
        wait_near = wait_near;
        from = s (p % most_points) (omega arith);
        to = s (q % most_points) (omega arith);
        start = s (f % most_points) (omega arith);
      }
