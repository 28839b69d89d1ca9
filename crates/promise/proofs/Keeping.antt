-- Whether a sheet is good, computed: one test over the records. Assumes nothing.
use mathlib.Core.Path.{◌≡◌}
use mathlib.Core.Bool.{Bool, true, ◌&&◌}
use mathlib.Core.List.{List}
use Prim.Native.Nat.{ℕ, ◌+◌, ◌≤◌, min}
use native.Mathlib.Omega.{arith}
use lib.Dec.{eqb, leb}
use borrow.Author.Tests.{leb-true, eqb-true}
use Rattle.points.specs.Sets.{first_or}
use Rattle.std.specs.Prelude.{if◌then◌else◌}
use Rattle.plan.specs.Limits.{farthest}
use Rattle.plan.specs.APlan.{Kind, link, ordinary, wait, is, link_to, gap_of, records_of}
use Rattle.plan.specs.ReplyNumbers.{check_of}
use Rattle.records.specs.declared.Record.{Record}
use Rattle.plan.specs.declared.Plan.{Plan}
use Rattle.plan.proofs.Accepted.{Accepted, accepted_plan, not_a}
use Rattle.board.specs.Boards.{shortest, longest, each}
use Rattle.board.proofs.Theorems.Each.{both, each_at}
use Rattle.vee.specs.PlanTest.{Has, LinkIn, WaitIn, OrdinaryIn}
use Rattle.promise.specs.GoodSheets.{GoodSheet, minutes_of, Near}
use Rattle.promise.proofs.Nets.{joins}

-- the minutes g keep the record r at the durations ω, and a link's duration is in bounds
abbrev pub keeps_it : List Record → (ℕ → ℕ) → (ℕ → ℕ) → Record → Bool
keeps_it rs ω g r =
    if is ordinary r then leb (g r.b + (gap_of r.first).down) (g r.a + (gap_of r.first).up)
    else (if is link r then eqb (g r.b) (g r.a + ω r.b) && (leb (shortest r) (ω r.b) && leb (ω r.b) (longest r))
    else (if is wait r then leb (g (link_to rs r.b).a + min (gap_of r.first).up (ω r.b)) (g r.a)
    else true))

module _ (p : Plan) (ok : (check_of p).number ≡ 0) (ω g : ℕ → ℕ) (all : each (keeps_it (records_of p) ω g) (records_of p) ≡ true) where
  abbrev rs : List Record
  rs = records_of p

  known : Accepted rs
  known = accepted_plan p ok

  kept : {k : Kind} {r : Record} → Has rs k r → keeps_it rs ω g r ≡ true
  kept h = rw h.here at (each_at (keeps_it rs ω g) rs all h.place h.listed)

  ordinary_kept_lem : {X up down Y : ℕ} → OrdinaryIn rs X up down Y → g Y + down ≤ g X + up
  ordinary_kept_lem r = leb-true _ _ (rw (r.has.kind, r.from, r.to, r.up, r.down) at (kept r.has))

  link_kept : {A x y C : ℕ} → LinkIn rs A x y C → (g C ≡ g A + ω C) × (x ≤ ω C) × (ω C ≤ y)
  link_kept {A} {x} {y} {C} l =
      let r = l.what in
      let n = not_a r link ordinary (λ e. omega arith) l.has.kind in
      let h = rw (n, l.has.kind, l.from, l.to, l.least, l.most) at (kept l.has) in
      let e = both (eqb (g C) (g A + ω C)) _ h in
      let f = both (leb x (ω C)) _ e.1 in
      (eqb-true _ _ e.0, leb-true _ _ f.0, leb-true _ _ f.1)

  wait_kept_lem : {A x y B C w : ℕ} → LinkIn rs A x y C → WaitIn rs B C w → g A + min w (ω C) ≤ g B
  wait_kept_lem l v =
      let r = v.what in
      let n = not_a r wait ordinary (λ e. omega arith) v.has.kind in
      let m = not_a r wait link (λ e. omega arith) v.has.kind in
      leb-true _ _ (rw (n, m, v.has.kind, v.holds, v.until, v.long, (joins rs known l).from) at (kept v.has))

  -- A sheet that the test takes for good, and whose minutes are near one another, is good.
  pub good_computed : first_or 0 (minutes_of (records_of p) g) ≤ farthest → Near (minutes_of (records_of p) g) → GoodSheet p ω g
  good_computed first near =
      record {
        within = record { within = λ l. let i = link_kept l in (i.1, i.2) };
        records = ordinary_kept_lem;
        links = λ l. (link_kept l).0;
        waits = wait_kept_lem;
        first = first;
        near = near;
      }
