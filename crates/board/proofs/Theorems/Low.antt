-- A Low is never far past the clock, so what an offer holds back is past the latest because of a High. Assumes that the
-- records keep the rules of a plan, and that the board is sound.
use mathlib.Core.Path.{◌≡◌, refl}
use mathlib.Core.Bool.{Bool, true, false, ◌&&◌}
use mathlib.Core.List.{List}
use Prim.Native.Nat.{ℕ, ◌+◌, ◌-◌, ◌≤◌, ◌<◌}
use native.Mathlib.Omega.{arith}
use lib.Dec.{eqb}
use lib.ListN.{length, get_or}
use Rattle.std.specs.Prelude.{if◌then◌else◌}
use Rattle.plan.specs.Limits.{farthest}
use Rattle.plan.specs.APlan.{point, ordinary, wait, is, link_to, blank, gap_of}
use Rattle.records.specs.declared.Record.{Record}
use Rattle.plan.proofs.Accepted.{Accepted, not_a}
use Rattle.board.specs.Boards.{is_done, minute, running}
use Rattle.board.specs.Windows.{earliest, low, H}
use Rattle.board.specs.Stuck.{latest}
use Rattle.board.specs.declared.Board.{Board}
use Rattle.board.proofs.Theorems.Each.{both, greatest_le}
use Rattle.board.proofs.Theorems.Soundness.{Sound}
use Rattle.board.proofs.Theorems.Links.{link_to_lem}

module _ (rs : List Record) (ok : Accepted rs) (b : Board) (w : Sound rs b) (q : ℕ) where
  near_at : (i : ℕ) → i < length rs → earliest rs b q (get_or rs i blank) ≤ b.clock + farthest
  near_at i h =
      go (eqb r.a q && (is ordinary r && is_done b r.b)) (eqb r.a q && (is wait r && running b l)) refl refl
    where
      r : Record
      r = get_or rs i blank

      l : Record
      l = link_to rs r.b

      go : (x y : Bool) → (eqb r.a q && (is ordinary r && is_done b r.b)) ≡ x → (eqb r.a q && (is wait r && running b l)) ≡ y
          → (if x then minute b r.b + (gap_of r.first).down - (gap_of r.first).up else (if y then minute b l.a + (gap_of r.first).up else 0)) ≤ b.clock + farthest
      go true y e f =
          let o = (both (is ordinary r) _ (both (eqb r.a q) _ e).1).0 in
          let n = ((ok.each i h).names (not_a r ordinary point (λ k. omega arith) o)).1 in
          let few = ok.few in
          omega (arith, (ok.each i h).ordinary_bounds o, w.past r.b (omega arith))
      go false true e f =
          let o = (both (is wait r) _ (both (eqb r.a q) _ f).1).0 in
          let t = link_to_lem rs ok r.b ((ok.each i h).wait_watched o) in
          omega (arith, ((ok.each i h).wait_bounds o).1, t.long, w.past l.a t.from)
      go false false e f = omega arith

  -- Low is at most 100,000 past the clock.
  pub low_near : low rs b q ≤ b.clock + farthest
  low_near = omega (arith, greatest_le (earliest rs b q) (b.clock + farthest) rs near_at)

  -- A Low past the latest is past H.
  pub held_past : latest rs b < low rs b q → H rs b < low rs b q + farthest
  held_past h = omega (arith, low_near)
