-- The table of where each link starts: start, turn and end of the loop, and that of a plan's sheet it has the A of each link. Assumes
-- nothing.
use mathlib.Core.Path.{◌≡◌, refl, sym, ap, ◌∙◌}
use mathlib.Core.Bool.{Bool, true, false, ◌&&◌, ◌||◌}
use mathlib.Core.List.{List, [], ◌∷◌}
use Prim.Native.Nat.{ℕ, zero, suc, ◌+◌, ◌-◌, ◌%◌, ◌≤◌, ◌<◌}
use native.Mathlib.Omega.{arith}
use native.Mathlib.Decide.{ℕ_discrete}
use borrow.Author.Tests.{eqb-true, eq-eqb, ne_eqb}
use lib.Dec.{eqb}
use lib.ListN.{length, get_or, set, replicate, length-set, length-replicate, get_or-replicate}
use lib.Seq.{get_or-set_same, get_or-set_other}
use Rattle.std.specs.Prelude.{if◌then◌else◌}
use Rattle.plan.specs.Limits.{most_points}
use Rattle.plan.specs.APlan.{link, is, some, first_that, watched, ends_at, link_to, blank}
use Rattle.plan.proofs.Accepted.{Accepted}
use Rattle.records.specs.declared.Record.{Record}
use Rattle.board.proofs.Theorems.Links.{link_at}
use Rattle.rows.specs.declared.sheet.Row.{Row}
use Rattle.rows.specs.Sheet.{row_at, kind_at, from_at, over_at}
use Rattle.rows.specs.Layout.{row_of, RowIs, LaidOut}
use Rattle.steps.specs.Found.{start_from, StartsIn}

-- ---- the loop

-- the links of the rows from `left` on are there
pub record Filled (s : List ℕ) (m : ℕ) (starts : List ℕ) (left : ℕ) : Type 0 where
  pub near : left ≤ m
  pub long : length starts ≡ most_points
  pub each : (C : ℕ) → C < most_points → get_or starts C 0 ≡ start_from s C left (m - left)

pub filled_start : (s : List ℕ) (m : ℕ) → Filled s m (replicate most_points most_points) m
unfolding start_from
filled_start s m =
    let z : m - m ≡ 0 = omega arith in
    record { near = omega arith; long = length-replicate {A = ℕ} most_points most_points; each = λ C h. rw z (get_or-replicate most_points C most_points 0 h) }

module _ {s : List ℕ} {m : ℕ} {starts : List ℕ} {left : ℕ} (f : Filled s m starts left) where
  pub filled_turn : 0 < left → {x : Row} → x ≡ row_at s (left - 1) → {c v : ℕ} → c ≡ x.over % most_points
      → v ≡ (if eqb x.kind 2 then x.from % most_points else get_or starts c 0) → Filled s m (set starts c v) (left - 1)
  unfolding start_from
  filled_turn h {x} e {c} {v} ec ev =
      let more : m - (left - 1) ≡ suc (m - left) = omega (arith, f.near) in
      let next : suc (left - 1) ≡ left = omega arith in
      record {
        near = omega (arith, f.near);
        long = simp length-set f.long;
        each = λ C l. rw (more, next) (at C l (ℕ_discrete C c));
      }
    where
      j : ℕ
      j = left - 1

      c_is : c ≡ over_at s (left - 1) % most_points
      c_is = ec ∙ ap (λ (x : Row). x.over % most_points) e

      v_is : v ≡ (if eqb (kind_at s (left - 1)) 2 then from_at s (left - 1) % most_points else get_or starts c 0)
      v_is = ev ∙ ap (λ (x : Row). if eqb x.kind 2 then x.from % most_points else get_or starts c 0) e

      own : (k : Bool) (C : ℕ) → C < most_points → C ≡ c → (if k then from_at s (left - 1) % most_points else get_or starts c 0)
          ≡ (if k && true then from_at s (left - 1) % most_points else start_from s C left (m - left))
      own true C l u = refl
      own false C l u = rw (← u) (f.each C l)

      other : (k : Bool) (y z : ℕ) → z ≡ (if k && false then y else z)
      other true y z = refl
      other false y z = refl

      at : (C : ℕ) → C < most_points → Dec (C ≡ c) → get_or (set starts c v) C 0
          ≡ (if eqb (kind_at s (left - 1)) 2 && eqb C (over_at s (left - 1) % most_points) then from_at s (left - 1) % most_points else start_from s C left (m - left))
      at C l (yes u) =
          let t : eqb C (over_at s (left - 1) % most_points) ≡ true = eq-eqb C (over_at s (left - 1) % most_points) (u ∙ c_is) in
          ap (λ (i : ℕ). get_or (set starts c v) i 0) u ∙ get_or-set_same starts c v 0 (omega (arith, f.long)) ∙ v_is
          ∙ rw t (own (eqb (kind_at s (left - 1)) 2) C l u)
      at C l (no n) =
          let t : eqb C (over_at s (left - 1) % most_points) ≡ false = ne_eqb C (over_at s (left - 1) % most_points) (λ u. n (u ∙ sym c_is)) in
          get_or-set_other starts c C v 0 n ∙ f.each C l ∙ rw t (other (eqb (kind_at s (left - 1)) 2) (from_at s (left - 1) % most_points) (start_from s C left (m - left)))

  pub filled_end : left ≡ 0 → StartsIn s m starts
  filled_end e = let z : m - 0 ≡ m = omega arith in record { long = f.long; each = λ C h. rw z at (rw e at (f.each C h)) }

-- ---- a plan's sheet

-- some records from row i on, whose links join points that have places
record From (rs : List Record) (s : List ℕ) (i : ℕ) (xs : List Record) : Type 0 where
  laid : (k : ℕ) → k < length xs → RowIs s (i + k) (row_of rs (get_or xs k blank))
  small : (k : ℕ) → k < length xs → is link (get_or xs k blank) ≡ true → ((get_or xs k blank).a < most_points) × ((get_or xs k blank).b < most_points)

from_next : (rs : List Record) (s : List ℕ) (i : ℕ) (r : Record) (xs : List Record) → From rs s i (r ∷ xs) → From rs s (suc i) xs
from_next rs s i r xs f =
    record {
      laid = λ k h. let z : i + suc k ≡ suc i + k = omega arith in rw z at (f.laid (suc k) (omega arith));
      small = λ k h. f.small (suc k) (omega arith);
    }

starts_in : (rs : List Record) (s : List ℕ) (C i : ℕ) (xs : List Record) → From rs s i xs
    → start_from s C i (length xs) ≡ (if some (ends_at C) xs then (first_that (ends_at C) xs).a else most_points)
unfolding start_from some first_that
starts_in rs s C i [] f = refl
starts_in rs s C i (r ∷ xs) f = rw (here.kind, here.from, here.over) (go (is link r) refl (starts_in rs s C (suc i) xs (from_next rs s i r xs f)))
  where
    here : RowIs s i (row_of rs r)
    here = let z : i + 0 ≡ i = omega arith in rw z at (f.laid 0 (omega arith))

    on : (e : Bool) → start_from s C (suc i) (length xs) ≡ (if some (ends_at C) xs then (first_that (ends_at C) xs).a else most_points)
        → (if e then r.a else start_from s C (suc i) (length xs))
        ≡ (if e || some (ends_at C) xs then (if e then r else first_that (ends_at C) xs).a else most_points)
    on true h = refl
    on false h = h

    go : (k : Bool) → is link r ≡ k → start_from s C (suc i) (length xs) ≡ (if some (ends_at C) xs then (first_that (ends_at C) xs).a else most_points)
        → (if k && eqb C (r.b % most_points) then r.a % most_points else start_from s C (suc i) (length xs))
        ≡ (if (k && eqb C r.b) || some (ends_at C) xs then (if k && eqb C r.b then r else first_that (ends_at C) xs).a else most_points)
    go false e h = h
    go true e h =
        let m = f.small 0 (omega arith) e in
        let a : r.a % most_points ≡ r.a = omega (arith, m.0) in
        let b : r.b % most_points ≡ r.b = omega (arith, m.1) in
        rw (a, b) (on (eqb C r.b) h)

-- the A of the link to C, past the last place where C is not watched
pub starts_are : (rs : List Record) (ok : Accepted rs) (s : List ℕ) → LaidOut rs s → {starts : List ℕ} → StartsIn s (length rs) starts
    → (C : ℕ) → C < most_points → get_or starts C 0 ≡ (if watched rs C then (link_to rs C).a else most_points)
starts_are rs ok s laid t C h =
    t.each C h
    ∙ starts_in rs s C 0 rs
    (record {
      laid = λ k l. let z : 0 + k ≡ k = omega arith in rw z (laid.rows k l);
      small = λ k l e. let i = link_at rs ok k l e in (i.from, i.to);
    })
