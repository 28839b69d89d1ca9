-- The loops over the points: the open ones and each one's Low from the last point to the first, and the least High of some. Assumes
-- nothing.
use mathlib.Core.Path.{◌≡◌, refl, ◌∙◌}
use mathlib.Core.Bool.{Bool, true, false, not, ◌&&◌}
use mathlib.Core.List.{List, [], ◌∷◌}
use mathlib.Core.Logic.{by_cases}
use Prim.Native.Nat.{ℕ, suc, ◌+◌, ◌^◌, ◌<◌, ◌≤◌, min}
use native.Mathlib.Omega.{arith}
use native.Mathlib.Decide.{ℕ_discrete, dec_lt}
use borrow.Author.Tests.{eq-eqb, ne_eqb, lt-ltb, le-ltb}
use lib.Dec.{eqb, ltb}
use lib.ListN.{length, get_or, set, drop, replicate, length-set, length-replicate}
use lib.Seq.{get_or-set_same, get_or-set_other, get_or-drop}
use Rattle.points.specs.Sets.{member, members_of, with_of}
use Rattle.points.proofs.Laws.{Turn, member_empty, members_empty, member_with, with_fits}
use Rattle.std.specs.Prelude.{if◌then◌else◌}
use Rattle.plan.specs.Limits.{most_points}
use Rattle.lowhigh.specs.Rules.{never}
use Rattle.windows.specs.Inside.{least_at}
use Rattle.neighbours.specs.Lists.{entries_of, first_at}
use Rattle.rows.specs.declared.sheet.Row.{Row}
use Rattle.kept.specs.Rooms.{highs_at, done_at, holding, until_by}
use Rattle.kept_windows.specs.Answers.{open_at, low_at, shut_by, shut_at, holder_at, HoldersOf, Bare}

-- ---- the open points and the Lows

pub record Sofar (kept : List ℕ) (points watched : ℕ) (opens : ℕ) (lows : List ℕ) (p : ℕ) : Type 0 where
  pub near : p ≤ most_points
  pub fits : opens < 2 ^ 32
  pub long : length lows ≡ most_points
  pub members : (q : ℕ) → q < most_points → member opens q ≡ (not (ltb q p) && open_at kept points watched q)
  pub earliest : (q : ℕ) → p ≤ q → q < most_points → get_or lows q 0 ≡ low_at kept q

pub sofar_start : (kept : List ℕ) (points watched : ℕ) → Sofar kept points watched 0 (replicate most_points 0) most_points
sofar_start kept points watched =
    record {
      near = omega arith;
      fits = omega arith;
      long = length-replicate {A = ℕ} most_points 0;
      members = λ q h. rw (member_empty q, lt-ltb q most_points h);
      earliest = λ q l h. absurd (omega arith);
    }

module _ (kept : List ℕ) (points watched opens : ℕ) (lows : List ℕ) (p : ℕ) (s : Sofar kept points watched opens lows p) (j : ℕ) (e : p ≡ suc j) where
  pub sofar_turn : (so : Bool) (o v : ℕ) → so ≡ open_at kept points watched j → o ≡ (if so then with_of opens j else opens) → v ≡ low_at kept j
      → Sofar kept points watched o (set lows j v) j
  sofar_turn so o v is p1 p2 =
      record {
        near = omega (arith, s.near);
        fits = rw p1 (small so);
        long = simp length-set s.long;
        members = λ q h. rw p1 (one_of q h (ℕ_discrete q j));
        earliest = λ q l h. low_at_lem q l h (ℕ_discrete q j);
      }
    where
      small : (so : Bool) → (if so then with_of opens j else opens) < 2 ^ 32
      small true = with_fits opens j s.fits
      small false = s.fits

      low_at_lem : (q : ℕ) → j ≤ q → q < most_points → Dec (q ≡ j) → get_or (set lows j v) q 0 ≡ low_at kept q
      low_at_lem q l h (yes u) = rw (u, get_or-set_same lows j v 0 (omega (arith, s.long, s.near)), p2)
      low_at_lem q l h (no n) = get_or-set_other lows j q v 0 n ∙ s.earliest q (omega arith) h

      other : (so : Bool) (q : ℕ) → q < most_points → (q ≡ j → ⊥) → member (if so then with_of opens j else opens) q ≡ member opens q
      other true q h n = rw (member_with opens j q (omega (arith, s.near)), ne_eqb q j n)
      other false q h n = refl

      at_j : (so : Bool) → so ≡ open_at kept points watched j → member (if so then with_of opens j else opens) j ≡ so
      at_j true u = rw (member_with opens j j (omega (arith, s.near)), eq-eqb j j refl)
      at_j false u = s.members j (omega (arith, s.near)) ∙ rw (e, lt-ltb j (suc j) (omega arith))

      past : (q : ℕ) → (q ≡ j → ⊥) → ltb q (suc j) ≡ ltb q j
      past q n = by_cases (dec_lt q j) (λ l. rw (lt-ltb q j l, lt-ltb q (suc j) (omega arith))) (λ l. rw (le-ltb q j (omega arith), le-ltb q (suc j) (omega arith)))

      one_of : (q : ℕ) → q < most_points → Dec (q ≡ j) → member (if so then with_of opens j else opens) q ≡ (not (ltb q j) && open_at kept points watched q)
      one_of q h (yes u) = rw (u, le-ltb j j (omega arith)) (at_j so is ∙ is)
      one_of q h (no n) = other so q h n ∙ (s.members q h ∙ rw (e, past q n))

pub sofar_end : (kept : List ℕ) (points watched opens : ℕ) (holders lows : List ℕ) (p high : ℕ) → p ≡ 0 → Sofar kept points watched opens lows p
    → high ≡ least_at (drop highs_at kept) (members_of opens) → Bare kept points watched (record { opens = opens; holders = holders; lows = lows; high = high })
sofar_end kept points watched opens holders lows p high e s h =
    record {
      answers = λ rows out t x.
          record {
            fits = s.fits;
            long = s.long;
            long_holders = x.long;
            opens = λ q l. s.members q l ∙ rw (e, le-ltb q 0 (omega arith));
            holders = x.each;
            lows = λ q l. s.earliest q (omega arith) l;
            high = h;
          };
    }

-- ---- the records that hold the points

pub record Collecting (rows out kept : List ℕ) (p : ℕ) (t : List ℕ) : Type 0 where
  pub near : p ≤ most_points
  pub long : length t ≡ most_points
  pub each : (q : ℕ) → q < p → get_or t q 0 ≡ holder_at rows out kept q

pub collect_start : (rows out kept : List ℕ) → Collecting rows out kept 0 (replicate most_points 0)
collect_start rows out kept = record { near = omega arith; long = length-replicate {A = ℕ} most_points 0; each = λ q h. absurd (omega arith) }

pub collect_turn : (rows out kept : List ℕ) (p : ℕ) (t : List ℕ) → p < most_points → Collecting rows out kept p t → (x : ℕ) → x ≡ holder_at rows out kept p → Collecting rows out kept (p + 1) (set t p x)
collect_turn rows out kept p t h s x e = record { near = omega arith; long = simp length-set s.long; each = λ q l. at q l (ℕ_discrete q p) }
  where
    at : (q : ℕ) → q < p + 1 → Dec (q ≡ p) → get_or (set t p x) q 0 ≡ holder_at rows out kept q
    at q l (yes u) = rw (u, get_or-set_same t p x 0 (omega (arith, s.long)), e)
    at q l (no n) = get_or-set_other t p q x 0 n ∙ s.each q (omega arith)

pub collect_end : (rows out kept : List ℕ) (p : ℕ) (t : List ℕ) → most_points ≤ p → Collecting rows out kept p t → HoldersOf rows out kept t
collect_end rows out kept p t h s = record { long = s.long; each = λ q l. s.each q (omega arith) }

-- ---- one point

-- it is open by the tests that the code has
pub open_by_lem : (kept : List ℕ) (points watched p : ℕ) (does watches : Bool) → does ≡ member (get_or kept done_at 0) p → watches ≡ member watched p
    → ((ltb p points && (not watches && not does)) && eqb (get_or kept p 0) 0) ≡ open_at kept points watched p
open_by_lem kept points watched p does watches e f = λ i. (ltb p points && (not (f i) && not (e i))) && eqb (get_or kept p 0) 0

-- a row that still holds
pub shut_by_lem : (x : Row) (done p : ℕ) (holds does : Bool) → holds ≡ holding x → p ≡ until_by x → does ≡ member done p → (holds && not does) ≡ shut_by x done
shut_by_lem x done p holds does e f g = rw (g, f, e)

pub not_held : (rows out kept : List ℕ) (q : ℕ) → get_or kept q 0 ≡ 0 → 0 ≡ holder_at rows out kept q
not_held rows out kept q e = rw e

pub still_held : (rows out kept : List ℕ) (q x : ℕ) → (get_or kept q 0 ≡ 0 → ⊥) → x ≡ first_at (shut_at rows (get_or kept done_at 0)) (entries_of out q) → x ≡ holder_at rows out kept q
still_held rows out kept q x n e = rw (ne_eqb (get_or kept q 0) 0 n) e

-- ---- the least High

pub least_at_le : (highs : List ℕ) (ps : List ℕ) → least_at highs ps ≤ never
unfolding least_at
least_at_le highs [] = omega arith
least_at_le highs (p ∷ ps) = omega (arith, least_at_le highs ps)

pub least_turn : (kept : List ℕ) (s p rest : ℕ) → Turn s p rest → (n m : ℕ) → m ≡ min n (get_or kept (highs_at + p) 0)
    → min m (least_at (drop highs_at kept) (members_of rest)) ≡ min n (least_at (drop highs_at kept) (members_of s))
unfolding least_at
least_turn kept s p rest t n m e = rw (t.members, get_or-drop highs_at kept p 0, e) (omega arith)

pub least_end : (highs : List ℕ) (n : ℕ) → n ≤ never → n ≡ min n (least_at highs (members_of 0))
unfolding least_at
least_end highs n h = rw members_empty (omega arith)
