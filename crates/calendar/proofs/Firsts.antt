-- The first records of an accepted plan are its points, in the order of their numbers: a point's number is the next one,
-- and kinds never fall. Assumes nothing.
use mathlib.Core.Path.{◌≡◌, refl, sym, ap, ◌∙◌, subst}
use mathlib.Core.Bool.{true, false}
use mathlib.Core.List.{List, [], ◌∷◌, ◌++◌, map, append-nil}
use Prim.Native.Nat.{ℕ, zero, suc, ◌+◌, ◌≤◌, ◌<◌}
use native.Mathlib.Omega.{arith}
use native.Mathlib.Decide.{dec_lt}
use mathlib.Core.Logic.{by_cases}
use borrow.Author.Tests.{eqb-true, leb-true, eq-eqb, ne_eqb}
use lib.Dec.{eqb}
use lib.ListN.{length, get_or, length-append, get_or-append}
use lib.Seq.{append_snoc, get_or-append_seam}
use Rattle.records.specs.declared.Record.{Record}
use Rattle.records.proofs.Records.{many_snoc, many_le}
use Rattle.rules.specs.OneRecord.{after, is_known, last_kind}
use Rattle.rules.proofs.Passed.{Passed, passed}
use Rattle.rules.proofs.Shows.{last_snoc}
use Rattle.board.proofs.Theorems.Each.{clash}
use Rattle.plan.specs.Limits.{most_ordinary}
use Rattle.plan.specs.APlan.{Kind, point, kind_of, is, how_many, points, blank, records_of}
use Rattle.plan.specs.ReplyNumbers.{number_of, first_bad, first_bad_with, check_with}
use Rattle.plan.specs.Held.{plain}
use Rattle.plan.specs.declared.Refusal.{Refusal}
use Rattle.plan.proofs.Entries as Entries
use Rattle.plan.proofs.Limited.{good}
use Rattle.calendar.specs.Promises.{IsPoint, PointsFirst}

-- what holds of the records so far
record Firsts (rs : List Record) : Type 0 where
  each : (i : ℕ) → i < points rs → IsPoint (get_or rs i blank) i
  -- before the first link there are only points
  only : last_kind 0 rs ≤ 1 → points rs ≡ length rs

-- kind 0 is unknown
unknown_refused : is_known (kind_of 0) ≡ true → ⊥
unknown_refused e = clash (sym e)

firsts_none : Firsts []
unfolding how_many last_kind
firsts_none = record { each = λ i h. absurd (omega arith); only = λ h. refl }

module _ (rs : List Record) (r : Record) (ok : number_of (after rs) r 0 ≡ 0) (w : Firsts rs) where
  abbrev more : List Record
  more = rs ++ (r ∷ [])

  pass : Passed (kind_of r.kind) (after rs) r 0
  pass = passed (kind_of r.kind) (after rs) r 0 ok

  long : length more ≡ length rs + 1
  long = length-append rs (r ∷ [])

  -- an old one is where it was
  old : (i : ℕ) → i < points rs → IsPoint (get_or more i blank) i
  old i h = rw (get_or-append rs (r ∷ []) blank i (omega (arith, many_le (is point) rs))) (w.each i h)

  -- one more point
  a_point_lem : r.kind ≡ 1 → Firsts more
  a_point_lem e =
      let all : points rs ≡ length rs = w.only (omega (arith, leb-true (last_kind 0 rs) r.kind pass.order)) in
      let g : kind_of r.kind ≡ point = ap (λ (x : ℕ). kind_of x) e in
      let k : Passed point (after rs) r 0 = subst (λ (q : Kind). Passed q (after rs) r 0) g pass in
      let z : is point r ≡ true = eq-eqb r.kind 1 e in
      let n : points more ≡ points rs + 1 = rw z at (many_snoc (is point) rs r) in
      let a : r.a ≡ points rs = eqb-true r.a (points rs) k.names in
      record {
        each = λ i h. by_cases (dec_lt i (points rs)) (λ l. old i l)
            (λ l. let q : i ≡ length rs = omega (arith, l) in
            rw (q, get_or-append_seam rs r [] blank) (record { kind = e; number = a ∙ all }));
        only = λ h. omega (arith, n, all, long);
      }

  -- one more of another kind, after which there are no points
  another : 1 < r.kind → Firsts more
  another p =
      let z : eqb r.kind 1 ≡ false = ne_eqb r.kind 1 (λ f. omega arith) in
      let n : points more ≡ points rs + 0 = rw z at (many_snoc (is point) rs r) in
      record {
        each = λ i h. old i (omega arith);
        only = λ h. absurd (omega (arith, rw (last_snoc 0 rs r) at h));
      }

-- ---- all records

firsts_more : (rs : List Record) (r : Record) → number_of (after rs) r 0 ≡ 0 → Firsts rs → Firsts (rs ++ (r ∷ []))
firsts_more rs r ok w = go r.kind refl
  where
    go : (x : ℕ) → r.kind ≡ x → Firsts (rs ++ (r ∷ []))
    go zero e = absurd (unknown_refused (rw e at (pass rs r ok w).known))
    go (suc zero) e = a_point_lem rs r ok w e
    go (suc (suc x)) e = another rs r ok w (omega arith)

firsts_all : (rs xs : List Record) → Firsts rs → (first_bad rs (map plain xs)).number ≡ 0 → Firsts (rs ++ xs)
unfolding first_bad_with
firsts_all rs [] w e = rw (append-nil rs) w
firsts_all rs (x ∷ xs) w e =
    let n : number_of (after rs) x 0 ≡ 0 = Entries.passed (λ (x : Refusal). x.number) _ _ _ refl e in
    rw (append_snoc rs x xs) at (firsts_all (rs ++ (x ∷ [])) xs (firsts_more rs x n w) (rw n at e))

pub points_first : PointsFirst
unfolding check_with
points_first p ok = (firsts_all [] (records_of p) firsts_none (good most_ordinary p.count (map plain (records_of p)) ok).none).each
