-- Document 02, §6: why a point is shut. Assumes that the plan passes the check, and nothing of the board.
use mathlib.Core.Path.{◌≡◌, refl, sym, ap, ◌∙◌}
use mathlib.Core.Logic.{inl, inr}
use mathlib.Core.Bool.{Bool, true, false, not, ◌&&◌, ◌||◌}
use mathlib.Core.List.{List}
use Prim.Native.Nat.{ℕ, zero, suc, ◌≤◌, ◌<◌}
use native.Mathlib.Omega.{arith}
use lib.Dec.{eqb, ltb, leb}
use lib.ListN.{length, get_or}
use borrow.Author.Tests.{eqb-true, eq-eqb, ne_eqb, not-true, not-false}
use Rattle.std.specs.Prelude.{if◌then◌else◌}
use Rattle.plan.specs.APlan.{point, ordinary, wait, is, some, points, records_of, blank}
use Rattle.plan.specs.ReplyNumbers.{check_of}
use Rattle.plan.specs.declared.Plan.{Plan}
use Rattle.plan.proofs.Accepted.{Accepted, accepted_plan, get_d_some, first_point, not_a}
use Rattle.records.specs.declared.Record.{Record}
use Rattle.history.proofs.Tests.{clash, both, either}
use Rattle.lowhigh.proofs.Firsts.{nothing_so, no_place, FirstSo, place_first}
use Rattle.lowhigh.specs.Rules.{number_at}
use Rattle.points.specs.Sets.{members_of, every}
use Rattle.board.specs.Boards.{each}
use Rattle.board.specs.Windows.{shuts, foremans, is_open, holder, low, some_open}
use Rattle.board.specs.Stuck.{finished, stuck, latest}
use Rattle.board.specs.Events.{event_minute, event_point, no_point, event_set, well_formed, ends_running, in_time, not_late, event_number}
use Rattle.board.specs.Why.{NoHolder, FirstHolder, WhyShut, Why28}
use Rattle.board.specs.declared.Board.{Board}

-- A point is open exactly when it is the foreman's, not yet done, and no record keeps it shut.
pub open_is : (rs : List Record) (b : Board) (q : ℕ) → is_open rs b q ≡ (foremans rs b q && not (some (shuts rs b q) rs))
open_is rs b q = ap (λ (t : Bool). foremans rs b q && t) (nothing_so 0 (shuts rs b q) rs)

-- a record that keeps a point shut is no point's
shuts_kind : (rs : List Record) (b : Board) (q : ℕ) (r : Record) → shuts rs b q r ≡ true → is point r ≡ false
shuts_kind rs b q r e =
    elim (either (is ordinary r && _) (is wait r && _) (both (eqb r.a q) _ e).1) [
      | inl o ↦ not_a r ordinary point (λ z. omega arith) (both (is ordinary r) _ o).0
      | inr w ↦ not_a r wait point (λ z. omega arith) (both (is wait r) _ w).0
    ]

module _ (p : Plan) (ok : (check_of p).number ≡ 0) (b : Board) where
  abbrev rs : List Record
  rs = records_of p

  known : Accepted rs
  known = accepted_plan p ok

  -- Where some record keeps a point shut, the one that is named is the first.
  first_holder : (q : ℕ) → some (shuts rs b q) rs ≡ true → FirstHolder rs b q (holder rs b q)
  first_holder q e =
      let f = place_first 0 (shuts rs b q) rs e in
      let k : holder rs b q ≡ f.0 = ap number_at f.1 ∙ omega arith in
      rw k (record { listed = f.2.listed; holds = f.2.is_so; first = f.2.none_before; not_0 = past f.0 f.2 })
    where
      past : (k : ℕ) → FirstSo (shuts rs b q) rs k → 0 < k
      past zero w =
          clash (sym (first_point p ok (omega (arith, w.listed))) ∙ shuts_kind rs b q (get_or rs 0 blank) w.is_so)
      past (suc k) w = omega arith

  none_shuts : (q : ℕ) → NoHolder rs b q → some (shuts rs b q) rs ≡ false
  none_shuts q n = go (some (shuts rs b q) rs) refl
    where
      go : (t : Bool) → some (shuts rs b q) rs ≡ t → t ≡ false
      go true e = let f = first_holder q e in clash (sym f.holds ∙ n.none _ f.listed)
      go false e = refl

  no_holder : (q : ℕ) → some (shuts rs b q) rs ≡ false → NoHolder rs b q
  no_holder q e = record { none = λ i h. go i h (shuts rs b q (get_or rs i blank)) refl }
    where
      go : (i : ℕ) → i < length rs → (t : Bool) → shuts rs b q (get_or rs i blank) ≡ t → t ≡ false
      go i h true f = clash (sym (get_d_some (shuts rs b q) rs i h f) ∙ e)
      go i h false f = refl

  -- A foreman's point not yet done is open exactly when no record holds it; where it is not, its record is the first that does.
  pub why_shut : (q : ℕ) → foremans rs b q ≡ true → WhyShut rs b q
  why_shut q f =
      record {
        free = λ e. no_holder q (not-true _ (sym is ∙ e));
        opens = λ n. is ∙ rw (none_shuts q n);
        shut = λ e. first_holder q (not-false _ (sym is ∙ e));
      }
    where
      is : is_open rs b q ≡ not (some (shuts rs b q) rs)
      is = open_is rs b q ∙ ap (λ (t : Bool). t && not (some (shuts rs b q) rs)) f

  -- Room past the plan's last point has no record.
  pub past_last : (q : ℕ) → points rs ≤ q → holder rs b q ≡ 0
  past_last q h = ap number_at (no_place 0 (shuts rs b q) rs (go (some (shuts rs b q) rs) refl))
    where
      go : (t : Bool) → some (shuts rs b q) rs ≡ t → t ≡ false
      go true e =
          let f = first_holder q e in
          let r = get_or rs (holder rs b q) blank in
          let n = (known.each _ f.listed).names (shuts_kind rs b q r f.holds) in
          let a = eqb-true r.a q (both (eqb r.a q) _ f.holds).0 in
          absurd (omega (arith, n.0, a))
      go false e = refl

  -- An event of number 28 has a point that is not open.
  not_open : (s : List ℕ) → event_number rs b s ≡ 28 → is_open rs b (event_point s) ≡ false
  unfolding event_number
  not_open s e =
      go (finished rs b) (stuck rs b) (not (well_formed rs s)) (ltb (event_minute s) b.clock) (not (every (ends_running rs b) (members_of (event_set s))))
      (not (every (in_time rs b (event_minute s)) (members_of (event_set s)))) (not (each (not_late b (event_minute s) (event_set s)) rs)) (eqb (event_point s) no_point) (is_open rs b (event_point s))
      (not (eqb (event_point s) no_point || leb (low rs b (event_point s)) (event_minute s))) (some_open rs b && ltb (latest rs b) (event_minute s)) e
    where
      go : (f k w c r t l n o x y : Bool)
          → ◌≡◌ {A = ℕ} (if f then 21 else (if k then 22 else (if w then 23 else (if c then 24 else (if r then 25 else (if t then 26 else (if l then 27 else (if not (n || o) then 28 else (if x then 29 else (if y then 30 else 0)))))))))) 28
          → o ≡ false
      go true k w c r t l n o x y e = absurd (omega arith)
      go false true w c r t l n o x y e = absurd (omega arith)
      go false false true c r t l n o x y e = absurd (omega arith)
      go false false false true r t l n o x y e = absurd (omega arith)
      go false false false false true t l n o x y e = absurd (omega arith)
      go false false false false false true l n o x y e = absurd (omega arith)
      go false false false false false false true n o x y e = absurd (omega arith)
      go false false false false false false false n false x y e = refl
      go false false false false false false false true true true y e = absurd (omega arith)
      go false false false false false false false true true false true e = absurd (omega arith)
      go false false false false false false false true true false false e = absurd (omega arith)
      go false false false false false false false false true true y e = absurd (omega arith)
      go false false false false false false false false true false true e = absurd (omega arith)
      go false false false false false false false false true false false e = absurd (omega arith)

  -- The record beside an event's number.
  pub why_28 : (s : List ℕ) → Why28 rs b s
  why_28 s =
      record {
        shut = λ e f. rw (eq-eqb (event_number rs b s) 28 e, f) ((why_shut (event_point s) f).shut (not_open s e));
        no_foremans = λ f. rw f (neither (eqb (event_number rs b s) 28));
        other = λ n. rw (ne_eqb (event_number rs b s) 28 n);
      }
    where
      neither : (t : Bool) → (if t && false then holder rs b (event_point s) else 0) ≡ 0
      neither true = refl
      neither false = refl
