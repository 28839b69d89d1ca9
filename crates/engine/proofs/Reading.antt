-- A table read from the room, and how an event's number says that its bytes are well formed. Assumes nothing.
use mathlib.Core.Path.{◌≡◌, refl, sym, ap, ◌∙◌}
use mathlib.Core.List.{List}
use Prim.Native.Nat.{ℕ, ◌+◌, ◌%◌, ◌^◌, ◌<◌, ◌≤◌}
use native.Mathlib.Omega.{arith}
use native.Mathlib.Decide.{ℕ_discrete}
use borrow.Author.Tests.{eq-eqb, ne_eqb}
use lib.ListN.{length, get_or, set, replicate, length-set, length-replicate}
use lib.Seq.{get_or-set_same, get_or-set_other}
use Rattle.plan.specs.Limits.{most_points, record_bytes}
use Rattle.plan.specs.declared.Refusal.{Refusal}
use Rattle.links.specs.declared.Links.{Links}
use Rattle.events.specs.Fields.{event_point, event_set}
use Rattle.events.specs.Inside.{event_in}
use Rattle.events.proofs.Forming.{formed_length}
use Rattle.windows.specs.Inside.{point_from, beside_from, refused}
use Rattle.windows.specs.declared.Windows.{Windows}
use Rattle.board.specs.declared.Board.{Board}
use Rattle.planless.specs.ByWindows.{later_by, number_by, with_record}
use Rattle.planless.proofs.Numbering.{numbered_formed, taken_formed}
use Rattle.kept_windows.specs.Answers.{holder_at, with_holders, Bare}
use Rattle.kept_windows.proofs.Naming.{all, all_holders, same_holder}
use Rattle.kept.specs.Rooms.{event_done_by}
use Rattle.engine.specs.Takes.{TableAt, BoardIn, NumbersWith, TakesWith}

-- the first q numbers are read
pub record Reads (kept : List ℕ) (at q : ℕ) (t : List ℕ) : Type 0 where
  pub near : q ≤ most_points
  pub long : length t ≡ most_points
  pub each : (p : ℕ) → p < q → get_or t p 0 ≡ get_or kept (at + p) 0

pub reads_start : (kept : List ℕ) (at : ℕ) → Reads kept at 0 (replicate most_points 0)
reads_start kept at = record { near = omega arith; long = length-replicate {A = ℕ} most_points 0; each = λ p h. absurd (omega arith) }

pub reads_turn : (kept : List ℕ) (at q : ℕ) (t : List ℕ) → q < most_points → Reads kept at q t → Reads kept at (q + 1) (set t q (get_or kept (at + q) 0))
reads_turn kept at q t h r = record { near = omega arith; long = simp length-set r.long; each = λ p l. go p l (ℕ_discrete p q) }
  where
    go : (p : ℕ) → p < q + 1 → Dec (p ≡ q) → get_or (set t q (get_or kept (at + q) 0)) p 0 ≡ get_or kept (at + p) 0
    go p l (yes e) = rw e (get_or-set_same t q (get_or kept (at + q) 0) 0 (omega (arith, r.long)))
    go p l (no n) = get_or-set_other t q p (get_or kept (at + q) 0) 0 n ∙ r.each p (omega arith)

pub reads_end : (kept : List ℕ) (at q : ℕ) (t : List ℕ) → most_points ≤ q → Reads kept at q t → TableAt kept at t
reads_end kept at q t h r = record { long = r.long; each = λ p l. r.each p (omega arith) }

-- ---- an event's number, without the records that hold the points

module _ (l : Links) (rows out kept s : List ℕ) (b : Board) (h : BoardIn kept b) (w : Windows) (x : Bare kept l.points l.watched w) where
  abbrev number : Windows → ℕ
  number v = number_by l b.clock b.done b.minutes v s

  abbrev whole : Windows
  whole = with_holders w (all rows out kept)

  -- holders change no number
  same_number : number whole ≡ number w
  unfolding number_by later_by point_from
  same_number = refl

  numbers_with : (r : Refusal) → r ≡ with_record l b.done whole s (number whole) → NumbersWith l rows out kept s r
  numbers_with r f = record { board = b; holds = h; windows = whole; answers = x.answers rows out (all rows out kept) (all_holders rows out kept); found = f }

  module _ (r : Refusal) (f : r ≡ with_record l b.done w s (number w)) where
    number_is : r.number ≡ number w
    number_is = ap (λ (q : Refusal). q.number) f

    -- beside another number than 28 there is no record
    pub unnamed : (r.number ≡ 28 → ⊥) → NumbersWith l rows out kept s r
    unnamed n =
        let e = ne_eqb (number w) 28 (λ u. n (number_is ∙ u)) in
        numbers_with r (rw (same_number, e) (rw e at f))

    -- an event of number 28 has its sixteen bytes
    pub formed_28 : r.number ≡ 28 → record_bytes ≤ length s
    formed_28 z = omega (arith, formed_length l.points s (numbered_formed l b.clock b.done b.minutes w s 28 (λ u. omega arith) (λ u. omega arith) (λ u. omega arith) (sym number_is ∙ z)))

    -- and beside it the record is that of the event's point
    pub named : r.number ≡ 28 → (v : Windows) → v ≡ with_holders w (replicate most_points (holder_at rows out kept (event_point s % most_points))) → (i : ℕ) → i ≡ beside_from l b.done v (event_point s) 28
        → (r' : Refusal) → r' ≡ refused 28 i → NumbersWith l rows out kept s r'
    named z v e i g r' f' =
        let n : number w ≡ 28 = sym number_is ∙ z in
        let k : i ≡ beside_from l b.done whole (event_point s) 28 = rw (e, same_holder rows out kept (all rows out kept) (all_holders rows out kept) (event_point s)) at g in
        numbers_with r' (rw (same_number, n) (rw k at f'))

-- ---- an event

module _ (l : Links) (rows into out ends kept s : List ℕ) (r : Refusal) (n : NumbersWith l rows out kept s r) where
  -- an event of number 0 has its sixteen bytes
  pub formed : r.number ≡ 0 → record_bytes ≤ length s
  formed z =
      let b = n.board in
      let e : r.number ≡ _ = ap (λ (f : Refusal). f.number) n.found in
      omega (arith, formed_length l.points s (taken_formed l b.clock b.done b.minutes n.windows s (rw e at z)))

  pub takes : (kept' : List ℕ) → r.number ≡ 0 → event_set s < 2 ^ 32 → kept' ≡ event_done_by rows into out ends (event_in s) kept → TakesWith l rows into out ends kept s r kept'
  takes kept' z f e = record { numbers = n; fits = λ h. f; after = rw (eq-eqb r.number 0 z) e }

  pub refuses : (r.number ≡ 0 → ⊥) → TakesWith l rows into out ends kept s r kept
  refuses h = record { numbers = n; fits = λ z. absurd (h z); after = rw (ne_eqb r.number 0 h) }
