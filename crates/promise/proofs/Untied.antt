-- A plan that does not pass and forbids a good sheet, so that `exactly_the_good` could not do without the test: the haul
-- within an hour of the call, without a record that says by when the truck has to leave (examples/haul-no-tie). Assumes
-- nothing.
use mathlib.Core.Path.{◌≡◌, refl, sym, ap, ◌∙◌}
use mathlib.Core.Logic.{inl, inr}
use mathlib.Core.Bool.{true, false, not, ◌&&◌, ◌||◌}
use mathlib.Core.List.{List, [], ◌∷◌}
use Prim.Native.Nat.{ℕ, zero, suc, ◌+◌, ◌≤◌, ◌<◌}
use native.Mathlib.Omega.{arith}
use lib.Dec.{ltb}
use lib.IntN.{pos}
use lib.ListN.{get_or}
use borrow.Author.Tests.{lt-ltb, not-true}
use Rattle.points.specs.Sets.{from, first_or}
use Rattle.points.proofs.Laws.{member_empty, member_small}
use Rattle.plan.specs.Limits.{most_points, farthest}
use Rattle.plan.specs.APlan.{how_many, some, first_that, points, watched, link_to, plan_of, records_of}
use Rattle.plan.specs.Haul.{a_point, a_link, an_ordinary, a_wait}
use Rattle.plan.specs.Held.{All, IsByte}
use Rattle.plan.specs.ReplyNumbers.{check_of, check_with, first_bad_with, number_for_with, last_kind}
use Rattle.records.specs.declared.Record.{Record}
use Rattle.plan.specs.declared.Plan.{Plan}
use Rattle.plan.proofs.Accepted.{Accepted, accepted_plan}
use Rattle.board.specs.Boards.{is_done, minute, running, each}
use Rattle.board.specs.Windows.{is_open, low, H}
use Rattle.board.specs.Stuck.{stuck}
use Rattle.board.specs.Events.{event_minute, event_point, take_of}
use Rattle.board.specs.declared.Board.{Board}
use Rattle.board.proofs.Theorems.Each.{clash, both, as_unless, point_every}
use Rattle.board.proofs.Theorems.Soundness.{Sound, sound_means}
use Rattle.board.proofs.Theorems.Marks.{names, named, Marks}
use Rattle.board.proofs.Theorems.Taking.{Takes, opened, something_open}
use Rattle.vee.specs.PlanTest.{OrdinaryIn, WaitIn}
use Rattle.promise.specs.Runs.{Run, start, next}
use Rattle.promise.specs.GoodSheets.{in_place, in_order, Near, GoodSheet, LetThrough, ForbidsGood}
use Rattle.promise.proofs.Nets.{keeps_shut, ordinary_in, wait_in, joins, open_from}
use Rattle.promise.proofs.Boards.{says_of, H_le, running_of, is_open_lem, low_of, high_at}
use Rattle.promise.proofs.Standing.{told, all_done}
use Rattle.promise.proofs.After as after
use Rattle.promise.proofs.After.{Sturdy, sturdy}
use Rattle.promise.proofs.Keeping.{good_computed}

-- points 0 to 3, link (1, 20, 50, 2), record (0, 60, 3), wait (3, 2, 50)
abbrev pub untied : Plan
untied = plan_of (a_point 0 ∷ a_point 1 ∷ a_point 2 ∷ a_point 3 ∷ a_link 1 20 50 2 ∷ an_ordinary 0 (pos 60) 3 ∷ a_wait 3 2 50 ∷ [])

-- the call at 0, the truck leaves at 20 and arrives at 45, loading at 50
abbrev pub late : ℕ → ℕ
late q = get_or (0 ∷ 20 ∷ 45 ∷ 50 ∷ []) q 0

abbrev drive : ℕ → ℕ
drive C = 25

abbrev rs : List Record
rs = records_of untied

ok : (check_of untied).number ≡ 0
unfolding how_many some first_that check_with first_bad_with number_for_with last_kind
ok = refl

known : Accepted rs
known = accepted_plan untied ok

good : GoodSheet untied drive late
unfolding in_place in_order first_or Near each from how_many first_that
good = good_computed untied ok drive late refl (omega arith) (omega arith, (omega arith, (omega arith, (omega arith, tt))))

four : 3 < points rs
unfolding how_many
four = omega arith

-- the link, the wait and the record
watched_2 : watched rs 2 ≡ true
unfolding some
watched_2 = refl

foremans_3 : watched rs 3 ≡ false
unfolding some
foremans_3 = refl

from_1 : (link_to rs 2).a ≡ 1
unfolding first_that
from_1 = refl

running_is : (b : Board) → running b (link_to rs 2) ≡ (is_done b 1 && not (is_done b 2))
unfolding first_that
running_is b = refl

loading_wait : WaitIn rs 3 2 50
loading_wait = wait_in rs known (record { place = 6; listed = omega arith; here = refl; kind = refl })

loading_record : OrdinaryIn rs 0 60 0 3
loading_record = ordinary_in rs known (record { place = 5; listed = omega arith; here = refl; kind = refl })

-- ---- after the truck has left at 20 the board is stuck

module _ (b : Board) (d0 : is_done b 0 ≡ true) (m0 : minute b 0 ≡ 0) (d1 : is_done b 1 ≡ true) (m1 : minute b 1 ≡ 20) (d2 : is_done b 2 ≡ false) (d3 : is_done b 3 ≡ false) where
  -- loading is open: the wait alone could keep it shut
  shut_is : some (keeps_shut rs (is_done b) 3) rs ≡ (not (is_done b 1) || false)
  unfolding some first_that
  shut_is = refl

  loading_open : is_open rs b 3 ≡ true
  loading_open =
      is_open_lem rs known b 3 four
      (open_from rs known (says_of b) 3 (shut_is ∙ rw d1) (λ A x y l. clash (sym (joins rs known l).watched ∙ foremans_3)) d3)

  -- not before 70, and by 60
  low_70 : 70 ≤ low rs b 3
  low_70 =
      let r = running_of rs known b 2 watched_2 (running_is b ∙ rw (d1, d2)) in
      let f = (low_of rs known b 3 (low rs b 3) (omega arith)).waits r loading_wait in
      let m : minute b (link_to rs 2).a ≡ 20 = rw from_1 m1 in
      omega (arith, f, m)

  high_60 : H rs b ≤ 60 + farthest
  high_60 = omega (arith, H_le rs b 3 (omega arith) loading_open, high_at rs known b loading_record d0, m0)

  -- no other point is open
  above : (q : ℕ) → q < most_points → (not (is_open rs b q) || ltb (H rs b) (low rs b q + farthest)) ≡ true
  unfolding how_many
  above q l = as_unless (is_open rs b q) _ (λ o. let k = opened rs b q o in go q k.0 k.1 k.2)
    where
      go : (q : ℕ) → q < points rs → watched rs q ≡ false → is_done b q ≡ false → ltb (H rs b) (low rs b q + farthest) ≡ true
      go zero l w u = clash (sym d0 ∙ u)
      go (suc zero) l w u = clash (sym d1 ∙ u)
      go (suc (suc zero)) l w u = clash (sym watched_2 ∙ w)
      go (suc (suc (suc zero))) l w u = lt-ltb (H rs b) (low rs b 3 + farthest) (omega (arith, low_70, high_60))
      go (suc (suc (suc (suc q)))) l w u = absurd (omega arith)

  is_stuck : stuck rs b ≡ true
  is_stuck = rw (something_open rs b 3 (omega arith) loading_open) (point_every _ above)

-- ---- so the truck does not arrive

-- what is done is done at its minute of the sheet
abbrev AsSheet : Board → Type 0
AsSheet b = (q : ℕ) → is_done b q ≡ true → minute b q ≡ late q

module _ {b : Board} {k : ℕ} (s : List ℕ) (r : Run untied b k) (bytes : All IsByte s) (e : (take_of untied b s).number ≡ 0) (so : AsSheet (take_of untied b s).board) where
  abbrev a : Board
  a = (take_of untied b s).board

  w : Sturdy untied b
  w = sturdy untied ok r

  facts : Sound rs b
  facts = sound_means rs b w.good

  m : Marks b s a
  m = after.marks untied ok w.held w.good s bytes e

  take : Takes rs b s
  take = after.take untied ok w.held w.good s bytes e

  as_before : AsSheet b
  as_before q d = let k = after.stays untied ok w.held w.good s bytes e q d in sym k.1 ∙ so q k.0

  -- the minute of a point that this event does
  at_event : (q : ℕ) → q < most_points → is_done a q ≡ true → names s q ≡ true → event_minute s ≡ late q
  at_event q l d n = sym (m.here q l n) ∙ so q d

  -- no done point comes after this event
  before_event : (q : ℕ) → q < most_points → is_done b q ≡ true → late q ≤ event_minute s
  before_event q l d = omega (arith, as_before q d, facts.past q l, take.later)

  -- the arrival is none of this event's points where the call was done before
  arrives : is_done b 0 ≡ true → is_done a 2 ≡ true → names s 2 ≡ true → ⊥
  arrives d0 d n =
      elim (named s 2 n) [
        | inl i ↦
            let run = both (is_done b 1) _ (sym (running_is b) ∙ (take.ends 2 (omega arith) i).1) in
            let d1 = run.0 in
            let t = at_event 2 (omega arith) d n in
            let d3 : is_done b 3 ≡ false = elim (told (is_done b) 3) [ inl x ↦ absurd (omega (arith, before_event 3 (omega arith) x, t)) | inr u ↦ u ] in
            clash (sym (is_stuck b d0 (as_before 0 d0) d1 (as_before 1 d1) (not-true _ run.1) d3) ∙ take.unstuck)
        | inr i ↦ clash (sym watched_2 ∙ (ap (λ q. watched rs q) i.1 ∙ (opened rs b (event_point s) (take.opens i.0)).1))
      ]

  -- and not done before it where the call is one of its points
  called : is_done a 0 ≡ true → names s 0 ≡ true → is_done a 2 ≡ true → ⊥
  called d n d2 =
      let t = at_event 0 (omega arith) d n in
      elim (told (names s) 2) [
        | inl i ↦ omega (arith, at_event 2 (omega arith) d2 i, t)
        | inr i ↦ omega (arith, before_event 2 (omega arith) (after.was_done untied ok w.held w.good s bytes e 2 d2 i), t)
      ]

  no_arrival : (is_done b 0 ≡ true → is_done b 2 ≡ false) → is_done a 0 ≡ true → is_done a 2 ≡ false
  no_arrival ih d0 =
      elim (told (is_done a) 2) [
        | inl d2 ↦ elim (told (is_done b) 0) [
          | inl o ↦ elim (told (names s) 2) [
            | inl n ↦ absurd (arrives o d2 n)
            | inr n ↦ clash (sym (after.was_done untied ok w.held w.good s bytes e 2 d2 n) ∙ ih o)
          ]
          | inr u ↦ elim (told (names s) 0) [
            | inl n ↦ absurd (called d0 n d2)
            | inr n ↦ clash (sym (after.was_done untied ok w.held w.good s bytes e 0 d0 n) ∙ u)
          ]
        ]
        | inr u ↦ u
      ]

-- Where accepted events give the sheet's minutes and the call is done, the truck has not arrived.
not_there : {b : Board} {k : ℕ} → Run untied b k → AsSheet b → is_done b 0 ≡ true → is_done b 2 ≡ false
not_there start so d = clash (sym d ∙ member_empty 0)
not_there (next s r bytes e) so d = no_arrival s r bytes e so (λ o. not_there r (as_before s r bytes e so) o) d

-- The plan is accepted and forbids a good sheet.
pub untied_forbidden : ForbidsGood untied
untied_forbidden = record { accepted = ok; ω = drive; g = late; good = good; none = none }
  where
    none : LetThrough untied late → ⊥
    none t =
        let done = all_done rs t.board known.few t.shows.finished in
        let w = sturdy untied ok t.reached.run in
        let inside = (sound_means rs t.board w.good).inside in
        let so : AsSheet t.board = λ q d. t.shows.minutes q (inside q (member_small _ q w.held.done d) d) in
        clash (sym (done 2 (omega (arith, four))) ∙ not_there t.reached.run so (done 0 (omega (arith, four))))
