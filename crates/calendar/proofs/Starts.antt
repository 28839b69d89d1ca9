-- Two points that were done at different minutes never show the same DTSTART: a moment's sixteen bytes say its date, hour
-- and minute, and the minutes of a sheet are few enough for a year of four digits. Assumes nothing.
use mathlib.Core.Path.{◌≡◌, refl, sym, ap, ◌∙◌}
use mathlib.Core.Bool.{Bool, true, false, not}
use mathlib.Core.List.{List}
use Prim.Native.Nat.{ℕ, ◌+◌, ◌/◌, ◌%◌, ◌≤◌, ◌<◌}
use native.Mathlib.Omega.{arith}
use borrow.Author.Tests.{eqb-true, eq-eqb}
use lib.Dec.{eqb}
use lib.ListN.{get_or}
use Rattle.points.specs.Sets.{below_of}
use Rattle.points.proofs.Laws.{below_fits, count_le}
use Rattle.std.specs.Prelude.{if◌then◌else◌}
use Rattle.plan.specs.APlan.{points, records_of}
use Rattle.plan.specs.ReplyNumbers.{check_of, refusal, accepted}
use Rattle.plan.specs.declared.Plan.{Plan}
use Rattle.plan.proofs.Accepted.{accepted_plan}
use Rattle.board.specs.Boards.{minute, sound}
use Rattle.board.specs.Stuck.{finished}
use Rattle.board.specs.declared.Board.{Board}
use Rattle.board.proofs.Theorems.Each.{clash}
use Rattle.board.proofs.Theorems.Soundness.{sound_means}
use Rattle.verdict.specs.Verdicts.{ended_of}
use Rattle.verdict.proofs.Broken.{ended_accepted}
use Rattle.dates.specs.Gregorian.{shown}
use Rattle.dates.specs.Promises.{four_digits, Written}
use Rattle.dates.specs.declared.Stamp.{Stamp}
use Rattle.dates.proofs.Theorems.{never_the_same, can_be_written}
use Rattle.moments.specs.Event.{start_line}
use Rattle.calendar.specs.Calendars.{stamp_text}
use Rattle.calendar.specs.Promises.{DifferentStarts}

-- a finished board that is not refused is sound, and all its points are done
ended_well : (p : Plan) (b : Board) → (ended_of p b).number ≡ 0 → (sound (records_of p) b ≡ true) × (finished (records_of p) b ≡ true)
unfolding ended_of
ended_well p b e = go (eqb (check_of p).number 0) refl (sound (records_of p) b) (finished (records_of p) b) e (ended_accepted p b e)
  where
    go : (k : Bool) → eqb (check_of p).number 0 ≡ k → (s f : Bool)
        → (if not k then check_of p else (if not s then refusal 20 0 else (if not f then refusal 31 0 else accepted))).number ≡ 0
        → (check_of p).number ≡ 0 → (s ≡ true) × (f ≡ true)
    go true k true true h z = (refl, refl)
    go true k true false h z = absurd (omega (arith, h))
    go true k false f h z = absurd (omega (arith, h))
    go false k s f h z = clash (sym (eq-eqb (check_of p).number 0 z) ∙ k)

-- the minutes of a sheet
soon : (p : Plan) (b : Board) → (ended_of p b).number ≡ 0 → (i : ℕ) → i < points (records_of p) → minute b i ≤ four_digits
soon p b e i h =
    let w = ended_well p b e in
    let s = sound_means (records_of p) b w.0 in
    let d : b.done ≡ below_of (points (records_of p)) = eqb-true b.done (below_of (points (records_of p))) w.1 in
    let few = (accepted_plan p (ended_accepted p b e)).few in
    let n = count_le b.done (rw d (below_fits (points (records_of p)))) in
    omega (arith, s.past i (omega arith), s.few)

-- ---- what sixteen bytes say

-- a number by all its digits but the last, and the last
one_more : (x y : ℕ) → x / 10 ≡ y / 10 → 48 + x % 10 ≡ 48 + y % 10 → x ≡ y
one_more x y e f = omega arith

-- a number of one digit
one_digit : (x y : ℕ) → x < 10 → y < 10 → 48 + x % 10 ≡ 48 + y % 10 → x ≡ y
one_digit x y h k e = omega arith

module _ (s t : Stamp) (e : start_line (stamp_text s) ≡ start_line (stamp_text t)) where
  at : (k : ℕ) → get_or (start_line (stamp_text s)) k 0 ≡ get_or (start_line (stamp_text t)) k 0
  at k = ap (λ (l : List ℕ). get_or l k 0) e

  module _ (v : Written s) (w : Written t) where
    same_year : s.year ≡ t.year
    same_year =
        let small : s.year / 10 / 10 / 10 < 10 = omega (arith, v.year.1) in
        let little : t.year / 10 / 10 / 10 < 10 = omega (arith, w.year.1) in
        one_more s.year t.year
        (one_more (s.year / 10) (t.year / 10)
        (one_more (s.year / 10 / 10) (t.year / 10 / 10) (one_digit (s.year / 10 / 10 / 10) (t.year / 10 / 10 / 10) small little (at 8)) (at 9))
        (at 10))
        (at 11)

    same_month : s.month ≡ t.month
    same_month = omega (arith, at 12, at 13, v.month.1, w.month.1)

    same_day : s.day ≡ t.day
    same_day = omega (arith, at 14, at 15, v.day.1, w.day.1)

    same_hour : s.hour ≡ t.hour
    same_hour = omega (arith, at 17, at 18, v.hour, w.hour)

    same_minute_lem : s.minute ≡ t.minute
    same_minute_lem = omega (arith, at 19, at 20, v.minute, w.minute)

    same_stamp : s ≡ t
    same_stamp = λ i. record { year = same_year i; month = same_month i; day = same_day i; hour = same_hour i; minute = same_minute_lem i }

pub different_starts : DifferentStarts
different_starts p b origin e o i j h k same =
    let m = minute b i in
    let n = minute b j in
    never_the_same origin (minute b i) (minute b j) o
    (same_stamp (shown origin (minute b i)) (shown origin (minute b j)) same
    (can_be_written origin (minute b i) o (soon p b e i h))
    (can_be_written origin (minute b j) o (soon p b e j k)))
