-- What is promised of calendars: specs/Promises says it. Assumes nothing.
use mathlib.Core.Path.{◌≡◌, refl, sym, ap, ◌∙◌}
use mathlib.Core.List.{List, [], ◌∷◌, ◌++◌, append_assoc}
use Prim.Native.Nat.{ℕ, zero, suc, ◌+◌, ◌-◌, ◌*◌, ◌^◌, ◌≤◌, ◌<◌}
use native.Mathlib.Omega.{arith}
use Rattle.std.specs.Prelude.{Ok}
use borrow.Author.Tests.{eq-eqb}
use lib.ListN.{length, take, drop}
use Rattle.numbers.specs.Fits.{All}
use Rattle.lines.specs.Text.{decimal, digits}
use Rattle.records.specs.declared.Record.{Record}
use Rattle.plan.specs.Limits.{most_points}
use Rattle.plan.specs.APlan.{how_many, points, records_of}
use Rattle.plan.specs.Held.{Held, HeldPlan}
use Rattle.plan.specs.ReplyNumbers.{check_of}
use Rattle.plan.specs.declared.Plan.{Plan}
use Rattle.verdict.proofs.Broken.{ended_accepted}
use Rattle.moments.specs.Event.{uid_line}
use Rattle.moments.proofs.Lengths.{summary_long}
use Rattle.buffers.proofs.Digits.{few_below, to_hyphen, read_back}
use Rattle.calendar.specs.Calendars.{pond_code, events_length, text_length, most_text}
use Rattle.calendar.specs.Promises.{ShortLines, DifferentUids, LengthOfText, Enough, ReachesMost, DifferentStarts, PointsFirst, LongestLine}
use Rattle.calendar.proofs.Lengths.{text_long, few_points, text_parts}
use Rattle.calendar.proofs.Lined as lined
use Rattle.calendar.proofs.Starts as starts
use Rattle.calendar.proofs.Firsts as firsts
use Rattle.calendar.proofs.Writing.{written}

pub short_lines : ShortLines
short_lines = lined.short_lines

pub length_of_text : LengthOfText
length_of_text = text_long

-- the number of the point, read from its UID line
uid_says : (p : ℕ) (m : List ℕ) → p < 2 ^ 32 → to_hyphen 0 (drop 4 (uid_line p m)) ≡ p
uid_says p m h =
    let e : (decimal p ++ (45 ∷ [])) ++ m ++ (13 ∷ 10 ∷ []) ≡ decimal p ++ (45 ∷ (m ++ (13 ∷ 10 ∷ []))) =
    append_assoc (decimal p ++ (45 ∷ [])) m (13 ∷ 10 ∷ []) ∙ append_assoc (decimal p) (45 ∷ []) (m ++ (13 ∷ 10 ∷ [])) in
    ap (λ (s : List ℕ). to_hyphen 0 s) e ∙ read_back p (m ++ (13 ∷ 10 ∷ [])) h

pub different_uids : DifferentUids
different_uids p q m m' h k e = sym (uid_says p m h) ∙ ap (λ (s : List ℕ). to_hyphen 0 (drop 4 s)) e ∙ uid_says q m' k

-- ---- how long a text can be

-- the events of n points, where each pond code has ten digits
unfoldable most_events : ℕ → ℕ
most_events zero = 0
most_events (suc n) = most_events n + (128 + 2 * length (decimal n))

most_more : (m n : ℕ) → most_events m ≤ most_events (n + m)
unfolding most_events
most_more m zero = let e : 0 + m ≡ m = omega arith in rw e (omega arith)
most_more m (suc n) = let e : suc n + m ≡ suc (n + m) = omega arith in rw e (omega (arith, most_more m n))

no_longer : (rs : List Record) → ((i : ℕ) → pond_code rs i < 2 ^ 32) → (n : ℕ) → events_length rs n ≤ most_events n
unfolding events_length most_events
no_longer rs f zero = omega arith
no_longer rs f (suc n) = omega (arith, no_longer rs f n, few_below 9 (pond_code rs n) (omega (arith, f n)) (f n))

-- the codes of a plan that a program can hold
code_fits : (rs : List Record) → All Held rs → (c i : ℕ) → pond_code (take c rs) i < 2 ^ 32
code_fits rs h zero i = omega arith
code_fits [] h (suc c) i = omega arith
code_fits (r ∷ rs) h (suc c) zero = h.0.code
code_fits (r ∷ rs) h (suc c) (suc i) = code_fits rs h.1 c i

all_most : most_events most_points ≡ 4204
unfolding most_events digits
all_most = refl

fits_most : (p : Plan) → HeldPlan p → (check_of p).number ≡ 0 → text_length (records_of p) ≤ most_text
fits_most p h ok =
    let n = points (records_of p) in
    let few = few_points p ok h.room in
    let e : most_points - points (records_of p) + points (records_of p) ≡ most_points = omega arith in
    let a = no_longer (records_of p) (code_fits p.records h.each p.count) (points (records_of p)) in
    let b = rw (e, all_most) at (most_more (points (records_of p)) (most_points - points (records_of p))) in
    omega (arith, text_parts (records_of p) (points (records_of p)) refl, a, b)

pub enough : Enough
enough p b origin out h ok o k =
    let l = text_long (records_of p) b origin in
    let w = written p b origin out (eq-eqb _ 0 ok) o (omega (arith, l, fits_most p h (ended_accepted p b ok))) in
    sym w.0 ∙ ap Ok l

pub reaches_most : ReachesMost
unfolding text_length events_length how_many digits
reaches_most = refl

pub different_starts : DifferentStarts
different_starts = starts.different_starts

pub points_first : PointsFirst
points_first = firsts.points_first

pub longest_line : LongestLine
unfolding digits
longest_line =
    (refl, refl, λ p code h k. omega (arith, summary_long p code, few_below 1 p (omega arith) (omega arith), few_below 9 code (omega arith) k))
