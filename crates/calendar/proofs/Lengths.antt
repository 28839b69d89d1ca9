-- How long a calendar is. Assumes nothing.
use mathlib.Core.Path.{◌≡◌, refl, sym, ap, ◌∙◌}
use mathlib.Core.List.{List, [], ◌∷◌, ◌++◌}
use Prim.Native.Nat.{ℕ, zero, suc, ◌+◌, ◌*◌, ◌≤◌, ◌<◌}
use native.Mathlib.Omega.{arith}
use native.Mathlib.Decide.{dec_lt}
use mathlib.Core.Logic.{by_cases}
use native.Mathlib.Numerals.{add-one}
use lib.ListN.{length, get_or, length-append}
use Rattle.lines.proofs.Adding.{few_digits}
use Rattle.plan.specs.Limits.{most_points, most_records}
use Rattle.plan.specs.APlan.{point, is, points, blank, records_of}
use Rattle.plan.specs.ReplyNumbers.{check_of}
use Rattle.plan.specs.declared.Plan.{Plan}
use Rattle.plan.proofs.Records.{used_records, record_at_lem}
use Rattle.plan.proofs.Accepted.{accepted_plan}
use Rattle.records.proofs.Records.{many_le}
use Rattle.records.specs.declared.Record.{Record}
use Rattle.board.specs.declared.Board.{Board}
use Rattle.dates.specs.declared.Stamp.{Stamp}
use Rattle.links.specs.declared.Links.{Links}
use Rattle.moments.specs.Event.{event_text, event_length}
use Rattle.moments.proofs.Lengths.{event_long}
use Rattle.calendar.specs.Calendars.{pond_code, moment_of, event_of, events_of, heading, ending, calendar_text, events_length, text_length}
use Rattle.calendar.specs.Inside.{coded_one, coded, text_by, length_by, SheetOf}
use Rattle.calendar.proofs.ACase.{a_sheet}

module _ (rs : List Record) (b : Board) (origin : Stamp) where
  pub events_long : (n : ℕ) → length (events_of rs b origin n) ≡ events_length rs n
  unfolding events_of events_length
  events_long zero = refl
  events_long (suc n) =
      omega (arith, length-append (events_of rs b origin n) (event_of rs b origin n), events_long n, event_long n (pond_code rs n) (moment_of b origin n) refl)

  pub text_long : length (calendar_text rs b origin) ≡ text_length rs
  unfolding calendar_text text_length
  text_long =
      omega (arith, length-append (heading ++ events_of rs b origin (points rs)) ending, length-append heading (events_of rs b origin (points rs)), events_long (points rs))

-- where each event may have 178 bytes, with numbers of twenty digits
pub not_long : (rs : List Record) (n : ℕ) → events_length rs n ≤ 178 * n
unfolding events_length
not_long rs zero = omega arith
not_long rs (suc n) = omega (arith, not_long rs n, few_digits n, few_digits (pond_code rs n))

-- one point more
pub length_more : (rs : List Record) (n : ℕ) → events_length rs (n + 1) ≡ events_length rs n + event_length n (pond_code rs n)
unfolding events_length
length_more rs n = rw (add-one n)

-- more points are no shorter
pub no_shorter : (rs : List Record) (m n : ℕ) → m ≤ n → events_length rs m ≤ events_length rs n
unfolding events_length
no_shorter rs m zero h = let e : m ≡ 0 = omega arith in rw e (omega arith)
no_shorter rs m (suc n) h = by_cases (dec_lt m (suc n)) (λ l. omega (arith, no_shorter rs m n (omega (arith, l)))) (λ l. let e : m ≡ suc n = omega (arith, l) in rw e (omega arith))

-- the points of an accepted plan are no more than there is room for, and its first records are in their places
module _ (p : Plan) (ok : (check_of p).number ≡ 0) (full : length p.records ≡ most_records) where
  pub few_points : points (records_of p) ≤ most_points
  few_points = (accepted_plan p ok).few

  pub code_at : (i : ℕ) → i < points (records_of p) → (i < most_records) × (get_or (records_of p) i blank ≡ get_or p.records i blank)
  code_at i h =
      let n = used_records p full in
      let m = many_le (is point) (records_of p) in
      (omega arith, record_at_lem p full i (omega arith))

-- the whole text's length, by the number of points
pub text_parts : (rs : List Record) (n : ℕ) → n ≡ points rs → text_length rs ≡ 59 + events_length rs n + 15
unfolding text_length
text_parts rs n e = rw e

-- ---- by the pond codes

-- what stands at a place of a list that was made of another
coded_at : (codes : List ℕ) (p : ℕ) → get_or (coded codes) p blank ≡ coded_one (get_or codes p 0)
coded_at [] p = refl
coded_at (c ∷ codes) zero = refl
coded_at (c ∷ codes) (suc p) = coded_at codes p

pub code_here : (codes : List ℕ) (p : ℕ) → pond_code (coded codes) p ≡ get_or codes p 0
code_here codes p = ap (λ (r : Record). r.code) (coded_at codes p)

-- the events of the first n points are the same where their pond codes are
pub same_events : (rs qs : List Record) (b : Board) (origin : Stamp) (n : ℕ) → ((p : ℕ) → p < n → pond_code rs p ≡ pond_code qs p)
    → events_of rs b origin n ≡ events_of qs b origin n
unfolding events_of
same_events rs qs b origin zero e = refl
same_events rs qs b origin (suc n) e =
    λ i. same_events rs qs b origin n (λ p h. e p (omega arith)) i ++ event_text n (e n (omega arith) i) (moment_of b origin n)

-- the text is so long
pub long_by : (codes : List ℕ) (n : ℕ) (b : Board) (origin : Stamp) → length (text_by codes n b origin) ≡ length_by codes n
unfolding text_by length_by
long_by codes n b origin =
    omega (arith, length-append (heading ++ events_of (coded codes) b origin n) ending, length-append heading (events_of (coded codes) b origin n), events_long (coded codes) b origin n)

pub parts_by : (codes : List ℕ) (n : ℕ) → length_by codes n ≡ 59 + events_length (coded codes) n + 15
unfolding length_by
parts_by codes n = refl

-- of an accepted plan it is the plan's
module _ {p : Plan} {l : Links} {codes : List ℕ} (w : SheetOf p l codes) where
  pub few_by : l.points ≤ most_points
  few_by = omega (arith, w.links.points, few_points p w.ok w.full)

  same_code : (q : ℕ) → q < points (records_of p) → pond_code (coded codes) q ≡ pond_code (records_of p) q
  same_code q h =
      let k : q < most_points = omega (arith, few_points p w.ok w.full) in
      code_here codes q ∙ w.ponds.each q k ∙ sym (ap (λ (r : Record). r.code) (code_at p w.ok w.full q h).1)

  pub text_by_lem : (b : Board) (origin : Stamp) → text_by codes l.points b origin ≡ calendar_text (records_of p) b origin
  unfolding text_by calendar_text
  text_by_lem b origin = rw (w.links.points, same_events (coded codes) (records_of p) b origin (points (records_of p)) same_code)
