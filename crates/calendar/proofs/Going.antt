-- The two passes over the points: what each has so far. Assumes nothing.
use mathlib.Core.Path.{◌≡◌, sym, ap, ◌∙◌}
use mathlib.Core.List.{List}
use Prim.Native.Nat.{ℕ, ◌+◌, ◌*◌, ◌≤◌, ◌<◌}
use native.Mathlib.Omega.{arith}
use native.Mathlib.Numerals.{add-one}
use lib.ListN.{length, get_or}
use Rattle.plan.specs.Limits.{most_points}
use Rattle.board.specs.declared.Board.{Board}
use Rattle.dates.specs.declared.Stamp.{Stamp}
use Rattle.moments.specs.Event.{event_text, event_length}
use Rattle.buffers.specs.Inside.{Room, Laid}
use Rattle.buffers.proofs.Laying.{then, nothing_laid, long_after}
use Rattle.moments.proofs.Lengths.{event_long}
use Rattle.calendar.specs.Calendars.{pond_code, moment_of, event_of, events_of, heading, ending, events_length}
use Rattle.calendar.specs.Inside.{coded, text_by, length_by}
use Rattle.calendar.proofs.Lengths.{not_long, length_more, no_shorter, code_here, events_long, parts_by}

-- n points with these pond codes, of which p are passed
pub record Passing (codes : List ℕ) (n p : ℕ) : Type 0 where
  pub few : n ≤ most_points
  pub upto : p ≤ n

next_point : {codes : List ℕ} {n p : ℕ} → Passing codes n p → p < n → Passing codes n (p + 1)
next_point w h = record { few = w.few; upto = omega arith }

-- the length so far
pub record Counted (codes : List ℕ) (n k p : ℕ) : Type 0 where
  pub pass : Passing codes n p
  pub sofar : k ≡ 74 + events_length (coded codes) p

module _ {codes : List ℕ} {n k p : ℕ} (w : Counted codes n k p) where
  pub counted_few : k ≤ 74 + 178 * p
  counted_few = omega (arith, w.sofar, not_long (coded codes) p)

  pub counted_more : p < n → (e : ℕ) → e ≡ event_length p (get_or codes p 0) → Counted codes n (k + e) (p + 1)
  counted_more h e f =
      record {
        pass = next_point w.pass h;
        sofar = omega (arith, w.sofar, length_more (coded codes) p, f ∙ ap (λ (c : ℕ). event_length p c) (sym (code_here codes p)));
      }

  pub counted_all : n ≤ p → k ≡ length_by codes n
  counted_all h =
      let e : p ≡ n = omega (arith, w.pass.upto) in
      let f : events_length (coded codes) p ≡ events_length (coded codes) n = ap (λ (q : ℕ). events_length (coded codes) q) e in
      omega (arith, w.sofar, f, parts_by codes n)

-- the events so far
pub record Put (codes : List ℕ) (b : Board) (origin : Stamp) (before : List ℕ) (at n : ℕ) (out : List ℕ) (next p : ℕ) : Type 0 where
  pub pass : Passing codes n p
  pub room : at + events_length (coded codes) n ≤ length before
  pub laid : Laid before at (events_of (coded codes) b origin p) out next

pub put_none : {codes : List ℕ} {out : List ℕ} {at n : ℕ} (b : Board) (origin : Stamp) → Passing codes n 0
    → at + events_length (coded codes) n ≤ length out → Put codes b origin out at n out at 0
unfolding events_of
put_none {out = out} {at = at} b origin w h = record { pass = w; room = h; laid = nothing_laid out at (omega arith) }

module _ {codes : List ℕ} {b : Board} {origin : Stamp} {before : List ℕ} {at n : ℕ} {out : List ℕ} {next p : ℕ}
    (w : Put codes b origin before at n out next p) (h : p < n) where
  pub put_room : (c : ℕ) (m : List ℕ) → c ≡ get_or codes p 0 → m ≡ moment_of b origin p → Room out next (event_text p c m)
  put_room c m e f =
      let g : length (event_text p c m) ≡ event_length p c = event_long p c m (rw f) in
      let k : event_length p c ≡ event_length p (pond_code (coded codes) p) = ap (λ (q : ℕ). event_length p q) (e ∙ sym (code_here codes p)) in
      record {
        fits = omega (
          arith,
          g,
          k,
          w.room,
          w.laid.behind,
          long_after w.laid,
          events_long (coded codes) b origin p,
          length_more (coded codes) p,
          no_shorter (coded codes) (p + 1) n (omega (arith, h)),
        );
      }

  pub put_more : (c : ℕ) (m last : List ℕ) (end : ℕ) → c ≡ get_or codes p 0 → m ≡ moment_of b origin p
      → Laid out next (event_text p c m) last end → Put codes b origin before at n last end (p + 1)
  unfolding events_of
  put_more c m last end e f l =
      let k : event_text p c m ≡ event_of (coded codes) b origin p = λ i. event_text p ((e ∙ sym (code_here codes p)) i) (f i) in
      record {
        pass = next_point w.pass h;
        room = w.room;
        laid = rw (add-one p) (then w.laid (rw k at l));
      }

pub put_all : {codes : List ℕ} {b : Board} {origin : Stamp} {before : List ℕ} {at n : ℕ} {out : List ℕ} {next p : ℕ}
    → Put codes b origin before at n out next p → n ≤ p → Laid before at (events_of (coded codes) b origin n) out next
put_all {n = n} {p = p} w h =
    let e : p ≡ n = omega (arith, w.pass.upto) in
    rw e at w.laid

-- the lines before the events, the events and the line behind them are the whole text
pub all_laid : (codes : List ℕ) (n : ℕ) (b : Board) (origin : Stamp) {out first second last : List ℕ} {at next end : ℕ}
    → Laid out 0 heading first at → Laid first at (events_of (coded codes) b origin n) second next → Laid second next ending last end
    → Laid out 0 (text_by codes n b origin) last end
unfolding text_by
all_laid codes n b origin l m k = then (then l m) k
