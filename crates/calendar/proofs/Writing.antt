-- Writing a calendar, by what its tests say. Assumes nothing.
use mathlib.Core.Path.{◌≡◌, refl, sym, ap, ◌∙◌}
use mathlib.Core.Bool.{true, false}
use mathlib.Core.List.{List, ◌++◌}
use Prim.Native.Nat.{ℕ, ◌+◌, ◌≤◌, ◌<◌}
use native.Mathlib.Omega.{arith}
use lib.Dec.{eqb}
use borrow.Author.Tests.{eq-eqb, ne_eqb, lt-ltb, le-ltb}
use lib.ListN.{length, drop}
use Rattle.plan.specs.APlan.{records_of}
use Rattle.std.specs.Prelude.{Result, Ok, Err}
use Rattle.plan.specs.ReplyNumbers.{refusal, check_of}
use Rattle.plan.specs.declared.Plan.{Plan}
use Rattle.plan.specs.declared.Refusal.{Refusal}
use Rattle.links.specs.declared.Links.{Links}
use Rattle.board.specs.declared.Board.{Board}
use Rattle.verdict.specs.Verdicts.{ended_of}
use Rattle.verdict.specs.Inside.{ended_by}
use Rattle.verdict.proofs.Broken.{ended_refused, ended_by_lem}
use Rattle.dates.specs.Gregorian.{is_origin}
use Rattle.dates.specs.declared.Stamp.{Stamp}
use Rattle.buffers.specs.Inside.{Laid}
use Rattle.calendar.specs.Calendars.{calendar_text, calendar_of, written_of}
use Rattle.calendar.specs.Inside.{text_by, length_by, SheetOf, WrittenBy}
use Rattle.calendar.proofs.Lengths.{long_by, text_by_lem}

module _ (p : Plan) (b : Board) (origin : Stamp) (out : List ℕ) where
  pub refused : eqb (ended_of p b).number 0 ≡ false
      → (Err (ended_of p b) ≡ calendar_of p b origin out) × (out ≡ written_of p b origin out)
  unfolding calendar_of written_of
  refused e = (rw e, rw e)

  module _ (e : eqb (ended_of p b).number 0 ≡ true) where
    pub no_origin : is_origin origin ≡ false → (Err (refusal 51 0) ≡ calendar_of p b origin out) × (out ≡ written_of p b origin out)
    unfolding calendar_of written_of
    no_origin f = (rw (e, f), rw (e, f))

    module _ (f : is_origin origin ≡ true) where
      pub no_room : length out < length (calendar_text (records_of p) b origin)
          → (Err (refusal 52 0) ≡ calendar_of p b origin out) × (out ≡ written_of p b origin out)
      unfolding calendar_of written_of
      no_room h =
          let g = lt-ltb (length out) (length (calendar_text (records_of p) b origin)) h in
          (rw (e, f, g), rw (e, f, g))

      pub written : length (calendar_text (records_of p) b origin) ≤ length out
          → (Ok (length (calendar_text (records_of p) b origin)) ≡ calendar_of p b origin out)
          × (calendar_text (records_of p) b origin ++ drop (length (calendar_text (records_of p) b origin)) out ≡ written_of p b origin out)
      unfolding calendar_of written_of
      written h =
          let g = le-ltb (length out) (length (calendar_text (records_of p) b origin)) h in
          (rw (e, f, g), rw (e, f, g))

-- text from the buffer's front on
from_front : {out text after : List ℕ} {next : ℕ} → Laid out 0 text after next
    → (next ≡ length text) × (after ≡ text ++ drop (length text) out)
from_front {out} {text} l =
    let z : 0 + length text ≡ length text = omega arith in
    (omega (arith, l.behind), rw z at l.bytes)

-- the plan's own refusal, `found`
pub unchecked : (p : Plan) (b : Board) (origin : Stamp) (out : List ℕ) (found : Refusal) → found ≡ check_of p → (found.number ≡ 0 → ⊥)
    → (Err found ≡ calendar_of p b origin out) × (out ≡ written_of p b origin out)
unchecked p b origin out found e n =
    let f : found ≡ ended_of p b = ended_refused p found e b n in
    let k = refused p b origin out (rw f at (ne_eqb found.number 0 n)) in
    (ap Err f ∙ k.0, k.1)

-- ---- by the links and the pond codes of an accepted plan, where `found` is what 20 and 31 say

module _ {p : Plan} {l : Links} {codes : List ℕ} (w : SheetOf p l codes) (b : Board) (origin : Stamp) (out : List ℕ) (found : Refusal)
    (e : found ≡ ended_by l b) where
  number_is : found.number ≡ (ended_of p b).number
  number_is = ap (λ (r : Refusal). r.number) (e ∙ ended_by_lem p (check_of p) refl b w.ok l w.links)

  pub refused_by_lem : (found.number ≡ 0 → ⊥) → (Err found ≡ calendar_of p b origin out) × (out ≡ written_of p b origin out)
  refused_by_lem n =
      let f : found ≡ ended_of p b = e ∙ ended_by_lem p (check_of p) refl b w.ok l w.links in
      let k = refused p b origin out (rw number_is at (ne_eqb found.number 0 n)) in
      (ap Err f ∙ k.0, k.1)

  module _ (z : found.number ≡ 0) where
    kept : eqb (ended_of p b).number 0 ≡ true
    kept = rw number_is at (eq-eqb found.number 0 z)

    pub no_origin_by : is_origin origin ≡ false → (Err (refusal 51 0) ≡ calendar_of p b origin out) × (out ≡ written_of p b origin out)
    no_origin_by f = no_origin p b origin out kept f

    module _ (f : is_origin origin ≡ true) where
      long : length (calendar_text (records_of p) b origin) ≡ length_by codes l.points
      long = ap length (sym (text_by_lem w b origin)) ∙ long_by codes l.points b origin

      pub no_room_by : length out < length_by codes l.points → (Err (refusal 52 0) ≡ calendar_of p b origin out) × (out ≡ written_of p b origin out)
      no_room_by h = no_room p b origin out kept f (omega (arith, h, long))

      pub written_by : length_by codes l.points ≤ length out → {after : List ℕ} {next : ℕ} → Laid out 0 (text_by codes l.points b origin) after next
          → (Ok next ≡ calendar_of p b origin out) × (after ≡ written_of p b origin out)
      written_by h d =
          let k = written p b origin out kept f (omega (arith, h, long)) in
          let g = from_front (rw (text_by_lem w b origin) at d) in
          (ap Ok g.0 ∙ k.0, g.1 ∙ k.1)

pub of_each : {l : Links} {codes : List ℕ} {b : Board} {origin : Stamp} {out : List ℕ} {r : Result ℕ Refusal} {after : List ℕ}
    → ((p : Plan) → SheetOf p l codes → (r ≡ calendar_of p b origin out) × (after ≡ written_of p b origin out)) → WrittenBy l codes b origin out r after
of_each f = record { reply = λ p w. (f p w).0; bytes = λ p w. (f p w).1 }
