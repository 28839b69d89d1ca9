-- The plan that is read, and the end, from what the calls answer. Assumes nothing.
use Rattle.std.proofs.Common.{◌≡◌, ℕ, ◌+◌, ◌≤◌, Bool, true, false, List, [], ◌∷◌, ◌++◌, sym, refl, ap, ◌∙◌, arith, eq-eqb, ne_eqb}
use Rattle.plan.specs.ReplyNumbers.{Reading, number_in, place_in, plan_in}
use Rattle.std.specs.Prelude.{Err}
use Rattle.plan.specs.Limits.{most_points, most_ordinary}
use Rattle.plan.specs.declared.Plan.{Plan}
use Rattle.plan.specs.declared.Refusal.{Refusal}
use Rattle.plan.proofs.Limited.{refused_number}
use Rattle.links.specs.declared.Links.{Links}
use Rattle.board.specs.declared.Board.{Board}
use Rattle.board.proofs.Theorems.Each.{clash}
use Rattle.engine.specs.Takes.{BoardIn}
use Rattle.rooms.specs.Filling.{BeginsWith}
use Rattle.rooms.specs.declared.Started.{Started}
use Rattle.vee.specs.declared.Answer.{Answer}
use Rattle.vee.specs.PlanTest.{Tested}
use Rattle.vee.specs.TestOf.{test_of}
use Rattle.vee.proofs.Executable.{test_is}
use Rattle.lines.specs.Text.{room}
use Rattle.lines.specs.Inside.{text_in}
use Rattle.lines.specs.declared.Line.{Line}
use Rattle.text.specs.Lines.{plan_line, test_line, tail_line, end_line}
use Rattle.places.specs.Places.{ForEach, pond_at}
use Rattle.stream.specs.Sheets.{read_front}
use Rattle.saying.specs.Makes.{Made, BoardPut}
use Rattle.saying.proofs.Making.{made_none, made_more}
use Rattle.feeding.specs.Parts.{FirstPut, PlanBegun, tail_text, TailPut, EndPut, LastPut}
use Rattle.feeding.specs.declared.begun.Begun.{Begun}

-- ---- the plan is read

module _ (p : Plan) (l : Links) (ponds rows out kept lines₀ : List ℕ) where
  pub first_none : (full : Bool) → full ≡ false → FirstPut full p l ponds rows out kept lines₀ lines₀ 0
  first_none true f = clash f
  first_none false f = record { text = []; first = refl; made = made_none lines₀ 0 }

  pub first_full : (full : Bool) → full ≡ true → (a : Answer) (line : Line) {lines₁ : List ℕ} {first : ℕ} → Tested p a → line ≡ test_line a → Made lines₀ 0 (text_in line) lines₁ first
      → {lines₂ : List ℕ} {end : ℕ} → BoardPut l ponds rows out kept lines₁ first lines₂ end → FirstPut full p l ponds rows out kept lines₀ lines₂ end
  first_full false f a line t e m b = clash (sym f)
  first_full true f a line t e m b =
      record { text = text_in line ++ b.text; first = (b.text, b.board, ap (λ (x : Line). text_in x ++ b.text) (e ∙ ap test_line (test_is t))); made = made_more m b.made }

module _ (full : Bool) (n : ℕ) (front rows₀ into₀ out₀ ends₀ kept₀ lines₀ rows into out ends kept lines : List ℕ) (r : Reading) (e : r ≡ read_front n front) (s : Started)
    (b : BeginsWith (plan_in r) s rows₀ into₀ out₀ ends₀ kept₀ rows into out ends kept) (ponds : List ℕ) (q : ForEach (pond_at (plan_in r)) 0 most_points ponds) {end : ℕ} where
  pub begun_refused : (x : Refusal) → r ≡ Err x → (line : Line) → line ≡ plan_line x.number x.place → Made lines₀ 0 (text_in line) lines end
      → PlanBegun full n front rows₀ into₀ out₀ ends₀ kept₀ lines₀ rows into out ends kept lines (record { number = x.number; links = s.links; ponds = ponds; end = end })
  begun_refused x k line f m =
      let h : Err x ≡ read_front n front = sym k ∙ e in
      record {
        started = s;
        begins = rw e at b;
        number = ap number_in h;
        links = refl;
        ponds = rw e at q;
        refused = λ z. (rw (f ∙ ap (λ (y : Reading). plan_line (number_in y) (place_in y)) h) at m);
        read = λ z. absurd (refused_number most_ordinary _ x h z);
      }

-- ---- the end

pub tail_none : (left : ℕ) (lines : List ℕ) (at : ℕ) → left ≡ 0 → TailPut left lines at lines at
tail_none left lines at e = record { made = rw (eq-eqb left 0 e) (made_none lines at); few = omega arith }

pub tail_some : (left : ℕ) (lines₀ : List ℕ) (at : ℕ) (line : Line) {lines : List ℕ} {end : ℕ} → (left ≡ 0 → ⊥) → line ≡ tail_line → Made lines₀ at (text_in line) lines end → end ≤ at + room → TailPut left lines₀ at lines end
tail_some left lines₀ at line e f m few = record { made = rw (ne_eqb left 0 e) (rw f at m); few = few }

pub end_by_lem : (p : Plan) (kept : List ℕ) (left : ℕ) (lines₀ : List ℕ) (at : ℕ) (b : Board) (line : Line) {lines₁ lines₂ : List ℕ} {mid end : ℕ} → TailPut left lines₀ at lines₁ mid
    → BoardIn kept b → line ≡ end_line p b → Made lines₁ mid (text_in line) lines₂ end → EndPut p kept left lines₀ at lines₂ end
end_by_lem p kept left lines₀ at b line t h f m = record { board = b; holds = h; made = made_more t.made (rw f at m) }

-- the plan was read from the front room
pub last_of : (n : ℕ) (front : List ℕ) (r : Reading) → r ≡ read_front n front → {kept : List ℕ} {left : ℕ} {lines₀ : List ℕ} {at : ℕ} {lines : List ℕ} {end : ℕ} → EndPut (plan_in r) kept left lines₀ at lines end
    → LastPut n front kept left lines₀ at lines end
last_of n front r e x = record { board = x.board; holds = x.holds; made = rw e at x.made }
