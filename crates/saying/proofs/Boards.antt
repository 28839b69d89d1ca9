-- What is made of a board, and of an event, from what the calls answer. Assumes nothing.
use Rattle.std.proofs.Common.{◌≡◌, ℕ, ◌+◌, ◌*◌, ◌≤◌, min, Bool, true, false, List, [], ◌∷◌, ◌++◌, map, sym, refl, ap, ◌∙◌, arith}
use Rattle.points.specs.Sets.{from}
use Rattle.plan.specs.Limits.{most_points}
use Rattle.plan.specs.declared.Refusal.{Refusal}
use Rattle.links.specs.declared.Links.{Links}
use Rattle.board.specs.declared.Board.{Board}
use Rattle.board.proofs.Theorems.Each.{clash}
use Rattle.replies.specs.declared.Reply.{Reply}
use Rattle.engine.specs.Takes.{BoardIn, TakesWith, RepliesWith}
use Rattle.text.specs.Lines.{reply_line, board_line}
use Rattle.lines.specs.Text.{room}
use Rattle.lines.specs.Inside.{text_in}
use Rattle.lines.specs.declared.Line.{Line}
use Rattle.places.specs.Places.{has_list, kept_line, line_at}
use Rattle.printed.specs.Texts.{texts_of}
use Rattle.saying.specs.Makes.{Made, most_made, lines_by, BoardMade, EventText, EventMade, BoardPut, EventPut}
use Rattle.saying.proofs.Making.{made_more}
use Rattle.saying.proofs.Listing.{one_text}

module _ (l : Links) (ponds rows out kept lines₀ : List ℕ) (at : ℕ) where
  module _ (b : Board) (r : Reply) (line : Line) {lines₁ : List ℕ} {first : ℕ} (hb : BoardIn kept b) (hr : RepliesWith l rows out kept r)
      (e : line ≡ board_line b r) (m : Made lines₀ at (text_in line) lines₁ first) (few : first ≤ at + room) where
    -- no list
    pub board_short : has_list r.outcome ≡ false → BoardPut l ponds rows out kept lines₀ at lines₁ first
    unfolding texts_of
    board_short none =
        let t : text_in line ≡ texts_of (lines_by l ponds rows b r) = rw none (ap text_in e ∙ sym (one_text (board_line b r))) in
        record {
          text = text_in line;
          board = record { board = b; holds = hb; reply = r; replies = hr; lines = t };
          made = m;
          few = omega arith;
        }

    -- a list
    pub board_long : has_list r.outcome ≡ true → {lines₂ : List ℕ} {end : ℕ} → Made lines₁ first (texts_of (map (line_at rows ponds r) (from 0 (min l.points most_points)))) lines₂ end
        → end ≤ first + room * most_points → BoardPut l ponds rows out kept lines₀ at lines₂ end
    unfolding texts_of
    board_long some n more =
        let list = map (line_at rows ponds r) (from 0 (min l.points most_points)) in
        let t : text_in line ++ texts_of list ≡ texts_of (lines_by l ponds rows b r) = rw some (ap (λ (x : Line). text_in x ++ texts_of list) e) in
        record {
          text = text_in line ++ texts_of list;
          board = record { board = b; holds = hb; reply = r; replies = hr; lines = t };
          made = made_more m n;
          few = omega arith;
        }

module _ (l : Links) (ponds rows into out ends kept₀ : List ℕ) (k : ℕ) (s lines₀ : List ℕ) (at : ℕ) (kept : List ℕ) (found : Refusal) (t : TakesWith l rows into out ends kept₀ s found kept) where
  -- one line
  pub event_short : (full : Bool) → full ≡ false → (line : Line) {lines : List ℕ} {end : ℕ} → line ≡ kept_line kept k found.number → Made lines₀ at (text_in line) lines end → end ≤ at + room
      → EventPut full l ponds rows into out ends kept₀ k s lines₀ at kept lines end
  event_short true f line e m few = clash f
  event_short false f line e m few =
      record { text = text_in line; event = record { found = found; takes = t; told = ap text_in e }; made = m; few = omega arith }

  -- in full
  pub event_long : (full : Bool) → full ≡ true → (line : Line) {lines₁ : List ℕ} {first : ℕ} → line ≡ reply_line k found.number found.place → Made lines₀ at (text_in line) lines₁ first → first ≤ at + room
      → {lines₂ : List ℕ} {end : ℕ} → BoardPut l ponds rows out kept lines₁ first lines₂ end → EventPut full l ponds rows into out ends kept₀ k s lines₀ at kept lines₂ end
  event_long false f line e m few b = clash (sym f)
  event_long true f line e m few b =
      record {
        text = text_in line ++ b.text;
        event = record { found = found; takes = t; told = (b.text, b.board, ap (λ (x : Line). text_in x ++ b.text) e) };
        made = made_more m b.made;
        few = omega (arith, b.few);
      }
