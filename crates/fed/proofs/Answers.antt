-- Events in full: the lines of each event and of the board that is handed back. Assumes nothing.
use mathlib.Core.Path.{◌≡◌, refl, sym, ap, ◌∙◌}
use mathlib.Core.Bool.{true}
use mathlib.Core.List.{List, [], ◌∷◌, ◌++◌, append_assoc, append-nil}
use Prim.Native.Nat.{ℕ, suc, ◌+◌}
use native.Mathlib.Omega.{arith}
use lib.ListN.{length}
use Rattle.plan.specs.Limits.{most_points}
use Rattle.plan.specs.Held.{HeldPlan}
use Rattle.plan.specs.declared.Plan.{Plan}
use Rattle.links.specs.declared.Links.{Links}
use Rattle.board.specs.Events.{take_of}
use Rattle.board.specs.Streams.{board_after_all}
use Rattle.board.specs.declared.Board.{Board}
use Rattle.engine.specs.Agreement.{Agrees}
use Rattle.engine.proofs.Agreeing.{take_agrees}
use Rattle.lines.specs.Inside.{text_in}
use Rattle.lines.specs.declared.Line.{Line}
use Rattle.text.specs.Lines.{reply_line}
use Rattle.places.specs.Places.{ForEach, pond_at}
use Rattle.printed.specs.Texts.{texts_of, board_lines, answer_lines}
use Rattle.saying.specs.Makes.{EventMade}
use Rattle.fed.proofs.Lists.{board_lines_lem}

pub no_answers : (p : Plan) (k : ℕ) (b : Board) → answer_lines p k b [] ≡ []
unfolding answer_lines
no_answers p k b = refl

-- the lines of one event
abbrev answer : Plan → ℕ → Board → List ℕ → List Line
answer p k b s = reply_line k (take_of p b s).number (take_of p b s).place ∷ board_lines p (take_of p b s).board

pub answers_behind : (p : Plan) (xs ys : List (List ℕ)) (k : ℕ) (b : Board) → answer_lines p k b (xs ++ ys) ≡ answer_lines p k b xs ++ answer_lines p (k + length xs) (board_after_all p b xs) ys
unfolding board_after_all answer_lines
answers_behind p [] ys k b = let z : k ≡ k + 0 = omega arith in ap (λ (n : ℕ). answer_lines p n b ys) z
answers_behind p (x ∷ xs) ys k b =
    let c = (take_of p b x).board in
    let z : suc k + length xs ≡ k + suc (length xs) = omega arith in
    ap (λ (ls : List Line). answer p k b x ++ ls) (answers_behind p xs ys (suc k) c ∙ ap (λ (n : ℕ). answer_lines p (suc k) c xs ++ answer_lines p n (board_after_all p c xs) ys) z)
    ∙ sym (append_assoc (answer p k b x) (answer_lines p (suc k) c xs) (answer_lines p (k + suc (length xs)) (board_after_all p c xs) ys))

pub one_answer : (p : Plan) (l : Links) (ponds rows into out ends : List ℕ) → HeldPlan p → ForEach (pond_at p) 0 most_points ponds
    → (b : Board) (kept : List ℕ) (k : ℕ) (s kept' text : List ℕ) → Agrees p l rows into out ends b kept → EventMade true l ponds rows into out ends kept k s kept' text
    → (text ≡ texts_of (answer_lines p k b (s ∷ []))) × Agrees p l rows into out ends (take_of p b s).board kept'
unfolding texts_of answer_lines
one_answer p l ponds rows into out ends held q b kept k s kept' text a e =
    let same = take_agrees p l rows into out ends b kept a s e.found kept' e.takes in
    let bl = board_lines_lem p l ponds rows into out ends (take_of p b s).board kept' same.agrees held q e.told.0 e.told.1 in
    let t : text ≡ texts_of (answer p k b s) = e.told.2 ∙ (λ i. text_in (reply_line k (same.number i) (same.place i)) ++ bl i) in
    (t ∙ ap texts_of (sym (append-nil (answer p k b s))), same.agrees)
