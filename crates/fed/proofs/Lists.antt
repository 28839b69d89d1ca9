-- The lines of a board from an engine's rooms are those of the plan and the board. Assumes nothing.
use mathlib.Core.Path.{◌≡◌, refl, sym, ap, ◌∙◌}
use mathlib.Core.Bool.{Bool, true, false, not}
use mathlib.Core.Logic.{◌⊎◌, inl, inr}
use mathlib.Core.List.{List, [], ◌∷◌, map}
use Prim.Native.Nat.{ℕ, zero, suc, ◌+◌, ◌≤◌, ◌<◌, min}
use native.Mathlib.Omega.{arith}
use borrow.Author.Tests.{eq-eqb}
use lib.Dec.{ltb}
use lib.ListN.{length, get_or, length-take}
use Rattle.points.specs.Sets.{from}
use Rattle.numbers.specs.Fits.{All}
use Rattle.records.specs.Held.{Held}
use Rattle.records.proofs.Entries.{all_take}
use Rattle.records.specs.declared.Record.{Record}
use Rattle.std.specs.Prelude.{if◌then◌else◌, Some}
use Rattle.plan.specs.Limits.{most_points, most_records}
use Rattle.plan.specs.APlan.{points, watched, blank, records_of}
use Rattle.lowhigh.specs.Rules.{number_at, place_from}
use Rattle.plan.specs.Held.{HeldPlan}
use Rattle.plan.specs.ReplyNumbers.{check_of}
use Rattle.plan.specs.declared.Plan.{Plan}
use Rattle.plan.proofs.Accepted.{accepted_plan}
use Rattle.links.specs.declared.Links.{Links}
use Rattle.board.specs.Boards.{is_done, minute}
use Rattle.board.specs.Windows.{is_open, holder, low, shuts}
use Rattle.board.specs.Stuck.{latest}
use Rattle.board.proofs.Theorems.Each.{clash}
use Rattle.board.specs.declared.Board.{Board}
use Rattle.replies.specs.Replies.{reply_of, reply_for, outcome_of, state_of, withheld}
use Rattle.replies.specs.declared.Outcome.{Outcome}
use Rattle.replies.specs.declared.Outcome.TheVariants as outcome
use Rattle.replies.specs.declared.Reply.{Reply}
use Rattle.replies.specs.declared.Place.{Place}
use Rattle.replies.specs.declared.State.{State}
use Rattle.replies.specs.declared.State.TheVariants as state
use Rattle.engine.specs.Agreement.{Agrees}
use Rattle.engine.proofs.Agreeing.{board_agrees, reply_agrees}
use Rattle.lines.specs.declared.Line.{Line}
use Rattle.lines.specs.Text.{said}
use Rattle.lines.specs.declared.Piece.TheVariants.{Name, Number}
use Rattle.text.specs.Words.{point_word}
use Rattle.text.specs.Lines.{board_line, record_pieces, state_pieces}
use Rattle.places.specs.Places.{ForEach, pond_at, named_by, nowhere, reason_at, line_at, has_list}
use Rattle.places.proofs.Reasons.{shows_same}
use Rattle.printed.specs.Texts.{place_line, board_lines, texts_of}
use Rattle.saying.specs.Makes.{lines_by, BoardMade}

-- no record, or one of the plan's
abbrev Named : List Record → State → Type 0
Named rs s = (named_by s ≡ 0) ⊎ (named_by s < length rs)

-- what a line shows of a point is the same where the record that it names is the plan's own
pieces_same : (rs : List Record) (s : State) (a b : Record) → Named rs s → (named_by s < length rs → record_pieces a ≡ record_pieces b) → state_pieces s a ≡ state_pieces s b
pieces_same rs (state.Done m) a b n h = refl
pieces_same rs state.Watched a b n h = refl
pieces_same rs (state.Shut i) a b (inl z) h = rw (eq-eqb i 0 z)
pieces_same rs (state.Shut i) a b (inr l) h = rw (h l)
pieces_same rs state.Held a b n h = refl
pieces_same rs (state.Offered m) a b n h = refl

place_few : (i : ℕ) (so : Record → Bool) (rs : List Record) → (number_at (place_from i so rs) ≡ 0) ⊎ (number_at (place_from i so rs) < i + length rs)
unfolding place_from
place_few i so [] = inl refl
place_few i so (r ∷ rs) = go (so r) (place_few (suc i) so rs)
  where
    go : (t : Bool) → (number_at (place_from (suc i) so rs) ≡ 0) ⊎ (number_at (place_from (suc i) so rs) < suc i + length rs)
        → (number_at (if t then Some i else place_from (suc i) so rs) ≡ 0) ⊎ (number_at (if t then Some i else place_from (suc i) so rs) < i + suc (length rs))
    go true h = inr (omega arith)
    go false (inl z) = inl z
    go false (inr l) = inr (omega arith)

-- the record that a point's state names
named_state : (rs : List Record) (b : Board) (q : ℕ) → Named rs (state_of rs b q)
unfolding state_of
named_state rs b q = go (is_done b q) (watched rs q) (not (is_open rs b q)) (ltb (latest rs b) (low rs b q)) (place_few 0 (shuts rs b q) rs)
  where
    go : (x y z w : Bool) → (holder rs b q ≡ 0) ⊎ (holder rs b q < 0 + length rs)
        → Named rs (if x then state.Done (minute b q) else (if y then state.Watched else (if z then state.Shut (holder rs b q) else (if w then state.Held else state.Offered (low rs b q)))))
    go true y z w h = inl refl
    go false true z w h = inl refl
    go false false true w (inl e) = inl e
    go false false true w (inr l) = inr (omega arith)
    go false false false true h = inl refl
    go false false false false h = inl refl

named_withheld : (rs : List Record) (s : State) → Named rs s → Named rs (withheld s)
named_withheld rs (state.Done m) n = n
named_withheld rs state.Watched n = n
named_withheld rs (state.Shut i) n = n
named_withheld rs state.Held n = n
named_withheld rs (state.Offered m) n = inl refl

from_at_lem : (f : ℕ → Place) (a n i : ℕ) → i < n → get_or (map f (from a n)) i nowhere ≡ f (a + i)
unfolding from
from_at_lem f a zero i h = absurd (omega arith)
from_at_lem f a (suc n) zero h = let z : a ≡ a + 0 = omega arith in ap f z
from_at_lem f a (suc n) (suc i) h = let z : suc a + i ≡ a + suc i = omega arith in from_at_lem f (suc a) n i (omega arith) ∙ ap f z

named_place : (rs : List Record) (b : Board) (o : Outcome) → has_list (reply_for o rs b).outcome ≡ true → (i : ℕ) → i < most_points → Named rs (get_or (reply_for o rs b).places i nowhere).state
named_place rs b (outcome.Refused n k) h i l = clash (sym h)
named_place rs b outcome.Finished h i l = clash (sym h)
named_place rs b outcome.Stuck h i l =
    let z : 0 + i ≡ i = omega arith in
    rw (from_at_lem (λ (q : ℕ). record { state = withheld (state_of rs b q) }) 0 most_points i l) (named_withheld rs (state_of rs b (0 + i)) (named_state rs b (0 + i)))
named_place rs b outcome.Waiting h i l =
    rw (from_at_lem (λ (q : ℕ). record { state = withheld (state_of rs b q) }) 0 most_points i l) (named_withheld rs (state_of rs b (0 + i)) (named_state rs b (0 + i)))
named_place rs b outcome.Offers h i l = rw (from_at_lem (λ (q : ℕ). record { state = state_of rs b q }) 0 most_points i l) (named_state rs b (0 + i))

map_same : (f g : ℕ → Line) (a n : ℕ) → ((i : ℕ) → i < a + n → f i ≡ g i) → map f (from a n) ≡ map g (from a n)
unfolding from
map_same f g a zero h = refl
map_same f g a (suc n) h = λ j. h a (omega arith) j ∷ map_same f g (suc a) n (λ i l. h i (omega arith)) j

all_at_lem : (xs : List Record) → All Held xs → (i : ℕ) → i < length xs → Held (get_or xs i blank)
all_at_lem [] h i l = absurd (omega arith)
all_at_lem (x ∷ xs) h zero l = h.0
all_at_lem (x ∷ xs) h (suc i) l = all_at_lem xs h.1 i (omega arith)

module _ (p : Plan) (l : Links) (ponds rows into out ends : List ℕ) (b : Board) (kept : List ℕ) (a : Agrees p l rows into out ends b kept) (held : HeldPlan p) (q : ForEach (pond_at p) 0 most_points ponds) where
  abbrev rs : List Record
  rs = records_of p

  abbrev r : Reply
  r = reply_of p b

  few : points rs ≤ most_points
  few = (accepted_plan p a.accepted).few

  reply_is : r ≡ reply_for (outcome_of rs b) rs b
  unfolding reply_of
  reply_is = rw (eq-eqb (check_of p).number 0 a.accepted, a.sound)

  records_few : length rs ≤ most_records
  records_few = omega (arith, length-take p.count p.records, a.room)

  same_line : has_list r.outcome ≡ true → (i : ℕ) → i < points rs → line_at rows ponds r i ≡ place_line p r i
  same_line h i n =
      let s = (get_or r.places i nowhere).state in
      let named : Named rs s = rw reply_is (named_place rs b (outcome_of rs b) (ap (λ (x : Reply). has_list x.outcome) (sym reply_is) ∙ h) i (omega (arith, few))) in
      let pond : get_or ponds i 0 ≡ pond_at p i = q.each i (omega (arith, few)) in
      let more = pieces_same rs s (reason_at rows (named_by s)) (get_or rs (named_by s) blank) named
      (λ k. shows_same rs rows a.listed.laid records_few (named_by s) k (all_at_lem rs (all_take Held p.count p.records held.each) (named_by s) k)) in
      λ j. said (Name point_word) (Number i ∷ Number (pond j) ∷ more j)

  lines_same : lines_by l ponds rows b r ≡ board_lines p b
  lines_same = go (has_list r.outcome) refl
    where
      n : min l.points most_points ≡ points rs
      n = omega (arith, a.links.points, few)

      go : (t : Bool) → has_list r.outcome ≡ t
          → board_line b r ∷ (if t then map (line_at rows ponds r) (from 0 (min l.points most_points)) else []) ≡ board_line b r ∷ (if t then map (place_line p r) (from 0 (points rs)) else [])
      go true h = ap (λ (xs : List Line). board_line b r ∷ xs) (ap (λ (k : ℕ). map (line_at rows ponds r) (from 0 k)) n ∙ map_same (line_at rows ponds r) (place_line p r) 0 (points rs) (λ i k. same_line h i (omega arith)))
      go false h = refl

  -- THE LINES OF A BOARD
  pub board_lines_lem : (text : List ℕ) → BoardMade l ponds rows out kept text → text ≡ texts_of (board_lines p b)
  board_lines_lem text m =
      let e = board_agrees p l rows into out ends b kept a m.board m.holds in
      let f = reply_agrees p l rows into out ends b kept a m.reply m.replies in
      m.lines ∙ (λ j. texts_of (lines_by l ponds rows (e j) (f j))) ∙ ap texts_of lines_same
