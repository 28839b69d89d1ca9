-- From `ponds_begin` on, what `ponds_take` answers and what `ponds_reply` and `ponds_board` say is the plain engine's, through any events, taken
-- and refused. Assumes nothing.
use mathlib.Core.Path.{◌≡◌, refl, sym, ap, ◌∙◌}
use mathlib.Core.Bool.{Bool, true, false, ◌||◌}
use mathlib.Core.List.{List, [], ◌∷◌, map}
use Prim.Native.Nat.{ℕ, ◌<◌}
use native.Mathlib.Omega.{arith}
use Rattle.std.specs.Prelude.{if◌then◌else◌}
use Rattle.plan.specs.Limits.{most_points}
use Rattle.plan.specs.APlan.{link, point, is, blank, watched, link_to, some, first_that, records_of}
use Rattle.plan.specs.ReplyNumbers.{read_of, check_of, number_in, plan_in}
use Rattle.plan.specs.declared.Plan.{Plan}
use Rattle.plan.specs.declared.Refusal.{Refusal}
use Rattle.records.specs.declared.Record.{Record}
use Rattle.plan.proofs.Accepted.{Accepted, accepted_plan, not_a}
use Rattle.plan.proofs.RoundTrip.{read_is_checked}
use Rattle.links.specs.Inside.{LinksOf}
use Rattle.links.specs.declared.End.{End}
use Rattle.links.specs.declared.Links.{Links}
use Rattle.board.specs.Boards.{fresh}
use Rattle.board.specs.Events.{take_of}
use Rattle.board.specs.Streams.{board_after_all}
use Rattle.board.specs.declared.Board.{Board}
use Rattle.replies.specs.Replies.{reply_of}
use Rattle.rooms.specs.Filling.{BeginsWith}
use Rattle.engine.specs.Agreement.{Agrees, answers_of}
use Rattle.engine.proofs.Agreeing.{begins_agrees, board_agrees, reply_agrees, take_agrees}
use Rattle.halves.specs.Answers.{answer_of}
use Rattle.hulls.specs.Rooms.{links_in, board_in, reply_room}
use Rattle.hulls.proofs.Back.{links_back, board_there}
use Rattle.day_rooms.specs.Days.{FilledFrom, BeginsFrom, TakesFrom, RepliesFrom, TakenAll, answers_in}
use Rattle.day_rooms.specs.Days.TakenAll.{none, next}

-- ---- the first point of a link is a byte

none_so : (so : Record → Bool) (rs : List Record) → some so rs ≡ false → first_that so rs ≡ blank
unfolding some first_that
none_so so [] e = refl
none_so so (r ∷ rs) e = go (so r) e (none_so so rs)
  where
    go : (b : Bool) → (b || some so rs) ≡ false → (some so rs ≡ false → first_that so rs ≡ blank) → (if b then r else first_that so rs) ≡ blank
    go true k on = absurd (let z : ◌≡◌ {A = ℕ} 0 1 = cc in omega arith)
    go false k on = on k

module _ (rs : List Record) (ok : Accepted rs) where
  start_byte : (c : ℕ) → (link_to rs c).a < 256
  start_byte c = go (watched rs c) refl
    where
      go : (w : Bool) → watched rs c ≡ w → (link_to rs c).a < 256
      go true w =
          let e = ok.ends c w in
          let l = rw e.2.2 at (ok.each e.2.0 e.2.1) in
          omega (arith, (l.names (not_a (link_to rs c) link point (λ u. omega arith) e.0)).0, ok.few)
      go false w = rw (none_so _ rs w) (omega arith)

-- ---- the rooms that were begun agree

module _ (s links rows into out ends kept : List ℕ) (z : number_in (read_of s) ≡ 0) (f : FilledFrom s links rows into out ends kept) where
  abbrev p : Plan
  p = plan_in (read_of s)

  checked : (check_of p).number ≡ 0
  checked = ap (λ (x : Refusal). x.number) (read_is_checked s z)

  placed : (check_of p).place ≡ 0
  placed = ap (λ (x : Refusal). x.place) (read_is_checked s z)

  -- the links that are read from the room are those that were put there
  links_are : links_in links ≡ f.of
  links_are =
      ap links_in f.held
      ∙ links_back f.of f.are.long (λ q h. let e = ap (λ (x : End). x.from) (f.are.ends q h) in omega (arith, e, start_byte (records_of p) (accepted_plan p checked) q))

  begins : BeginsWith p (record { number = 0; place = 0; links = f.of }) rows into out ends kept rows into out ends kept
  begins =
      record {
        room = f.room;
        number = sym checked;
        place = sym placed;
        links = f.are;
        refused = λ n. absurd (n checked);
        taken = λ e. f.rooms;
      }

  pub filled_agrees : Agrees p (links_in links) rows into out ends fresh kept
  filled_agrees = rw links_are (begins_agrees p _ rows into out ends kept rows into out ends kept begins refl)

-- AT THE BEGINNING: a file that is accepted gives rooms that agree with the plain engine at the fresh board
pub begun_agrees : (s links₀ rows₀ into₀ out₀ ends₀ kept₀ : List ℕ) (r : ℕ) (links rows into out ends kept : List ℕ)
    → BeginsFrom s links₀ rows₀ into₀ out₀ ends₀ kept₀ r links rows into out ends kept → number_in (read_of s) ≡ 0
    → Agrees (plan_in (read_of s)) (links_in links) rows into out ends fresh kept
begun_agrees s links₀ rows₀ into₀ out₀ ends₀ kept₀ r links rows into out ends kept b z = filled_agrees s links rows into out ends kept z (b.taken z)

-- ---- and go on to agree

-- THE WHOLE DAY: the plain engine's answers, and the rooms agree with its board after it
pub day_agrees : (p : Plan) (links rows into out ends : List ℕ) (b : Board) (kept kept' : List ℕ) (ss : List (List ℕ)) (rs : List ℕ) → Agrees p (links_in links) rows into out ends b kept
    → TakenAll links rows into out ends kept ss rs kept' → (rs ≡ answers_in (answers_of p b ss)) × Agrees p (links_in links) rows into out ends (board_after_all p b ss) kept'
unfolding answers_of board_after_all answers_in
day_agrees p links rows into out ends b kept kept' ss rs a none = (refl, a)
day_agrees p links rows into out ends b kept kept' ss rs a (next {kept' = k} {s = s} {ss = ts} {r = r} {rs = qs} h g) =
    let t = take_agrees p (links_in links) rows into out ends b kept a s h.found k h.takes in
    let e : r ≡ answer_of (take_of p b s).number (take_of p b s).place = h.answer ∙ (λ i. answer_of (t.number i) (t.place i)) in
    let f = day_agrees p links rows into out ends (take_of p b s).board k kept' ts qs t.agrees g in
    (λ i. e i ∷ f.0 i, f.1)

-- THE REPLY and THE BOARD of rooms that agree
module _ (p : Plan) (links rows into out ends : List ℕ) (b : Board) (kept : List ℕ) (a : Agrees p (links_in links) rows into out ends b kept) where
  pub said_agrees : (room : List ℕ) → RepliesFrom links rows out kept room → room ≡ reply_room (reply_of p b)
  said_agrees room x = x.holds ∙ ap reply_room (reply_agrees p (links_in links) rows into out ends b kept a x.reply x.replies)

  pub shown_agrees : board_in kept ≡ b
  shown_agrees = board_agrees p (links_in links) rows into out ends b kept a (board_in kept) (board_there kept)
