-- Events that are taken at once come to the same as one after the other. Assumes nothing.
use Rattle.std.proofs.Common.{◌≡◌, ℕ, zero, suc, ◌+◌, ◌*◌, ◌%◌, ◌^◌, ◌<◌, true, List, [], ◌∷◌, ◌++◌, length, drop, sym, refl, ap, ◌∙◌, arith, eq-eqb, ne_eqb}
use Rattle.plan.specs.Limits.{record_bytes}
use Rattle.plan.specs.APlan.{records_of}
use Rattle.plan.specs.ReplyNumbers.{check_of}
use Rattle.board.specs.Boards.{sound}
use Rattle.board.specs.Streams.{events_in, many_in, said, said_numbers, said_of, board_after_all, take_all_of, said_all_of}
use Rattle.stream.specs.Sheets.{playing, played_of, next_at, next_of}
use Rattle.stream.specs.Many.{one_by_one, said_along, AtOnce}
use Rattle.stream.specs.declared.sheet.Sheet.{Sheet}
use Rattle.stream.specs.declared.sheet.Stage.{Stage}

-- a record more is an event
event_next : (s : Sheet) (e front : List ℕ) → s.stage ≡ playing → next_of s e front ≡ played_of s e
unfolding next_of
event_next s e front h = ap (λ (t : Stage). next_at t s e front) h

module _ (front : List ℕ) where
  board_along : (es : List (List ℕ)) (s : Sheet) → s.stage ≡ playing → board_after_all s.plan s.taken.board es ≡ (one_by_one s front es).taken.board
  unfolding board_after_all one_by_one
  board_along [] s h = refl
  board_along (e ∷ es) s h = board_along es (played_of s e) h ∙ ap (λ (x : Sheet). (one_by_one x front es).taken.board) (sym (event_next s e front h))

  plan_along : (es : List (List ℕ)) (s : Sheet) → s.stage ≡ playing → s.plan ≡ (one_by_one s front es).plan
  unfolding one_by_one
  plan_along [] s h = refl
  plan_along (e ∷ es) s h = plan_along es (played_of s e) h ∙ ap (λ (x : Sheet). (one_by_one x front es).plan) (sym (event_next s e front h))

  said_along_lem : (es : List (List ℕ)) (s : Sheet) → s.stage ≡ playing → said_of s.plan s.taken.board es ≡ said_along s front es
  unfolding said_of said_along
  said_along_lem [] s h = refl
  said_along_lem (e ∷ es) s h =
      ap (λ (xs : List ℕ). said (played_of s e).taken ++ xs) (said_along_lem es (played_of s e) h)
      ∙ ap (λ (x : Sheet). said x.taken ++ said_along x front es) (sym (event_next s e front h))

  counted_along : (es : List (List ℕ)) (s : Sheet) → s.stage ≡ playing → s.events < 2 ^ 64 → (s.events + length es) % 2 ^ 64 ≡ (one_by_one s front es).events
  unfolding one_by_one
  counted_along [] s h f = omega arith
  counted_along (e ∷ es) s h f =
      let one : (s.events + length (e ∷ es)) % 2 ^ 64 ≡ ((s.events + 1) % 2 ^ 64 + length es) % 2 ^ 64 = omega arith in
      one ∙ counted_along es (played_of s e) h (omega arith) ∙ ap (λ (x : Sheet). (one_by_one x front es).events) (sym (event_next s e front h))

length_events : (n : ℕ) (s : List ℕ) → length (events_in n s) ≡ n
unfolding events_in
length_events zero s = refl
length_events (suc n) s = ap suc (length_events n (drop record_bytes s))

-- For a sheet among its events, of an accepted plan and with a sound board, as every sheet is that has come so far.
pub at_once : (s : Sheet) (front bytes room : List ℕ) → s.stage ≡ playing → s.events < 2 ^ 64 → (check_of s.plan).number ≡ 0
    → sound (records_of s.plan) s.taken.board ≡ true → AtOnce s front bytes room
unfolding take_all_of said_all_of
at_once s front bytes room h f ok good =
    let es = events_in (many_in bytes room) bytes in
    record {
      board = rw (eq-eqb _ 0 ok, good) (board_along front es s h);
      events = let c = counted_along front es s h f in rw (length_events (many_in bytes room) bytes) at c;
      plan = plan_along front es s h;
      told = rw (eq-eqb _ 0 ok, good) (ap (λ (xs : List ℕ). xs ++ drop (said_numbers * many_in bytes room) room) (said_along_lem front es s h));
    }
