-- Document 02, §6, "Why is it shut?": what is promised of the record that a shut point's place and number 28 carry. The rule itself
-- is `shut_by` of `Windows`. Assumes nothing.
use Rattle.std.specs.Prelude.{◌≡◌, true, false, List, ℕ, ◌<◌, length, get_or}
use Rattle.plan.specs.APlan.{blank}
use Rattle.records.specs.declared.Record.{Record}
use Rattle.board.specs.Windows.{shuts, foremans, is_open, holder}
use Rattle.board.specs.Events.{event_point, event_number, event_record}
use Rattle.board.specs.declared.Board.{Board}

-- no record of rs keeps q shut
pub record NoHolder (rs : List Record) (b : Board) (q : ℕ) : Type 0 where
  pub none : (i : ℕ) → i < length rs → shuts rs b q (get_or rs i blank) ≡ false

-- record i keeps q shut, and no record before it in the file does; it is not record 0, so that 0 can stand for none
pub record FirstHolder (rs : List Record) (b : Board) (q i : ℕ) : Type 0 where
  pub listed : i < length rs
  pub holds : shuts rs b q (get_or rs i blank) ≡ true
  pub first : (j : ℕ) → j < i → shuts rs b q (get_or rs j blank) ≡ false
  pub not_0 : 0 < i

-- a foreman's point not yet done is open exactly when no record holds it, and where it is not open, its record is the first that
-- does
pub record WhyShut (rs : List Record) (b : Board) (q : ℕ) : Type 0 where
  pub free : is_open rs b q ≡ true → NoHolder rs b q
  pub opens : NoHolder rs b q → is_open rs b q ≡ true
  pub shut : is_open rs b q ≡ false → FirstHolder rs b q (holder rs b q)

-- the record beside an event's number: beside 28 the one that keeps the event's point shut, none where that point is watched or
-- done, and none beside any other number
pub record Why28 (rs : List Record) (b : Board) (s : List ℕ) : Type 0 where
  pub shut : event_number rs b s ≡ 28 → foremans rs b (event_point s) ≡ true → FirstHolder rs b (event_point s) (event_record rs b s)
  pub no_foremans : foremans rs b (event_point s) ≡ false → event_record rs b s ≡ 0
  pub other : (event_number rs b s ≡ 28 → ⊥) → event_record rs b s ≡ 0
