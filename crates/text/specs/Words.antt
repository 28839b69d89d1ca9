-- The words of the lines, each as the codes of its letters to the base 256, the first letter lowest. `Spelling` in proofs/
-- has the letters of each written out. Assumes nothing.
use Rattle.std.specs.Prelude.{ℕ}

abbrev pub plan_word : ℕ
plan_word = 0x6e616c70

abbrev pub tail_word : ℕ
tail_word = 0x6c696174

abbrev pub end_word : ℕ
end_word = 0x646e65

abbrev pub kept_word : ℕ
kept_word = 0x7470656b

abbrev pub broken_word : ℕ
broken_word = 0x6e656b6f7262

abbrev pub stuck_word : ℕ
stuck_word = 0x6b63757473

abbrev pub open_word : ℕ
open_word = 0x6e65706f

abbrev pub test_word : ℕ
test_word = 0x74736574

abbrev pub yes_word : ℕ
yes_word = 0x736579

abbrev pub cycle_word : ℕ
cycle_word = 0x656c637963

abbrev pub pair_word : ℕ
pair_word = 0x72696170

abbrev pub event_word : ℕ
event_word = 0x746e657665

abbrev pub board_word : ℕ
board_word = 0x6472616f62

abbrev pub finished_word : ℕ
finished_word = 0x64656873696e6966

abbrev pub waiting_word : ℕ
waiting_word = 0x676e6974696177

abbrev pub offers_word : ℕ
offers_word = 0x73726566666f

abbrev pub point_word : ℕ
point_word = 0x746e696f70

abbrev pub done_word : ℕ
done_word = 0x656e6f64

abbrev pub watched_word : ℕ
watched_word = 0x64656863746177

abbrev pub shut_word : ℕ
shut_word = 0x74756873

abbrev pub held_word : ℕ
held_word = 0x646c6568

abbrev pub offered_word : ℕ
offered_word = 0x6465726566666f

abbrev pub refused_word : ℕ
refused_word = 0x64657375666572

abbrev pub ordinary_word : ℕ
ordinary_word = 0x7972616e6964726f

abbrev pub wait_word : ℕ
wait_word = 0x74696177
