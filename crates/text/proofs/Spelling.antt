-- The letters of each word, computed. Assumes nothing.
use mathlib.Core.Path.{◌≡◌, refl}
use mathlib.Core.List.{List, [], ◌∷◌}
use Prim.Native.Nat.{ℕ}
use Rattle.lines.specs.Text.{spelled, letters}
use Rattle.text.specs.Words.{plan_word, tail_word, end_word, kept_word, broken_word, stuck_word, open_word, test_word, yes_word, cycle_word, pair_word, event_word, board_word, finished_word, waiting_word, offers_word, point_word, done_word, watched_word, shut_word, held_word, offered_word, refused_word, ordinary_word, wait_word}

-- the words in the order of `Words`, and their letters
all : List (List ℕ)
all = letters plan_word ∷ letters tail_word ∷ letters end_word ∷ letters kept_word ∷ letters broken_word ∷ letters stuck_word ∷ letters open_word ∷ letters test_word ∷ letters yes_word ∷ letters cycle_word ∷ letters pair_word ∷ letters event_word ∷ letters board_word ∷ letters finished_word ∷ letters waiting_word ∷ letters offers_word ∷ letters point_word ∷ letters done_word ∷ letters watched_word ∷ letters shut_word ∷ letters held_word ∷ letters offered_word ∷ letters refused_word ∷ letters ordinary_word ∷ letters wait_word ∷ []

spelt : List (List ℕ)
spelt =
    (112 ∷ 108 ∷ 97 ∷ 110 ∷ [])
    ∷ (116 ∷ 97 ∷ 105 ∷ 108 ∷ [])
    ∷ (101 ∷ 110 ∷ 100 ∷ [])
    ∷ (107 ∷ 101 ∷ 112 ∷ 116 ∷ [])
    ∷ (98 ∷ 114 ∷ 111 ∷ 107 ∷ 101 ∷ 110 ∷ [])
    ∷ (115 ∷ 116 ∷ 117 ∷ 99 ∷ 107 ∷ [])
    ∷ (111 ∷ 112 ∷ 101 ∷ 110 ∷ [])
    ∷ (116 ∷ 101 ∷ 115 ∷ 116 ∷ [])
    ∷ (121 ∷ 101 ∷ 115 ∷ [])
    ∷ (99 ∷ 121 ∷ 99 ∷ 108 ∷ 101 ∷ [])
    ∷ (112 ∷ 97 ∷ 105 ∷ 114 ∷ [])
    ∷ (101 ∷ 118 ∷ 101 ∷ 110 ∷ 116 ∷ [])
    ∷ (98 ∷ 111 ∷ 97 ∷ 114 ∷ 100 ∷ [])
    ∷ (102 ∷ 105 ∷ 110 ∷ 105 ∷ 115 ∷ 104 ∷ 101 ∷ 100 ∷ [])
    ∷ (119 ∷ 97 ∷ 105 ∷ 116 ∷ 105 ∷ 110 ∷ 103 ∷ [])
    ∷ (111 ∷ 102 ∷ 102 ∷ 101 ∷ 114 ∷ 115 ∷ [])
    ∷ (112 ∷ 111 ∷ 105 ∷ 110 ∷ 116 ∷ [])
    ∷ (100 ∷ 111 ∷ 110 ∷ 101 ∷ [])
    ∷ (119 ∷ 97 ∷ 116 ∷ 99 ∷ 104 ∷ 101 ∷ 100 ∷ [])
    ∷ (115 ∷ 104 ∷ 117 ∷ 116 ∷ [])
    ∷ (104 ∷ 101 ∷ 108 ∷ 100 ∷ [])
    ∷ (111 ∷ 102 ∷ 102 ∷ 101 ∷ 114 ∷ 101 ∷ 100 ∷ [])
    ∷ (114 ∷ 101 ∷ 102 ∷ 117 ∷ 115 ∷ 101 ∷ 100 ∷ [])
    ∷ (111 ∷ 114 ∷ 100 ∷ 105 ∷ 110 ∷ 97 ∷ 114 ∷ 121 ∷ [])
    ∷ (119 ∷ 97 ∷ 105 ∷ 116 ∷ [])
    ∷ []

right : all ≡ spelt
unfolding all spelt spelled
right = refl
