-- A room is filled with a board, or with the numbers of a reply, one point after the other. Assumes nothing.
use mathlib.Core.Path.{◌≡◌, refl, ap, ◌∙◌}
use mathlib.Core.List.{List, [], ◌∷◌, ◌++◌, append_assoc, append-nil}
use Prim.Native.Nat.{ℕ, suc, ◌+◌, ◌*◌, ◌<◌}
use native.Mathlib.Omega.{arith}
use native.Mathlib.Numerals.{add-one}
use lib.ListN.{length, get_or, take, drop, set, replicate, length-set, drop_of_length-le}
use lib.Seq.{sets, take_all, paste, paste-suc, length-paste, take-paste}
use Rattle.plan.specs.Limits.{most_points}
use Rattle.replies.specs.declared.Place.{Place}
use Rattle.link_numbers.proofs.Putting.{first_two, Put, put_turn}
use Rattle.hulls.specs.Rooms.{board_length, place_numbers, state_code, state_value}

-- a number for each point, from a place on
pub table_turn : (d : List ℕ) (at : ℕ) (s : List ℕ) (j : ℕ) (room : List ℕ) → room ≡ paste d at s j → at + j < length d → j < length s
    → set room (at + j) (get_or s j 0) ≡ paste d at s (j + 1)
table_turn d at s j room e h k = rw (e, add-one) (paste-suc d at s j 0 h k)

-- a board: two numbers, and two tables behind them
pub board_put : (r : List ℕ) (c d : ℕ) (m n : List ℕ) → length r ≡ 66 → length m ≡ 32 → length n ≡ 32
    → paste (paste (set (set r 0 c) 1 d) 2 m 32) 34 n 32 ≡ (c ∷ d ∷ []) ++ (m ++ n)
board_put r c d m n lr lm ln =
    let r₁ = set (set r 0 c) 1 d in
    let l₁ : length r₁ ≡ 66 = length-set (set r 0 c) 1 d ∙ length-set r 0 c ∙ lr in
    let r₂ = paste r₁ 2 m 32 in
    let l₂ : length r₂ ≡ 66 = length-paste r₁ 2 m 32 (omega arith) (omega arith) ∙ l₁ in
    let t : take 34 r₂ ≡ take 2 r₁ ++ take 32 m = take-paste r₁ 2 m 32 (omega arith) (omega arith) in
    let t₁ : take 2 r₁ ≡ c ∷ d ∷ [] = first_two r c d (omega arith) in
    let t₂ : take 32 m ≡ m = take_all 32 m (omega arith) in
    let t₃ : take 32 n ≡ n = take_all 32 n (omega arith) in
    let e : drop 66 r₂ ≡ [] = drop_of_length-le r₂ {i = 66} (omega arith) in
    let x : take 34 r₂ ≡ (c ∷ d ∷ []) ++ m = t ∙ (λ i. t₁ i ++ t₂ i) in
    (λ i. x i ++ t₃ i ++ e i) ∙ append-nil (((c ∷ d ∷ []) ++ m) ++ n) ∙ append_assoc (c ∷ d ∷ []) m n

pub board_by : (c d : ℕ) (m n x y : List ℕ) → length m ≡ 32 → length n ≡ 32 → x ≡ paste (set (set (replicate 66 0) 0 c) 1 d) 2 m 32 → y ≡ paste x 34 n 32
    → y ≡ (c ∷ d ∷ []) ++ (m ++ n)
board_by c d m n x y lm ln ex ey = ey ∙ ap (λ (r : List ℕ). paste r 34 n 32) ex ∙ board_put (replicate 66 0) c d m n refl lm ln

-- two stores, one behind the other
two_sets : {A : Type 0} (l : List A) (i : ℕ) (a b : A) → set (set l i a) (i + 1) b ≡ sets l i (a ∷ b ∷ [])
two_sets l i a b = let e : i + 1 ≡ suc i = omega arith in rw e

-- a reply: two numbers for each point
pub places_turn : (head : List ℕ) (places : List Place) (q : ℕ) (room : List ℕ) → q < most_points → length places ≡ most_points → length room ≡ board_length
    → Put place_numbers head places (2 + 2 * q) q room → (x d : Place) → get_or places q d ≡ x → (a b : ℕ) → a ≡ state_code x.state → b ≡ state_value x.state
    → Put place_numbers head places (2 + 2 * (q + 1)) (q + 1) (set (set room (2 + 2 * q) a) (2 + 2 * q + 1) b)
places_turn head places q room h le lr p x d e a b ea eb =
    let t = put_turn place_numbers head places (2 + 2 * q) q room x d e (omega arith) (omega arith) p in
    let n : 2 + 2 * (q + 1) ≡ 2 + 2 * q + 2 = omega arith in
    rw (n, ea, eb, two_sets room (2 + 2 * q) (state_code x.state) (state_value x.state)) t
