-- Records of some bytes and of more bytes. Assumes nothing.
use mathlib.Core.Path.{◌≡◌, refl, sym, ap, ◌∙◌}
use mathlib.Core.Bool.{Bool, true, false}
use mathlib.Core.List.{List, [], ◌∷◌, ◌++◌, append_assoc, append-nil}
use Prim.Native.Nat.{ℕ, zero, suc, ◌+◌, ◌*◌, ◌/◌, ◌≤◌, ◌<◌}
use native.Mathlib.Omega.{arith}
use lib.ListN.{length, take, drop, length-append, length-drop, take-append-drop}
use lib.Seq.{take-append-le, drop-append-le, take-add, length-take-le}
use Rattle.std.specs.Prelude.{if◌then◌else◌}
use Rattle.plan.specs.Limits.{record_bytes}
use Rattle.board.specs.Streams.{events_in}
use Rattle.stream.specs.Sheets.{is_mark}
use Rattle.printed.specs.Texts.{whole_in, until_mark}

-- n records of a front, and m of what comes behind it
pub events_behind : (n m : ℕ) (s t : List ℕ) → length s ≡ record_bytes * n → events_in (n + m) (s ++ t) ≡ events_in n s ++ events_in m t
unfolding events_in
events_behind zero m [] t e = ap (λ (k : ℕ). events_in k t) (let z : 0 + m ≡ m = omega arith in z)
events_behind zero m (x ∷ s) t e = absurd (omega arith)
events_behind (suc n) m s t e =
    let z : suc n + m ≡ suc (n + m) = omega arith in
    let h : record_bytes ≤ length s = omega arith in
    rw z
    (rw (take-append-le record_bytes s t h, drop-append-le record_bytes s t h)
    (ap (λ (xs : List (List ℕ)). take record_bytes s ∷ xs) (events_behind n m (drop record_bytes s) t (length-drop record_bytes s ∙ omega arith))))

-- only the front counts
pub events_front : (n : ℕ) (s t : List ℕ) → record_bytes * n ≤ length s → events_in n (s ++ t) ≡ events_in n s
unfolding events_in
events_front zero s t h = refl
events_front (suc n) s t h =
    let f : record_bytes ≤ length s = omega arith in
    let g : record_bytes * n ≤ length (drop record_bytes s) = omega (arith, length-drop record_bytes s) in
    rw (take-append-le record_bytes s t f, drop-append-le record_bytes s t f) (ap (λ (xs : List (List ℕ)). take record_bytes s ∷ xs) (events_front n (drop record_bytes s) t g))

pub events_taken : (n : ℕ) (s : List ℕ) → record_bytes * n ≤ length s → events_in n (take (record_bytes * n) s) ≡ events_in n s
events_taken n s h =
    let l = length-take-le (record_bytes * n) s h in
    sym (events_front n (take (record_bytes * n) s) (drop (record_bytes * n) s) (omega (arith, l))) ∙ ap (events_in n) (take-append-drop (record_bytes * n) s)

-- whole records, and whole records behind them
pub whole_behind : (n m : ℕ) (s input : List ℕ) → length s ≡ record_bytes * n → record_bytes * m ≤ length input
    → whole_in (s ++ take (record_bytes * m) input) ≡ whole_in s ++ events_in m input
whole_behind n m s input e h =
    let l = length-take-le (record_bytes * m) input h in
    let a : length (s ++ take (record_bytes * m) input) / record_bytes ≡ n + m = omega (arith, length-append s (take (record_bytes * m) input)) in
    let b : length s / record_bytes ≡ n = omega arith in
    rw (a, b) (events_behind n m s (take (record_bytes * m) input) e ∙ ap (λ (xs : List (List ℕ)). events_in n s ++ xs) (events_taken m input h))

-- whole records, and an unfinished one behind them
pub whole_rest : (n : ℕ) (s rest : List ℕ) → length s ≡ record_bytes * n → length rest < record_bytes → whole_in (s ++ rest) ≡ whole_in s
whole_rest n s rest e h =
    let a : length (s ++ rest) / record_bytes ≡ n = omega (arith, length-append s rest) in
    let b : length s / record_bytes ≡ n = omega arith in
    rw (a, b) (events_front n s rest (omega arith))

-- none of the first records is the mark
pub until_behind : (xs ys : List (List ℕ)) → until_mark xs ≡ length xs → until_mark (xs ++ ys) ≡ length xs + until_mark ys
unfolding until_mark
until_behind [] ys e = let z : until_mark ys ≡ 0 + until_mark ys = omega arith in z
until_behind (x ∷ xs) ys e = go (is_mark x) e (λ h. until_behind xs ys h)
  where
    go : (t : Bool) → (if t then 0 else suc (until_mark xs)) ≡ suc (length xs) → (until_mark xs ≡ length xs → until_mark (xs ++ ys) ≡ length xs + until_mark ys)
        → (if t then 0 else suc (until_mark (xs ++ ys))) ≡ suc (length xs) + until_mark ys
    go true h on = absurd (omega arith)
    go false h on = let k = on (omega arith) in omega arith

-- records one after the other
unfoldable pub joined : List (List ℕ) → List ℕ
joined [] = []
joined (s ∷ ss) = s ++ joined ss

pub joined_more : (ss : List (List ℕ)) (s : List ℕ) → joined (ss ++ (s ∷ [])) ≡ joined ss ++ s
unfolding joined
joined_more [] s = append-nil s
joined_more (x ∷ ss) s = ap (λ (t : List ℕ). x ++ t) (joined_more ss s) ∙ sym (append_assoc x (joined ss) s)

pub joined_events : (n : ℕ) (s : List ℕ) → record_bytes * n ≤ length s → joined (events_in n s) ≡ take (record_bytes * n) s
unfolding joined events_in
joined_events zero s h = refl
joined_events (suc n) s h =
    let g : record_bytes * n ≤ length (drop record_bytes s) = omega (arith, length-drop record_bytes s) in
    let z : record_bytes + record_bytes * n ≡ record_bytes * suc n = omega arith in
    ap (λ (t : List ℕ). take record_bytes s ++ t) (joined_events n (drop record_bytes s) g) ∙ sym (take-add record_bytes (record_bytes * n) s) ∙ ap (λ (k : ℕ). take k s) z
