-- The records of some bytes. Assumes nothing.
use mathlib.Core.Path.{◌≡◌, refl, sym, ap, ◌∙◌}
use mathlib.Core.Bool.{Bool, true, false}
use mathlib.Core.List.{List, [], ◌∷◌, ◌++◌}
use Prim.Native.Nat.{ℕ, zero, suc, ◌+◌, ◌*◌}
use native.Mathlib.Omega.{arith}
use lib.ListN.{length, take, drop}
use lib.Seq.{drop-drop}
use Rattle.plan.specs.Limits.{record_bytes}
use Rattle.std.specs.Prelude.{if◌then◌else◌}
use Rattle.board.specs.Streams.{events_in}
use Rattle.stream.specs.Sheets.{is_mark}
use Rattle.printed.specs.Texts.{until_mark}

pub length_events : (n : ℕ) (s : List ℕ) → length (events_in n s) ≡ n
unfolding events_in
length_events zero s = refl
length_events (suc n) s = ap suc (length_events n (drop record_bytes s))

-- one record more
pub events_more : (n : ℕ) (s : List ℕ) → events_in (suc n) s ≡ events_in n s ++ (take record_bytes (drop (record_bytes * n) s) ∷ [])
unfolding events_in
events_more zero s = refl
events_more (suc n) s =
    let e : record_bytes + record_bytes * n ≡ record_bytes * suc n = omega arith in
    ap (λ (xs : List (List ℕ)). take record_bytes s ∷ xs) (events_more n (drop record_bytes s) ∙ ap (λ (x : List ℕ). events_in n (drop record_bytes s) ++ (take record_bytes x ∷ [])) (drop-drop (record_bytes * n) record_bytes s ∙ ap (λ (k : ℕ). drop k s) e))

-- one record more that is not the mark
pub until_more : (xs : List (List ℕ)) (y : List ℕ) → until_mark xs ≡ length xs → is_mark y ≡ false → until_mark (xs ++ (y ∷ [])) ≡ suc (length xs)
unfolding until_mark
until_more [] y e f = rw f
until_more (x ∷ xs) y e f = go (is_mark x) e (λ h. until_more xs y h f)
  where
    go : (t : Bool) → (if t then 0 else suc (until_mark xs)) ≡ suc (length xs) → (until_mark xs ≡ length xs → until_mark (xs ++ (y ∷ [])) ≡ suc (length xs)) → (if t then 0 else suc (until_mark (xs ++ (y ∷ [])))) ≡ suc (suc (length xs))
    go true h on = absurd (omega arith)
    go false h on = ap suc (on (omega arith))
