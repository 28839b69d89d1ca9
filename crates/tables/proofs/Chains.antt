-- What `all` and `any` over the numbers below n answer, said of the numbers and not of a list. Assumes nothing.
use mathlib.Core.Path.{◌≡◌, ◌∙◌, subst}
use mathlib.Core.Bool.{Bool, true, false}
use Prim.Native.Nat.{ℕ, ◌+◌, ◌<◌}
use native.Mathlib.Omega.{arith}
use lib.ListN.{length, get_or}
use Rattle.std.specs.Bool.{MatchBool}
use Rattle.std.specs.List.{AllWithin, HoldsAt, range_with_len}
use Rattle.std.proofs.lemmas.List.FromFn.{length-range_with_len, get_or-range_with_len}

the_number : (n x : ℕ) → x < n → get_or (range_with_len 0 n) x 0 ≡ x
the_number n x l = let z : 0 + x ≡ x = omega arith in get_or-range_with_len 0 n x 0 l ∙ z

-- all have P, or one has Q
pub all_below : (n : ℕ) (r : Bool) (P Q : ℕ → Type 0) → MatchBool r (AllWithin P (range_with_len 0 n) 0 (length (range_with_len 0 n))) ((k : ℕ) × (k < length (range_with_len 0 n)) × HoldsAt Q (range_with_len 0 n) k) → MatchBool r ((x : ℕ) → x < n → P x) ((x : ℕ) × (x < n) × Q x)
all_below n true P Q h = λ x l. subst P (the_number n x l) (h x 0 (omega arith) (omega (arith, length-range_with_len 0 n)))
all_below n false P Q h = let l : h.0 < n = omega (arith, h.1, length-range_with_len 0 n) in (h.0, l, subst Q (the_number n h.0 l) (h.2 0))

-- one has P, or all have Q
pub any_below : (n : ℕ) (r : Bool) (P Q : ℕ → Type 0) → MatchBool r ((k : ℕ) × (k < length (range_with_len 0 n)) × HoldsAt P (range_with_len 0 n) k) (AllWithin Q (range_with_len 0 n) 0 (length (range_with_len 0 n))) → MatchBool r ((x : ℕ) × (x < n) × P x) ((x : ℕ) → x < n → Q x)
any_below n true P Q h = all_below n false Q P h
any_below n false P Q h = all_below n true Q P h
