-- A list that is filled from the front: the next place is stored. Assumes nothing.
use mathlib.Core.Path.{◌≡◌, sym, ◌∙◌}
use mathlib.Core.List.{List, [], ◌∷◌, ◌++◌}
use Prim.Native.Nat.{ℕ, suc, ◌+◌, ◌-◌, ◌≤◌}
use native.Mathlib.Omega.{arith}
use lib.ListN.{length, set, replicate}
use lib.Seq.{set_at, append_snoc}

pub fill : {A : Type 0} (xs : List A) (n m : ℕ) (room : List A) (v z : A) → n ≡ length xs → n + 1 ≤ m → room ≡ xs ++ replicate (m - n) z
    → set room n v ≡ (xs ++ (v ∷ [])) ++ replicate (m - (n + 1)) z
fill xs n m room v z l h e =
    let k : m - n ≡ suc (m - (n + 1)) = omega arith in
    rw (e, k) (set_at xs z (replicate (m - (n + 1)) z) v n (sym l) ∙ sym (append_snoc xs v (replicate (m - (n + 1)) z)))
