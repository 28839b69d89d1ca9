-- What an accepted list of entries keeps. Records, entries and their bytes are handed on from `records`. Assumes nothing.
use mathlib.Core.Path.{◌≡◌, refl, sym, ◌∙◌}
use mathlib.Core.Bool.{Bool, true, false, not, ◌&&◌, true≢false}
use mathlib.Core.List.{List, [], ◌∷◌, ◌++◌}
use Prim.Native.Nat.{ℕ}
use native.Mathlib.Omega.{arith}
use lib.Dec.{eqb}
use borrow.Author.Tests.{eqb-true, not-false}
use Rattle.std.specs.Prelude.{if◌then◌else◌}
use Rattle.plan.specs.APlan.{Kind, point, link, ordinary, wait, unknown}
use Rattle.plan.specs.PlanFile.{Entry}
use Rattle.plan.specs.ReplyNumbers.{Before, is_nought, is_known, in_order, room_for_with, zeros, number_for_with, number_with, after, accepted, first_bad_with}
use Rattle.plan.specs.Held.{All}
use Rattle.records.specs.declared.Record.{Record}
use Rattle.plan.specs.declared.Refusal.{Refusal}
pub use Rattle.records.proofs.Entries.{all_take, length_bytes, all_are_bytes, entries_back, IsPlain, plains, whats, length_entries, bytes_again}

-- a chain of tests whose number is 0 went past its first
pub past : {A : Type 0} (number : A → ℕ) (b : Bool) (x y : A) → (number x ≡ 0 → ⊥) → number (if b then x else y) ≡ 0
    → (b ≡ false) × (number y ≡ 0)
past number true x y n e = absurd (n e)
past number false x y n e = (refl, e)

last : (a b : Bool) → (a && b) ≡ true → b ≡ true
last true b e = e
last false b e = absurd (true≢false (sym e))

zero_byte : (k : Kind) (r : Record) (z : ℕ) → is_known k ≡ true → zeros k r z ≡ true → z ≡ 0
zero_byte point r z k e = eqb-true z 0 (last (is_nought r.second) _ (last (is_nought r.first) _ (last (eqb r.b 0) _ e)))
zero_byte link r z k e = eqb-true z 0 (last (eqb r.code 0) _ e)
zero_byte ordinary r z k e = eqb-true z 0 (last (eqb r.code 0) _ (last (is_nought r.second) _ e))
zero_byte wait r z k e = eqb-true z 0 (last (eqb r.code 0) _ (last (is_nought r.second) _ e))
zero_byte unknown r z k e = absurd (true≢false (sym k))

-- An accepted record has byte 3 zero, whatever the limit m of ordinary ones.
pub plain_number : (m : ℕ) (k : Kind) (b : Before) (r : Record) (z : ℕ) → number_for_with m k b r z ≡ 0 → z ≡ 0
unfolding number_for_with
plain_number m k b r z e =
    let known = past (λ (n : ℕ). n) (not (is_known k)) 4 _ (omega arith) e in
    let order = past (λ (n : ℕ). n) (not (in_order b r)) 5 _ (omega arith) known.1 in
    let room = past (λ (n : ℕ). n) (not (room_for_with m b k)) 6 _ (omega arith) order.1 in
    let zeros = past (λ (n : ℕ). n) (not (zeros k r z)) 7 _ (omega arith) room.1 in
    zero_byte k r z (not-false _ known.0) (not-false _ zeros.0)

-- an answer that is y, of number n, unless n is 0: its number is 0 only if n is
pub passed : {A : Type 0} (number : A → ℕ) (n : ℕ) (x y : A) → number y ≡ n → number (if eqb n 0 then x else y) ≡ 0 → n ≡ 0
passed number n x y m e = go (eqb n 0) refl e
  where
    go : (b : Bool) → eqb n 0 ≡ b → number (if b then x else y) ≡ 0 → n ≡ 0
    go true t e = eqb-true n 0 t
    go false t e = sym m ∙ e

-- Entries of which none is bad all have byte 3 zero, and no place is named.
pub none_bad : (m : ℕ) (rs : List Record) (es : List Entry) → (first_bad_with m rs es).number ≡ 0 → (first_bad_with m rs es ≡ accepted) × All IsPlain es
unfolding first_bad_with
none_bad m rs [] e = (refl, tt)
none_bad m rs (x ∷ es) e =
    let n : number_with m (after rs) x.what x.reserved ≡ 0 = passed (λ (x : Refusal). x.number) _ _ _ refl e in
    let h = none_bad m (rs ++ (x.what ∷ [])) es (rw n at e) in
    (rw n h.0, (plain_number m _ _ _ _ n, h.1))
