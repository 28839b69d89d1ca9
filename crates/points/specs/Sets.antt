-- Sets of points as numbers: the point p is in the set s where bit p of s is 1. The points are 0 up to 31, so a set is a number below 2 ^ 32.
-- Definitions only: what holds of them is in `Laws`. Assumes nothing.
use Rattle.std.specs.Prelude.{Bool, true, not, cond, ◌&&◌, List, [], ◌∷◌, ℕ, zero, suc, ◌+◌, ◌-◌, ◌/◌, ◌%◌, ◌^◌, ◌<◌, min, eqb, ltb, Option, IfSome}
use Rattle.std.specs.Int.Count.{ones}
use Rattle.std.specs.Iterator.{YieldsFirst}

-- The point p is in s: bit p of s is 1.
unfoldable pub member : ℕ → ℕ → Bool
member s p = eqb (s / 2 ^ p % 2) 1

-- The set s with the point p: its bit is added where p is below 32 and s lacks it.
unfoldable pub with_of : ℕ → ℕ → ℕ
with_of s p = cond (ltb p 32 && not (member s p)) (s + 2 ^ p) s

-- The set s without the point p: its bit is taken away where s has it.
unfoldable pub without_of : ℕ → ℕ → ℕ
without_of s p = cond (member s p) (s - 2 ^ p) s

-- How many points are in s: how many of its bits are 1.
abbrev pub count_of : ℕ → ℕ
count_of s = ones s

-- The set of the points below n, which are its n lowest bits: all 32 where n is more.
unfoldable pub below_of : ℕ → ℕ
below_of n = 2 ^ min n 32 - 1

-- The n numbers from p on, rising.
unfoldable pub from : ℕ → ℕ → List ℕ
from p zero = []
from p (suc n) = p ∷ from (suc p) n

-- Those of a list that pass a test, in the list's order.
unfoldable pub passing : (ℕ → Bool) → List ℕ → List ℕ
passing test [] = []
passing test (p ∷ l) = cond (test p) (p ∷ passing test l) (passing test l)

-- The members of s below 32, in rising order.
unfoldable pub members_of : ℕ → List ℕ
members_of s = passing (member s) (from 0 32)

-- One step of a walk over points of which some are left: the first of them, a point, with the rest left, or none where none is left.
pub record Steps (left : List ℕ) (found : Option ℕ) (rest : List ℕ) : Type 0 where
  pub yields : YieldsFirst (λ l. l) left found rest
  pub small : IfSome found (λ p. p < 32)

-- The first of a list, or `other` where it is empty.
unfoldable pub first_or : ℕ → List ℕ → ℕ
first_or other [] = other
first_or other (p ∷ l) = p

-- The lowest member of s, or 32 where there is none.
unfoldable pub first_of : ℕ → ℕ
first_of s = first_or 32 (members_of s)

-- All of a list pass a test.
unfoldable pub every : (ℕ → Bool) → List ℕ → Bool
every test [] = true
every test (p ∷ l) = test p && every test l

-- Every member of a is a member of b.
unfoldable pub subset_of : ℕ → ℕ → Bool
subset_of a b = every (member b) (members_of a)
