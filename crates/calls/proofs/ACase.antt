-- The rules of `Calls` on small boards, computed: three points done in two events, and every clause one off. Assumes nothing.
use mathlib.Core.Path.{◌≡◌, refl}
use mathlib.Core.Bool.{Bool, true, false}
use mathlib.Core.List.{[], ◌∷◌}
use Prim.Native.Nat.{ℕ}
use lib.ListN.{replicate}
use Rattle.points.specs.Sets.{member, members_of, every, passing, from}
use Rattle.history.specs.History.{largest}
use Rattle.calls.specs.Calls.{numbered, last_call}

-- the points 0, 1 and 2 done at the minutes a, b and c in the events x, y and z; point 3, not done, has the number n; point 1
-- is watched
abbrev sound : ℕ → ℕ → ℕ → ℕ → ℕ → ℕ → ℕ → Bool
sound a b c x y z n = numbered (member 2) 7 (a ∷ b ∷ c ∷ replicate 29 0) (x ∷ y ∷ z ∷ n ∷ replicate 28 0)

pub cases :
    -- a foreman's point and a watched one in one event, then another
    (sound 3 3 5 1 1 2 0 ∷ sound 5 3 3 2 1 1 0
    -- each in an event of its own, in any order, in one minute too
    ∷ sound 3 4 5 1 2 3 0 ∷ sound 5 5 5 3 1 2 0
    -- a point not done has a number
    ∷ sound 3 3 5 1 1 2 1
    -- from 0, and from 2
    ∷ sound 3 3 5 0 0 1 0 ∷ sound 3 3 5 2 2 3 0
    -- a gap
    ∷ sound 3 3 5 1 1 3 0
    -- minutes fall
    ∷ sound 5 5 3 1 1 2 0
    -- two minutes for one number
    ∷ sound 3 4 5 1 1 2 0
    -- two foreman's points of one number
    ∷ sound 3 3 3 1 2 1 0
    ∷ [])
    ≡ (true ∷ true ∷ true ∷ true ∷ false ∷ false ∷ false ∷ false ∷ false ∷ false ∷ false ∷ [])
unfolding numbered every member members_of passing from
cases = refl

pub last : (last_call 7 (1 ∷ 1 ∷ 2 ∷ 9 ∷ []) ∷ last_call 0 (1 ∷ []) ∷ []) ≡ (2 ∷ 0 ∷ [])
unfolding largest members_of passing from member
last = refl
