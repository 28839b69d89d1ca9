-- Document 02, §7, on plain values: `done` is the set of done points, `minutes` the minute of each point, `calls` the number
-- of the event that did it, and `watches` says which points are watched. `board` says the same words of a board; that a
-- link's start is in an earlier event than its end is `earlier` of `history`. Assumes nothing.
use Rattle.std.specs.Prelude.{Bool, not, ◌&&◌, ◌||◌, List, ℕ, suc, eqb, ltb, leb, get_or}
use Rattle.points.specs.Sets.{member, members_of, from, every}
use Rattle.plan.specs.Limits.{most_points}
use Rattle.history.specs.History.{minute_in, largest}

-- the number of the event that did a point
abbrev pub call_in : List ℕ → ℕ → ℕ
call_in calls p = get_or calls p 0

-- a point not done holds 0
abbrev pub unnumbered : ℕ → List ℕ → ℕ → Bool
unnumbered done calls p = member done p || eqb (call_in calls p) 0

-- without gaps: the number of a done point is 1, or one more than that of a done point
abbrev pub no_gap : ℕ → List ℕ → ℕ → Bool
no_gap done calls p =
    eqb (call_in calls p) 1 || not (every (λ (q : ℕ). not (eqb (call_in calls p) (suc (call_in calls q)))) (members_of done))

-- minutes never fall as numbers rise
abbrev pub never_fall : List ℕ → List ℕ → ℕ → ℕ → Bool
never_fall minutes calls p q = not (ltb (call_in calls p) (call_in calls q)) || leb (minute_in minutes p) (minute_in minutes q)

-- the same minute for the same number
abbrev pub same_minute : List ℕ → List ℕ → ℕ → ℕ → Bool
same_minute minutes calls p q = not (eqb (call_in calls p) (call_in calls q)) || eqb (minute_in minutes p) (minute_in minutes q)

-- at most one foreman's point for each number
abbrev pub one_foreman : (ℕ → Bool) → List ℕ → ℕ → ℕ → Bool
one_foreman watches calls p q = not (eqb (call_in calls p) (call_in calls q)) || (eqb p q || (watches p || watches q))

-- it is so of any two done points
abbrev pub any_two : (ℕ → ℕ → Bool) → ℕ → Bool
any_two so done = every (λ (p : ℕ). every (so p) (members_of done)) (members_of done)

-- the numbers are sound, clause by clause
unfoldable pub numbered : (ℕ → Bool) → ℕ → List ℕ → List ℕ → Bool
numbered watches done minutes calls =
    every (unnumbered done calls) (from 0 most_points)
    && (every (no_gap done calls) (members_of done)
    && (any_two (never_fall minutes calls) done
    && (any_two (same_minute minutes calls) done
    && any_two (one_foreman watches calls) done)))

-- the largest number, 0 for none
abbrev pub last_call : ℕ → List ℕ → ℕ
last_call done calls = largest calls (members_of done)
