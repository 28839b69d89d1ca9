-- When a clock, a set of done points, their minutes and the numbers of their events are sound, from the table l of a plan's links with the
-- number of its points. No reader of the rules needs this page. Assumes nothing.
use Rattle.std.specs.Prelude.{Bool, ◌&&◌, List, ℕ, ◌*◌, eqb, leb}
use Rattle.points.specs.Sets.{member, members_of, below_of, subset_of, count_of, from, every}
use Rattle.plan.specs.Limits.{most_points, farthest}
use Rattle.history.specs.History.{fits, largest}
use Rattle.links.specs.declared.Links.{Links}
use Rattle.calls.specs.Calls.{numbered}
use Rattle.running.specs.ByTable.{sound_at}

-- what is asked beside what is asked of the links, where `all` are the plan's points and ws the watched ones
abbrev pub sound_else : ℕ → ℕ → ℕ → ℕ → List ℕ → List ℕ → Bool
sound_else all ws clock done minutes calls =
    subset_of done all
    && (every (fits clock done minutes) (from 0 most_points)
    && (eqb clock (largest minutes (members_of done))
    && (leb clock (farthest * count_of done)
    && numbered (member ws) done minutes calls)))

-- with what is asked of the links
unfoldable pub sound_by : Links → ℕ → ℕ → List ℕ → List ℕ → Bool
sound_by l clock done minutes calls =
    sound_else (below_of l.points) l.watched clock done minutes calls && every (sound_at l clock done minutes calls) (members_of l.watched)
