-- What the code of each step has, call by call, is what its contract says. Assumes nothing.
use mathlib.Core.Path.{◌≡◌}
use mathlib.Core.List.{List}
use Prim.Native.Nat.{ℕ, ◌+◌}
use lib.ListN.{get_or, set}
use Rattle.points.specs.Sets.{members_of, with_of}
use Rattle.events.specs.declared.Event.{Event}
use Rattle.neighbours.specs.Lists.{entries_of, over}
use Rattle.kept.specs.Rooms.{minutes_at, calls_at, clock_at, done_at, last_at, freed_at, bounded_at, marked_by, all_done_by, points_of, next_in, event_done_by}

-- a point that is done
pub marked_by_lem : (rows into out : List ℕ) (t n z done : ℕ) (kept free bound : List ℕ) → done ≡ with_of (get_or kept done_at 0) z → free ≡ over (freed_at rows t) kept (entries_of into z)
    → bound ≡ over (bounded_at rows t) free (entries_of out z) → set (set (set bound (minutes_at + z) t) (calls_at + z) n) done_at done ≡ marked_by rows into out t n z kept
marked_by_lem rows into out t n z done kept free bound e f g = rw (g, f, e)

-- all points of an event
pub event_by_lem : (rows into out ends : List ℕ) (e : Event) (n : ℕ) (kept first last : List ℕ) → n ≡ next_in kept
    → first ≡ all_done_by rows into out ends e.minute n (members_of e.set) (set (set kept clock_at e.minute) last_at n)
    → last ≡ all_done_by rows into out ends e.minute n (points_of e.point) first → last ≡ event_done_by rows into out ends e kept
event_by_lem rows into out ends e n kept first last p f g = rw (f, p) at g
