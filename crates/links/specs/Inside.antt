-- What is kept of a plan's links, and what is answered by them. No reader of the rules needs this page. Assumes nothing.
use Rattle.std.specs.Prelude.{◌≡◌, Bool, true, not, ◌&&◌, List, ℕ, ◌+◌, ◌<◌, ◌^◌, ltb, leb, length, get_or, if◌then◌else◌}
use Rattle.points.specs.Sets.{member, members_of, with_of, every}
use Rattle.plan.specs.Limits.{most_points}
use Rattle.plan.specs.APlan.{link, is, points, watched, link_to}
use Rattle.plan.specs.ReplyNumbers.{check_of}
use Rattle.records.specs.declared.Record.{Record}
use Rattle.plan.specs.declared.Plan.{Plan}
use Rattle.history.specs.History.{minute_in, shortest, longest, each, not_late}
use Rattle.links.specs.Ending.{ends_running, in_time}
use Rattle.links.specs.declared.End.{End}
use Rattle.links.specs.declared.Links.{Links}

-- of a link, its A, its x and its y
abbrev pub end_in : Record → End
end_in l = record { from = l.a; shortest = shortest l; longest = longest l }

abbrev pub no_end : End
no_end = record { from = 0; shortest = 0; longest = 0 }

-- of the link that ends at p
abbrev pub end_of : List Record → ℕ → End
end_of rs p = end_in (link_to rs p)

-- the watched points with the record r
abbrev pub watched_after : Record → ℕ → ℕ
watched_after r s = if is link r then with_of s r.b else s

-- what is kept of the link to r's second point: r itself where it is a link, and the first to that point
abbrev pub end_after : Record → ℕ → End → End
end_after r s e = if is link r && (ltb r.b most_points && not (member s r.b)) then end_in r else e

-- l has the watched points of the records rs and the link of each, and how many points there are
pub record LinksOf (rs : List Record) (l : Links) : Type 0 where
  pub points : l.points ≡ points rs
  pub long : length l.ends ≡ most_points
  pub fits : l.watched < 2 ^ 32
  pub watches : (p : ℕ) → p < most_points → member l.watched p ≡ watched rs p
  pub ends : (p : ℕ) → p < most_points → get_or l.ends p no_end ≡ end_of rs p

-- a plan is accepted where that is known of it
pub record Known (p : Plan) (checked : Bool) : Type 0 where
  pub accepted : checked ≡ true → (check_of p).number ≡ 0

-- of the links l, the one to c is running where the points `done` are
abbrev pub runs_at : ℕ → Links → ℕ → Bool
runs_at done l c = member l.watched c && (member done (get_or l.ends c no_end).from && not (member done c))

-- a link from a point at the minute `from` may end at the minute t
abbrev pub timely : ℕ → End → ℕ → Bool
timely from e t = leb (from + e.shortest) t && leb t (from + e.longest)

-- of the links l, the one to c may end at the minute t
abbrev pub timely_at : List ℕ → Links → ℕ → ℕ → Bool
timely_at minutes l t c = timely (minute_in minutes (get_or l.ends c no_end).from) (get_or l.ends c no_end) t

-- 24 to 27 in order for a set of points at the minute t, or else `next`
unfoldable pub set_number : List Record → ℕ → ℕ → List ℕ → ℕ → ℕ → ℕ → ℕ
set_number rs clock done minutes t set next =
    if ltb t clock then 24
    else (if not (every (ends_running rs done) (members_of set)) then 25
    else (if not (every (in_time rs minutes t) (members_of set)) then 26
    else (if not (each (not_late done minutes t set) rs) then 27
    else next)))
