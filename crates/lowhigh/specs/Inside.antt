-- What the functions behind the tables compute. No reader of the rules needs this page. Assumes nothing.
use Rattle.std.specs.Prelude.{◌≡◌, Bool, true, false, not, ◌&&◌, List, ℕ, ◌+◌, ◌*◌, ◌-◌, ◌%◌, ◌^◌, ◌<◌, ◌≤◌, min, max, ltb, length, get_or, set, if◌then◌else◌}
use Rattle.points.specs.Sets.{member}
use Rattle.plan.specs.Limits.{most_points, farthest}
use Rattle.plan.specs.APlan.{ordinary, wait, is, some, gap_of, records_of}
use Rattle.plan.specs.ReplyNumbers.{check_of}
use Rattle.numbers.specs.declared.Gap.{Gap}
use Rattle.plan.specs.declared.Plan.{Plan}
use Rattle.records.specs.declared.Record.{Record}
use Rattle.history.specs.History.{minute_in}
use Rattle.links.specs.Inside.{LinksOf}
use Rattle.links.specs.declared.End.{End}
use Rattle.links.specs.declared.Links.{Links}
use Rattle.lowhigh.specs.Rules.{shuts, place_from, number_at, earliest, greatest, bound, least, never}
use Rattle.lowhigh.specs.declared.Said.{Said}

-- no clock of a sound board is past this
abbrev pub last_minute : ℕ
last_minute = farthest * most_points

-- neither part of a gap is past 100,000
pub record Near (g : Gap) : Type 0 where
  pub up : g.up ≤ farthest
  pub down : g.down ≤ farthest

-- an accepted plan, its links, and minutes that are small
pub record Given (p : Plan) (l : Links) (minutes : List ℕ) : Type 0 where
  pub accepted : (check_of p).number ≡ 0
  pub links : LinksOf (records_of p) l
  pub small : (q : ℕ) → q < most_points → minute_in minutes q ≤ last_minute

-- ---- what one record says

-- a record that says nothing
abbrev pub silent : Said
silent = record { shuts = false; low = 0; high = never }

-- an ordinary record of gap g, from a point that may be done at x to one that may be done at y
abbrev pub ordinary_says : Gap → Bool → ℕ → Bool → ℕ → Said
ordinary_says g left x came y =
    record {
      shuts = ltb 0 g.down && not came;
      low = if came then y + g.down - g.up else 0;
      high = if left then x + farthest + g.up - g.down else never;
    }

-- a wait of gap g on a link that may have started, at a, and ended
abbrev pub wait_says : Gap → Bool → ℕ → Bool → Said
wait_says g started a ended = record { shuts = not started; low = if started && not ended then a + g.up else 0; high = never }

-- any record: x and y are its points' minutes, `from` is its link's A and a that one's minute
unfoldable pub says_of : Record → ℕ → ℕ → ℕ → ℕ → ℕ → Said
says_of r done x y from a =
    if is ordinary r then ordinary_says (gap_of r.first) (member done r.a) x (member done r.b) y
    else (if is wait r then wait_says (gap_of r.first) (member done from) a (member done r.b)
    else silent)

-- what `says_of` stays small with
pub record Small (r : Record) (x y a : ℕ) : Type 0 where
  pub ordinary_near : is ordinary r ≡ true → Near (gap_of r.first)
  pub wait_near : is wait r ≡ true → Near (gap_of r.first)
  pub from : x ≤ last_minute
  pub to : y ≤ last_minute
  pub start : a ≤ last_minute

-- what r says by the minutes, where e is the link that ends at its second point
abbrev pub said_by : Record → End → ℕ → List ℕ → Said
said_by r e done minutes =
    says_of r done (get_or minutes (r.a % most_points) 0) (get_or minutes (r.b % most_points) 0) e.from (get_or minutes (e.from % most_points) 0)

-- ---- the tables

-- a table with a point's place raised to v, or lowered to it
abbrev pub raised : List ℕ → ℕ → ℕ → List ℕ
raised t p v = set t (p % most_points) (max (get_or t (p % most_points) 0) v)

abbrev pub lowered : List ℕ → ℕ → ℕ → List ℕ
lowered t p v = set t (p % most_points) (min (get_or t (p % most_points) 0) v)

-- the table of the first records that keep points shut, with record i, which keeps p shut where `so`; `shut` are the points
-- that earlier records keep shut
abbrev pub held : List ℕ → ℕ → ℕ → Bool → ℕ → List ℕ
held t shut p so i = set t (p % most_points) (if so && not (member shut p) then i else get_or t (p % most_points) 0)

-- what one record more asks
pub record Hearing (r : Record) (e : End) (minutes lows highs : List ℕ) : Type 0 where
  pub small : Small r (get_or minutes (r.a % most_points) 0) (get_or minutes (r.b % most_points) 0) (get_or minutes (e.from % most_points) 0)
  pub long : length minutes ≡ most_points
  pub long_lows : length lows ≡ most_points
  pub long_highs : length highs ≡ most_points

-- what the records xs among rs say of each point
pub record TablesOf (rs xs : List Record) (clock done : ℕ) (minutes : List ℕ) (shut : ℕ) (holders lows highs : List ℕ) : Type 0 where
  pub fits : shut < 2 ^ 32
  pub long_holders : length holders ≡ most_points
  pub long_lows : length lows ≡ most_points
  pub long_highs : length highs ≡ most_points
  pub shut_by : (q : ℕ) → q < most_points → member shut q ≡ some (shuts rs done q) xs
  pub held_by : (q : ℕ) → q < most_points → get_or holders q 0 ≡ number_at (place_from 0 (shuts rs done q) xs)
  pub low_by : (q : ℕ) → q < most_points → get_or lows q 0 ≡ max clock (greatest (earliest rs done minutes q) xs)
  pub high_by : (q : ℕ) → q < most_points → get_or highs q 0 ≡ least (bound done minutes q) xs
