-- What the windows are, and what is answered by them. No reader of the rules needs this page. Assumes nothing.
use Rattle.std.specs.Prelude.{◌≡◌, Bool, true, false, not, ◌&&◌, ◌||◌, List, [], ◌∷◌, ℕ, ◌+◌, ◌-◌, ◌^◌, ◌<◌, min, eqb, ltb, leb, length, get_or, if◌then◌else◌}
use Rattle.points.specs.Sets.{member, members_of, below_of, every}
use Rattle.plan.specs.Limits.{most_points, farthest}
use Rattle.plan.specs.APlan.{some, points}
use Rattle.records.specs.declared.Record.{Record}
use Rattle.history.specs.History.{runs}
use Rattle.links.specs.Inside.{set_number}
use Rattle.links.specs.declared.Links.{Links}
use Rattle.plan.specs.declared.Refusal.{Refusal}
use Rattle.events.specs.Fields.{event_minute, event_point, no_point, event_set, well_formed}
use Rattle.lowhigh.specs.Rules.{never, is_open, holder, beside, low, high}
use Rattle.windows.specs.declared.Windows.{Windows}

-- the points of s that are not in t
pub record Minus (s t r : ℕ) : Type 0 where
  pub fits : r < 2 ^ 32
  pub members : (p : ℕ) → member r p ≡ (member s p && not (member t p))

-- the least of a table at some points
unfoldable pub least_at : List ℕ → List ℕ → ℕ
least_at highs [] = never
least_at highs (q ∷ qs) = min (get_or highs q 0) (least_at highs qs)

-- the windows: which points are open, which record keeps each of the others shut, each one's Low, and the least High of the
-- open ones
pub record WindowsOf (rs : List Record) (clock done : ℕ) (minutes : List ℕ) (w : Windows) : Type 0 where
  pub fits : w.opens < 2 ^ 32
  pub long : length w.lows ≡ most_points
  pub opens : (q : ℕ) → q < most_points → member w.opens q ≡ is_open rs done q
  pub holders : (q : ℕ) → q < most_points → get_or w.holders q 0 ≡ holder rs done q
  pub lows : (q : ℕ) → q < most_points → get_or w.lows q 0 ≡ low rs clock done minutes q
  pub highs : List ℕ
  pub high_by_lem : (q : ℕ) → q < most_points → get_or highs q 0 ≡ high rs done minutes q
  pub high : w.high ≡ least_at highs (members_of w.opens)

-- stuck: nothing open and no link running, or something open and every open Low above H
abbrev pub stuck_from : List Record → ℕ → Windows → Bool
stuck_from rs done w =
    if eqb w.opens 0 then not (some (runs done) rs)
    else every (λ (q : ℕ). ltb w.high (get_or w.lows q 0 + farthest)) (members_of w.opens)

-- the latest, from the clock and an H that is 100,000 up
abbrev pub latest_from : ℕ → ℕ → ℕ
latest_from clock high = min high (clock + farthest + farthest) - farthest

-- 28 to 30 in order from the windows w and a latest minute m, or else 0
unfoldable pub point_from : Windows → ℕ → ℕ → ℕ → ℕ
point_from w m t p =
    if not (eqb p no_point || member w.opens p) then 28
    else (if not (eqb p no_point || leb (get_or w.lows p 0) t) then 29
    else (if not (eqb w.opens 0) && ltb m t then 30
    else 0))

-- q is a foreman's point not yet done, from the links
abbrev pub foreman_in : Links → ℕ → ℕ → Bool
foreman_in l done q = ltb q l.points && (not (member l.watched q) && not (member done q))

-- the record beside the number n of an event for the point q, from the links and the windows
abbrev pub beside_from : Links → ℕ → Windows → ℕ → ℕ → ℕ
beside_from l done w q n = if eqb n 28 && foreman_in l done q then get_or w.holders q 0 else 0

abbrev pub refused : ℕ → ℕ → Refusal
refused n i = record { number = n; place = i }

-- 23 to 30 in order for the event s, or else 0
unfoldable pub later_number : List Record → ℕ → ℕ → List ℕ → Windows → List ℕ → ℕ
later_number rs clock done minutes w s =
    if not (well_formed (points rs) s) then 23
    else set_number rs clock done minutes (event_minute s) (event_set s) (point_from w (latest_from clock w.high) (event_minute s) (event_point s))

-- n is the number of the event s, 21 to 30 or else 0, and i the record beside it
pub record Numbered (rs : List Record) (clock done : ℕ) (minutes s : List ℕ) (n i : ℕ) : Type 0 where
  pub record_beside : i ≡ beside rs done (event_point s) n
  pub finished : eqb done (below_of (points rs)) ≡ true → n ≡ 21
  pub windows : eqb done (below_of (points rs)) ≡ false → (w : Windows) × WindowsOf rs clock done minutes w × (n ≡ (if stuck_from rs done w then 22 else later_number rs clock done minutes w s))
