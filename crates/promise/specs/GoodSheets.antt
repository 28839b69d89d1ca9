-- Document 02, §9, "No good sheet is forbidden": what a good sheet is, the events that give its minutes, and what is promised
-- of them. A sheet is a minute g q for each point q of the plan, given all at once; ω has a duration for each link, by its
-- C. Assumes nothing.
use Rattle.std.specs.Prelude.{◌≡◌, Bool, true, not, ◌&&◌, List, [], ◌∷◌, ◌++◌, map, ℕ, ◌+◌, ◌-◌, ◌≤◌, ◌<◌, min, eqb, ltb, if◌then◌else◌}
use Rattle.points.specs.Sets.{from, passing, first_or}
use Rattle.plan.specs.Limits.{most_points, farthest}
use Rattle.plan.specs.APlan.{points, watched, link_to, records_of}
use Rattle.plan.specs.ReplyNumbers.{check_of}
use Rattle.records.specs.declared.Record.{Record}
use Rattle.plan.specs.declared.Plan.{Plan}
use Rattle.board.specs.Boards.{fresh, minute}
use Rattle.board.specs.Stuck.{finished}
use Rattle.board.specs.Events.{no_point, take_of}
use Rattle.board.specs.Streams.{board_after_all}
use Rattle.board.specs.declared.Board.{Board}
use Rattle.network.specs.Projection.{InBounds}
use Rattle.vee.specs.PlanTest.{OrdinaryIn, LinkIn, WaitIn, net_of}
use Rattle.promise.specs.Runs.{Reached}
use Rattle.promise.specs.Plays.{Event, event_bytes, set_of}

-- ---- minutes in order

-- a minute put in its place among rising ones; one that is there already is not put in again
unfoldable pub in_place : ℕ → List ℕ → List ℕ
in_place t [] = t ∷ []
in_place t (m ∷ ms) =
    if ltb t m then t ∷ m ∷ ms
    else (if eqb t m then m ∷ ms
    else m ∷ in_place t ms)

-- some minutes in order, each once
unfoldable pub in_order : List ℕ → List ℕ
in_order [] = []
in_order (t ∷ ts) = in_place t (in_order ts)

-- the minutes of a sheet, in order
abbrev pub minutes_of : List Record → (ℕ → ℕ) → List ℕ
minutes_of rs g = in_order (map g (from 0 (points rs)))

-- no two neighbours of a list of rising minutes are further apart than 100,000; the last has no next one, and stands for it
unfoldable pub Near : List ℕ → Type 0
Near [] = Unit {0}
Near (m ∷ ms) = (first_or m ms ≤ m + farthest) × Near ms

-- ---- a good sheet

pub record GoodSheet (p : Plan) (ω g : ℕ → ℕ) : Type 0 where
  -- durations in bounds
  pub within : InBounds (net_of (records_of p)) ω
  -- the minutes keep every ordinary record (X, d, Y), where d is up − down: Y − X ≤ d
  pub records : {X up down Y : ℕ} → OrdinaryIn (records_of p) X up down Y → g Y + down ≤ g X + up
  -- every link (A, x, y, C) at its picked duration
  pub links : {A x y C : ℕ} → LinkIn (records_of p) A x y C → g C ≡ g A + ω C
  -- and every wait (B, C, w), where C's link starts at A, as min(w, duration)
  pub waits : {A x y B C w : ℕ} → LinkIn (records_of p) A x y C → WaitIn (records_of p) B C w → g A + min w (ω C) ≤ g B
  -- the first minute is at most 100,000, and no two neighbouring minutes in order are further apart than that
  pub first : first_or 0 (minutes_of (records_of p) g) ≤ farthest
  pub near : Near (minutes_of (records_of p) g)

-- ---- its events

-- the event of some watched points at minute t, if there are any, and that of one foreman's point
abbrev pub together : ℕ → ℕ → List Event
together t set = if eqb set 0 then [] else (record { minute = t; point = no_point; set = set } ∷ [])

abbrev pub alone : ℕ → ℕ → Event
alone t q = record { minute = t; point = q; set = 0 }

module _ (rs : List Record) (g : ℕ → ℕ) where
  -- the plan's points of minute t: the watched ones as a set, and the foreman's in rising order
  abbrev pub watched_at : ℕ → ℕ
  watched_at t = set_of (λ (q : ℕ). watched rs q && eqb (g q) t) (from 0 (points rs))

  abbrev pub foremans_at : ℕ → List ℕ
  foremans_at t = passing (λ (q : ℕ). not (watched rs q) && eqb (g q) t) (from 0 (points rs))

  -- the events of minute t: first one with all its watched points, then one for each of its foreman's points
  abbrev pub events_at : ℕ → List Event
  events_at t = together t (watched_at t) ++ map (alone t) (foremans_at t)

  -- the events of some minutes, one minute after the other
  unfoldable pub events_over : List ℕ → List Event
  events_over [] = []
  events_over (t ∷ ts) = events_at t ++ events_over ts

  -- the events of the sheet
  abbrev pub events_of : List Event
  events_of = events_over (minutes_of rs g)

-- ---- what is promised

-- each of some events is taken, one after the other from the board b on
unfoldable pub AllTaken : Plan → Board → List Event → Type 0
AllTaken p b [] = Unit {0}
AllTaken p b (e ∷ es) = ((take_of p b (event_bytes e)).number ≡ 0) × AllTaken p (take_of p b (event_bytes e)).board es

-- the board b is finished and holds exactly the minutes g, and 0 in the room past the plan's last point
pub record Shows (p : Plan) (b : Board) (g : ℕ → ℕ) : Type 0 where
  pub finished : finished (records_of p) b ≡ true
  pub minutes : (q : ℕ) → q < points (records_of p) → minute b q ≡ g q
  pub room : (q : ℕ) → points (records_of p) ≤ q → q < most_points → minute b q ≡ 0

-- the board after some events from the fresh one
abbrev pub board_of : Plan → List Event → Board
board_of p es = board_after_all p fresh (map event_bytes es)

-- the events es, each taken, give exactly the minutes g
pub record Gives (p : Plan) (es : List Event) (g : ℕ → ℕ) : Type 0 where
  pub taken : AllTaken p fresh es
  pub shows : Shows p (board_of p es) g

-- the engine lets the sheet g through: some accepted events reach a board that shows it
pub record LetThrough (p : Plan) (g : ℕ → ℕ) : Type 0 where
  pub board : Board
  pub reached : Reached p board
  pub shows : Shows p board g

-- the durations of a sheet's links: C − A
abbrev pub lasted : List Record → (ℕ → ℕ) → ℕ → ℕ
lasted rs g C = g C - g (link_to rs C).a

-- no good sheet is forbidden, and no other is let through
pub record ExactlyTheGood (p : Plan) : Type 0 where
  -- a good sheet's events give it, so it is let through
  pub given : (ω g : ℕ → ℕ) → GoodSheet p ω g → Gives p (events_of (records_of p) g) g
  pub through : (ω g : ℕ → ℕ) → GoodSheet p ω g → LetThrough p g
  -- each board that accepted events finish shows a sheet, and what is let through is good, at its links' own durations
  pub ended : (b : Board) → Reached p b → finished (records_of p) b ≡ true → LetThrough p (minute b)
  pub good : (g : ℕ → ℕ) → LetThrough p g → GoodSheet p (lasted (records_of p) g) g

-- a plan that is accepted and forbids a good sheet: it cannot pass
pub record ForbidsGood (p : Plan) : Type 0 where
  pub accepted : (check_of p).number ≡ 0
  pub ω : ℕ → ℕ
  pub g : ℕ → ℕ
  pub good : GoodSheet p ω g
  pub none : LetThrough p g → ⊥
