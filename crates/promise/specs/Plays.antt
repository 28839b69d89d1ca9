-- Plays: what haulage and the foreman can do at a board, the event that the two make, and what becomes of the fresh board
-- when they go on so. rs are the plan's records, b the board. Assumes nothing.
use Rattle.std.specs.Prelude.{◌≡◌, ◌⊎◌, Bool, true, false, ◌&&◌, List, [], ◌∷◌, ◌++◌, ℕ, suc, ◌+◌, ◌^◌, ◌≤◌, ◌<◌, min, eqb, leb, if◌then◌else◌}
use Rattle.points.specs.Sets.{member, with_of, from}
use Rattle.plan.specs.Limits.{most_points}
use Rattle.plan.specs.APlan.{points, watched, link_to, records_of}
use Rattle.plan.specs.PlanFile.{word_bytes}
use Rattle.records.specs.declared.Record.{Record}
use Rattle.plan.specs.declared.Plan.{Plan}
use Rattle.board.specs.Boards.{fresh, sound, is_done, minute, shortest, longest}
use Rattle.board.specs.Windows.{never}
use Rattle.board.specs.Stuck.{finished, latest}
use Rattle.replies.specs.Replies.{state_of, reply_of}
use Rattle.board.specs.Events.{no_point, ends_running, take_of}
use Rattle.verdict.specs.Verdicts.{verdict_of}
use Rattle.board.specs.declared.Board.{Board}
use Rattle.replies.specs.declared.State.TheVariants.{Offered}
use Rattle.replies.specs.declared.Outcome.TheVariants.{Waiting, Offers}
use Rattle.verdict.specs.declared.Verdict.TheVariants.{Kept}

-- ---- what can happen next

-- an event: its minute, the foreman's point or 255 for none, and the set of watched points
pub record Event : Type 0 where
  pub minute : ℕ
  pub point : ℕ
  pub set : ℕ

-- its sixteen bytes
abbrev pub event_bytes : Event → List ℕ
event_bytes e = word_bytes e.minute ++ ((e.point ∷ 0 ∷ 0 ∷ 0 ∷ []) ++ (word_bytes e.set ++ word_bytes 0))

-- the minutes between which the link that ends at C ends
abbrev pub soonest_end : List Record → Board → ℕ → ℕ
soonest_end rs b C = minute b (link_to rs C).a + shortest (link_to rs C)

abbrev pub latest_end : List Record → Board → ℕ → ℕ
latest_end rs b C = minute b (link_to rs C).a + longest (link_to rs C)

-- all that can happen next at the board b, whoever decides it and however late
pub record CanHappen (p : Plan) (b : Board) (e : Event) : Type 0 where
  -- time does not run back, and something happens
  pub later : b.clock ≤ e.minute
  pub some : e.point ≡ no_point → 0 < e.set
  -- haulage: each of the set ends a running link in its bounds, and no other running link has run out
  pub small : e.set < 2 ^ most_points
  pub ended : (C : ℕ) → C < most_points → member e.set C ≡ true
      → (ends_running (records_of p) b C ≡ true) × (soonest_end (records_of p) b C ≤ e.minute) × (e.minute ≤ latest_end (records_of p) b C)
  pub others : (C : ℕ) → ends_running (records_of p) b C ≡ true → member e.set C ≡ false → e.minute ≤ latest_end (records_of p) b C
  -- the foreman: his point, if he does one, is offered from that minute or before, and no offer's latest has passed
  pub offered : (e.point ≡ no_point) ⊎ ((low : ℕ) × (state_of (records_of p) b e.point ≡ Offered low) × (low ≤ e.minute))
  pub in_latest : (reply_of p b).outcome ≡ Offers → e.minute ≤ latest (records_of p) b

-- the board b is reached from the fresh one by k events, each of which could happen, whatever was replied to it
pub data Happened (p : Plan) : Board → ℕ → Type 0 where
  start : Happened p fresh 0
  next : {b : Board} {k : ℕ} (e : Event) → Happened p b k → CanHappen p b e → Happened p (take_of p b (event_bytes e)).board (suc k)

-- ---- haulage and the foreman

-- haulage at the board b: a minute for each running link at which it ends, if nothing comes before: in its bounds, and not
-- in the past
pub record Haulage (rs : List Record) (b : Board) : Type 0 where
  pub at : ℕ → ℕ
  pub ends : (C : ℕ) → ends_running rs b C ≡ true → (b.clock ≤ at C) × (soonest_end rs b C ≤ at C) × (at C ≤ latest_end rs b C)

-- the foreman at an offer: an offered point, and a minute from its Low to the latest
pub record Choice (rs : List Record) (b : Board) : Type 0 where
  pub point : ℕ
  pub minute : ℕ
  pub low : ℕ
  pub offered : state_of rs b point ≡ Offered low
  pub window : (low ≤ minute) × (minute ≤ latest rs b)

-- the least of what the points that pass a test give
unfoldable pub least_of : (ℕ → Bool) → (ℕ → ℕ) → List ℕ → ℕ
least_of test at [] = never
least_of test at (q ∷ qs) = if test q then min (at q) (least_of test at qs) else least_of test at qs

-- the set of the points that pass a test
unfoldable pub set_of : (ℕ → Bool) → List ℕ → ℕ
set_of test [] = 0
set_of test (q ∷ qs) = if test q then with_of (set_of test qs) q else set_of test qs

-- the minute at which the first running links end, and the points that end one at minute t
abbrev pub first_end : List Record → Board → (ℕ → ℕ) → ℕ
first_end rs b at = least_of (ends_running rs b) at (from 0 most_points)

abbrev pub ending_at : List Record → Board → (ℕ → ℕ) → ℕ → ℕ
ending_at rs b at t = set_of (λ (C : ℕ). ends_running rs b C && eqb (at C) t) (from 0 most_points)

-- what happens where the foreman would do q at minute t: the two, with all that ends then, unless a link ends before
abbrev pub comes_first : List Record → Board → (ℕ → ℕ) → ℕ → ℕ → Event
comes_first rs b at t q =
    if leb t (first_end rs b at) then record { minute = t; point = q; set = ending_at rs b at t }
    else record { minute = first_end rs b at; point = no_point; set = ending_at rs b at (first_end rs b at) }

-- haulage and the foreman: what each decides after k events, at any board, as he likes
abbrev pub Haulier : Plan → Type 0
Haulier p = (k : ℕ) (b : Board) → sound (records_of p) b ≡ true → Haulage (records_of p) b

abbrev pub Foreman : Plan → Type 0
Foreman p = (k : ℕ) (b : Board) → (reply_of p b).outcome ≡ Offers → Choice (records_of p) b

pub record Players (p : Plan) : Type 0 where
  pub haulage : Haulier p
  pub foreman : Foreman p

-- the event that they make: at an offer the foreman's choice or what ends before it, where the reply is waiting what ends
-- first
pub data Make (p : Plan) (x : Players p) (k : ℕ) (b : Board) : Event → Type 0 where
  choice : (g : sound (records_of p) b ≡ true) (o : (reply_of p b).outcome ≡ Offers)
      → Make p x k b (comes_first (records_of p) b (x.haulage k b g).at (x.foreman k b o).minute (x.foreman k b o).point)
  wait : (g : sound (records_of p) b ≡ true) → (reply_of p b).outcome ≡ Waiting
      → Make p x k b (comes_first (records_of p) b (x.haulage k b g).at never no_point)

-- the board b that they reach from the fresh one by k events
pub data Play (p : Plan) (x : Players p) : Board → ℕ → Type 0 where
  start : Play p x fresh 0
  next : {b : Board} {k : ℕ} {e : Event} → Play p x b k → Make p x k b e → Play p x (take_of p b (event_bytes e)).board (suc k)

-- the play of the two reaches a finished board, in at most as many events as there are points, and the verdict is kept
pub record Finishes (p : Plan) (x : Players p) : Type 0 where
  pub board : Board
  pub events : ℕ
  pub play : Play p x board events
  pub few : events ≤ points (records_of p)
  pub finished : finished (records_of p) board ≡ true
  pub kept : verdict_of p board ≡ Kept

-- ---- durations that are fixed beforehand

-- haulage ends the link that ends at C when ω C minutes have passed, where they have not passed already
pub record Fixed (p : Plan) (ω : ℕ → ℕ) (h : Haulier p) : Type 0 where
  pub at : (k : ℕ) (b : Board) (g : sound (records_of p) b ≡ true) (C : ℕ) → b.clock ≤ minute b (link_to (records_of p) C).a + ω C
      → (h k b g).at C ≡ minute b (link_to (records_of p) C).a + ω C

-- each link that has ended has lasted as many minutes as ω says
abbrev pub Lasted : Plan → (ℕ → ℕ) → Board → Type 0
Lasted p ω b =
    (C : ℕ) → watched (records_of p) C ≡ true → is_done b C ≡ true → minute b C ≡ minute b (link_to (records_of p) C).a + ω C
