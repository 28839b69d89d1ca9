-- Document 01, "Board, windows, replies", the reply: the first outcome that fits, for an offer the latest, and a list of the
-- points. By document 02, §6, the list is there also when waiting or stuck, and names for each shut point the first record in
-- file order that keeps it shut. Assumes nothing.
use Rattle.std.specs.Prelude.{not, List, map, ℕ, eqb, ltb, replicate, if◌then◌else◌}
use Rattle.points.specs.Sets.{from}
use Rattle.plan.specs.Limits.{most_points}
use Rattle.plan.specs.APlan.{watched, records_of}
use Rattle.plan.specs.ReplyNumbers.{check_of}
use Rattle.records.specs.declared.Record.{Record}
use Rattle.plan.specs.declared.Plan.{Plan}
use Rattle.board.specs.Boards.{sound, is_done, minute}
use Rattle.board.specs.Windows.{is_open, holder, low, some_open}
use Rattle.board.specs.Stuck.{finished, stuck, latest}
use Rattle.board.specs.declared.Board.{Board}
use Rattle.replies.specs.declared.State.{State}
use Rattle.replies.specs.declared.State.TheVariants.{Done, Watched, Shut, Held, Offered}
use Rattle.replies.specs.declared.Place.{Place}
use Rattle.replies.specs.declared.Outcome.{Outcome}
use Rattle.replies.specs.declared.Outcome.TheVariants.{Refused, Finished, Stuck, Waiting, Offers}
use Rattle.replies.specs.declared.Reply.{Reply}

-- the first outcome that fits
unfoldable pub outcome_of : List Record → Board → Outcome
outcome_of rs b =
    if finished rs b then Finished
    else (if stuck rs b then Stuck
    else (if not (some_open rs b) then Waiting
    else Offers))

-- one point in the list of an offer: a shut one with its record, which room past the plan's last point has not
unfoldable pub state_of : List Record → Board → ℕ → State
state_of rs b q =
    if is_done b q then Done (minute b q)
    else (if watched rs q then Watched
    else (if not (is_open rs b q) then Shut (holder rs b q)
    else (if ltb (latest rs b) (low rs b q) then Held
    else Offered (low rs b q))))

abbrev pub shut : Place
shut = record { state = Shut 0 }

-- an outcome that carries nothing more
abbrev pub bare : Outcome → Reply
bare o = record { outcome = o; latest = 0; places = replicate most_points shut }

-- the whole list of an offer
abbrev pub offer : List Record → Board → Reply
offer rs b =
    record { outcome = Offers; latest = latest rs b; places = map (λ (q : ℕ). record { state = state_of rs b q }) (from 0 most_points) }

-- what a point reads where nothing is offered: an open one reads held
abbrev pub withheld : State → State
withheld (Done m) = Done m
withheld Watched = Watched
withheld (Shut i) = Shut i
withheld Held = Held
withheld (Offered m) = Held

-- a board that offers nothing, with its list
abbrev pub standing : Outcome → List Record → Board → Reply
standing o rs b =
    record { outcome = o; latest = 0; places = map (λ (q : ℕ). record { state = withheld (state_of rs b q) }) (from 0 most_points) }

-- what goes with an outcome
abbrev pub reply_for : Outcome → List Record → Board → Reply
reply_for (Refused n i) rs b = bare (Refused n i)
reply_for Finished rs b = bare Finished
reply_for Stuck rs b = standing Stuck rs b
reply_for Waiting rs b = standing Waiting rs b
reply_for Offers rs b = offer rs b

-- the reply to a board of a plan that is not refused
abbrev pub sound_reply : List Record → Board → Reply
sound_reply rs b = reply_for (outcome_of rs b) rs b

-- the plan's own refusal first, then 20, then the reply
unfoldable pub reply_of : Plan → Board → Reply
reply_of p b =
    if not (eqb (check_of p).number 0) then bare (Refused (check_of p).number (check_of p).place)
    else (if not (sound (records_of p) b) then bare (Refused 20 0)
    else sound_reply (records_of p) b)
