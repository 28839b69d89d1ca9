-- Document 02, §8, computed: two trucks in a chain, of which the second starts when the first arrives, and a ring of three links.
-- `TheTrucks` of `instances` says what follows from these answers. Assumes nothing.
use mathlib.Core.Path.{◌≡◌, refl}
use mathlib.Core.List.{List, [], ◌∷◌, ◌++◌, map}
use Prim.Native.Nat.{ℕ}
use lib.Count.{ones}
use lib.ListN.{get_or, replicate}
use Rattle.points.specs.Sets.{member, members_of, with_of, below_of, subset_of, from, every, passing}
use Rattle.plan.specs.APlan.{how_many, some, first_that, place_from, records_of}
use Rattle.plan.specs.ReplyNumbers.{check_of, check_with, first_bad_with, number_for_with, last_kind}
use Rattle.board.specs.Calls.{numbered}
use Rattle.board.specs.Boards.{fresh, sound, each, largest}
use Rattle.board.specs.Windows.{greatest, least, least_high}
use Rattle.board.specs.Events.{no_point, take_of, event_number, board_after, mark_all}
use Rattle.board.specs.Streams.{said_of, board_after_all}
use Rattle.board.specs.declared.Board.{Board}
use Rattle.promise.specs.Plays.{Event, event_bytes, set_of}
use Rattle.promise.specs.GoodSheets.{in_place, in_order, alone, events_over, events_of, board_of}
use Rattle.promise.specs.Chains.{trucks, three_round}

-- the watched points of a set at minute t
abbrev ends : ℕ → ℕ → Event
ends t set = record { minute = t; point = no_point; set = set }

-- what an event is answered after the first truck has left at 10, and after it has arrived at 35
abbrev on_road : Event → ℕ
on_road e = (take_of trucks (board_of trucks (alone 0 0 ∷ alone 10 1 ∷ [])) (event_bytes e)).number

abbrev on_transfer : Event → ℕ
on_transfer e = (take_of trucks (board_of trucks (alone 0 0 ∷ alone 10 1 ∷ ends 35 4 ∷ [])) (event_bytes e)).number

-- The second truck cannot arrive before the first, nor in the event in which that arrives.
pub not_at_once : (on_road (ends 35 4) ≡ 0) × (on_road (ends 35 8) ≡ 25) × (on_road (ends 35 12) ≡ 25)
unfolding ones board_after_all take_of event_number board_after mark_all sound numbered each largest greatest least least_high member members_of with_of below_of subset_of from every passing how_many some first_that place_from check_with first_bad_with number_for_with last_kind
not_at_once = (refl, refl, refl)

-- It arrives 10 to 15 minutes after the first has, whenever that left: 26 outside of these, and 27 where it is passed over.
pub counts_from_arrival : (on_transfer (ends 44 8) ≡ 26) × (on_transfer (ends 45 8) ≡ 0) × (on_transfer (ends 50 8) ≡ 0)
    × (on_transfer (ends 51 8) ≡ 26) × (on_transfer (alone 51 4) ≡ 27)
unfolding ones board_after_all take_of event_number board_after mark_all sound numbered each largest greatest least least_high member members_of with_of below_of subset_of from every passing how_many some first_that place_from check_with first_bad_with number_for_with last_kind
counts_from_arrival = (refl, refl, refl, refl, refl)

-- ---- a whole day

-- 0 at 0, 1 at 10, 2 at 35, 3 at 47, 4 at 49
abbrev pub chain_day : ℕ → ℕ
chain_day q = get_or (0 ∷ 10 ∷ 35 ∷ 47 ∷ 49 ∷ []) q 0

-- Each of its events is taken.
pub chain_day_said : said_of trucks fresh (map event_bytes (events_of (records_of trucks) chain_day))
    ≡ 0 ∷ 0 ∷ 0 ∷ 1 ∷ 0 ∷ 0 ∷ 10 ∷ 3 ∷ 0 ∷ 0 ∷ 35 ∷ 7 ∷ 0 ∷ 0 ∷ 47 ∷ 15 ∷ 0 ∷ 0 ∷ 49 ∷ 31 ∷ []
unfolding in_place in_order events_over set_of said_of ones take_of event_number board_after mark_all sound numbered each largest greatest least least_high member members_of with_of below_of subset_of from every passing how_many some first_that place_from check_with first_bad_with number_for_with last_kind
chain_day_said = refl

-- ---- a ring

-- The reader accepts three links in a ring.
pub ring_accepted : (check_of three_round).number ≡ 0
unfolding how_many some first_that check_with first_bad_with number_for_with last_kind
ring_accepted = refl
