-- The worked day of document 01, case 13, as a sheet: the events that its minutes give are, computed, those of the day, and
-- each is taken. `Haul` of `instances` proves that it is a good sheet. Assumes nothing.
use mathlib.Core.Path.{◌≡◌, refl}
use mathlib.Core.List.{[], ◌∷◌, ◌++◌, map}
use Prim.Native.Nat.{ℕ}
use lib.Count.{ones}
use lib.ListN.{get_or, replicate}
use Rattle.points.specs.Sets.{member, members_of, with_of, below_of, subset_of, from, every, passing}
use Rattle.plan.specs.APlan.{how_many, some, first_that, place_from, records_of}
use Rattle.plan.specs.Haul.{haul}
use Rattle.plan.specs.ReplyNumbers.{check_with, first_bad_with, number_for_with, last_kind}
use Rattle.board.specs.Calls.{numbered}
use Rattle.board.specs.Boards.{fresh, sound, each, largest}
use Rattle.board.specs.Windows.{greatest, least, least_high}
use Rattle.board.specs.Events.{no_point, take_of, event_number, board_after, mark_all}
use Rattle.board.specs.Streams.{said_of, board_after_all}
use Rattle.promise.specs.Plays.{event_bytes, set_of}
use Rattle.promise.specs.GoodSheets.{in_place, in_order, alone, events_over, events_of, board_of}

-- 0 at 0, 1 at 12, 2 at 40, 3 at 43
abbrev pub day : ℕ → ℕ
day q = get_or (0 ∷ 12 ∷ 40 ∷ 43 ∷ []) q 0

-- The sheet's events are those of the day: 0 at 0, 1 at 12, {2} at 40, 3 at 43.
pub day_events_lem : events_of (records_of haul) day ≡ alone 0 0 ∷ alone 12 1 ∷ record { minute = 40; point = no_point; set = 4 } ∷ alone 43 3 ∷ []
unfolding in_place in_order events_over set_of member with_of from passing how_many some
day_events_lem = refl

-- Each is taken, with the clock and the done points that the day has, and the board has its minutes.
pub day_said : said_of haul fresh (map event_bytes (events_of (records_of haul) day)) ≡ 0 ∷ 0 ∷ 0 ∷ 1 ∷ 0 ∷ 0 ∷ 12 ∷ 3 ∷ 0 ∷ 0 ∷ 40 ∷ 7 ∷ 0 ∷ 0 ∷ 43 ∷ 15 ∷ []
unfolding in_place in_order events_over set_of said_of ones take_of event_number board_after mark_all sound numbered each largest greatest least least_high member members_of with_of below_of subset_of from every passing how_many some first_that place_from check_with first_bad_with number_for_with last_kind
day_said = refl

pub day_board : (board_of haul (events_of (records_of haul) day)).minutes ≡ (0 ∷ 12 ∷ 40 ∷ 43 ∷ []) ++ replicate 28 0
unfolding in_place in_order events_over set_of board_after_all ones take_of event_number board_after mark_all sound numbered each largest greatest least least_high member members_of with_of below_of subset_of from every passing how_many some first_that place_from check_with first_bad_with number_for_with last_kind
day_board = refl

-- Where the truck arrives and the fish are loaded at the same minute, the arrival is an event of its own, before the loading:
-- the other way about the wait would refuse the loading.
pub at_once : (board_of haul (events_of (records_of haul) (λ q. get_or (0 ∷ 12 ∷ 40 ∷ 40 ∷ []) q 0))).minutes ≡ (0 ∷ 12 ∷ 40 ∷ 40 ∷ []) ++ replicate 28 0
unfolding in_place in_order events_over set_of board_after_all ones take_of event_number board_after mark_all sound numbered each largest greatest least least_high member members_of with_of below_of subset_of from every passing how_many some first_that place_from check_with first_bad_with number_for_with last_kind
at_once = refl
