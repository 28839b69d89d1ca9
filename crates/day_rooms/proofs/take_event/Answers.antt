-- `day_rooms::take_event` meets its contract. Assumes nothing.
use Rattle.day_rooms.proofs.OfRooms.{takes_from}
use Rattle.day_rooms.proofs.take_event.Goals as goal

pub returns : goal.returns
returns c = takes_from _ _ _ _ _ _ _ _ c.links_in.ensures _ _ c.take-found.ensures _ c.answer.ensures
