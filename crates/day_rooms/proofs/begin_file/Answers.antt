-- `day_rooms::begin_file` meets its contract. Assumes nothing.
use mathlib.Core.Path.{sym, ◌∙◌}
use Rattle.day_rooms.proofs.OfRooms.{begins_refused, begins_taken}
use Rattle.day_rooms.proofs.begin_file.Goals as goal

pub returns-in-Err : goal.returns-in-Err
returns-in-Err c = begins_refused _ _ _ _ _ _ _ _ c.in-Err.refusal (sym c.in-Err.is ∙ c.read.ensures) c.answer.ensures

pub returns : goal.returns
returns c = begins_taken _ _ _ _ _ _ _ _ c.in-Ok.plan (sym c.in-Ok.is ∙ c.read.ensures) _ _ _ _ _ _ _ c.begin-started.ensures c.links_room-room.ensures c.answer-2.ensures
