-- `day_rooms::put_reply` meets its contract. Assumes nothing.
use mathlib.Core.Path.{refl}
use Rattle.day_rooms.proofs.OfRooms.{replies_from}
use Rattle.day_rooms.proofs.put_reply.Goals as goal

pub returns : goal.returns
returns c =
    record {
      answer = refl;
      room = replies_from _ _ _ _ _ c.links_in.ensures _ c.reply-said.ensures _ c.reply_room-numbers.ensures;
    }
