-- `told::tell_test` meets its contract. Assumes nothing.
use mathlib.Core.Path.{refl}
use Rattle.told.proofs.tell_test.Goals as goal

pub returns-in-Refused : goal.returns-in-Refused
returns-in-Refused c =
    record {
      reply = rw c.in-Refused.is c.answer.ensures;
      room = rw c.in-Refused.is refl;
    }

pub returns-in-Yes : goal.returns-in-Yes
returns-in-Yes c =
    record {
      reply = rw c.in-Yes.is c.four.ensures.reply;
      room = rw c.in-Yes.is c.four.ensures.room;
    }

pub returns-in-Cycle : goal.returns-in-Cycle
returns-in-Cycle c =
    record {
      reply = rw c.in-Cycle.is c.four-in-Cycle.ensures.reply;
      room = rw c.in-Cycle.is c.four-in-Cycle.ensures.room;
    }

pub returns-in-Pair : goal.returns-in-Pair
returns-in-Pair c =
    record {
      reply = rw c.in-Pair.is c.four-in-Pair.ensures.reply;
      room = rw c.in-Pair.is c.four-in-Pair.ensures.room;
    }
