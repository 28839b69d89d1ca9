-- `told::tell_verdict` meets its contract. Assumes nothing.
use mathlib.Core.Path.{refl}
use Rattle.told.proofs.tell_verdict.Goals as goal

pub returns-in-Refused : goal.returns-in-Refused
returns-in-Refused c =
    record {
      reply = rw c.in-Refused.is c.answer.ensures;
      room = rw c.in-Refused.is refl;
    }

pub returns-in-Kept : goal.returns-in-Kept
returns-in-Kept c =
    record {
      reply = rw c.in-Kept.is c.two.ensures.reply;
      room = rw c.in-Kept.is c.two.ensures.room;
    }

pub returns-in-Broken : goal.returns-in-Broken
returns-in-Broken c =
    record {
      reply = rw c.in-Broken.is c.two-in-Broken.ensures.reply;
      room = rw c.in-Broken.is c.two-in-Broken.ensures.room;
    }
