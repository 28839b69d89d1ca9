-- `made_files::put_lighter` meets its contract. Assumes nothing.
use mathlib.Core.Path.{refl}
use Rattle.made_files.specs.Made.{plan_in, filed_of, file_left}
use Rattle.made_files.proofs.OfPlans.{filed_answer_lem, dropped_is}
use Rattle.made_files.proofs.put_lighter.Goals as goal

pub returns : goal.returns
returns c =
    let a = c.args in
    let f = c.write-filed.ensures in
    record {
      reply = filed_answer_lem (plan_in a.made) a.out.now _ _ _ f.reply refl c.answer_with.ensures;
      bytes = f.bytes;
      dropped = dropped_is a.made a.out.now a.room.now _ _ f.reply c.put_dropped.ensures;
    }
