-- `ponds::files::ponds_test` meets its contract. Assumes nothing.
use borrow.Author.Rules.{rules}
use mathlib.Core.Path.{ap, ◌∙◌}
use Rattle.vee.specs.declared.Answer.{Answer}
use Rattle.told.specs.Told.{test_answer, test_room}
use Rattle.ponds.proofs.files.ponds_test.Goals as goal

pub returns : goal.returns
returns c =
    let e = c.test_file-found.ensures in
    record {
      reply = c.tell_test.ensures.reply ∙ ap test_answer e;
      room = c.tell_test.ensures.room ∙ ap (λ (a : Answer). test_room a c.args.room.now) e;
    }
