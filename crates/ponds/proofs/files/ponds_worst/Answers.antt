-- `ponds::files::ponds_worst` meets its contract. Assumes nothing.
use borrow.Author.Rules.{rules}
use mathlib.Core.Path.{ap, ◌∙◌}
use Rattle.std.specs.Prelude.{Result}
use Rattle.plan.specs.declared.Refusal.{Refusal}
use Rattle.worst.specs.WorstMinute.{Found}
use Rattle.told.specs.Told.{worst_answer, worst_room}
use Rattle.ponds.proofs.files.ponds_worst.Goals as goal

pub returns : goal.returns
returns c =
    let e = c.worst_file-found.ensures in
    record {
      reply = c.tell_worst.ensures.reply ∙ ap worst_answer e;
      room = c.tell_worst.ensures.room ∙ ap (λ (w : Result Found Refusal). worst_room w c.args.room.now) e;
    }
