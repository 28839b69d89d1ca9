-- `ponds::sheets::ponds_verdict` meets its contract. Assumes nothing.
use borrow.Author.Rules.{rules}
use mathlib.Core.Path.{ap, ◌∙◌}
use Rattle.verdict.specs.declared.Verdict.{Verdict}
use Rattle.told.specs.Told.{verdict_answer, verdict_room}
use Rattle.ponds.proofs.sheets.ponds_verdict.Goals as goal

pub returns : goal.returns
returns c =
    let e = c.verdict_file-found.ensures in
    record {
      reply = c.tell_verdict.ensures.reply ∙ ap verdict_answer e;
      room = c.tell_verdict.ensures.room ∙ ap (λ (v : Verdict). verdict_room v c.args.room.now) e;
    }
