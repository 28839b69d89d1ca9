-- `ponds::made::ponds_import` meets its contract. Assumes nothing.
use borrow.Author.Rules.{rules}
use mathlib.Core.Path.{ap, ◌∙◌}
use Rattle.plan.specs.ReplyNumbers.{Reading}
use Rattle.made_files.specs.Made.{file_left, filed_answer}
use Rattle.ponds.proofs.made.ponds_import.Goals as goal

pub returns : goal.returns
returns c =
    let p = c.put_plan.ensures in
    let e = c.import_text.ensures in
    let o = c.args.out.now in
    record {
      reply = p.reply ∙ ap (λ (x : Reading). filed_answer x o) e;
      bytes = p.bytes ∙ ap (λ (x : Reading). file_left x o) e;
    }
