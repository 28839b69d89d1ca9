-- `made_files::put_plan` meets its contract. Assumes nothing.
use Rattle.made_files.proofs.OfPlans.{filed_answer_lem}
use Rattle.made_files.proofs.put_plan.Goals as goal

pub returns : goal.returns
returns c =
    let f = c.file_plan-filed.ensures in
    record {
      reply = filed_answer_lem c.args.made c.args.out.now _ _ _ f.reply c.count_in.ensures c.answer_with.ensures;
      bytes = f.bytes;
    }
