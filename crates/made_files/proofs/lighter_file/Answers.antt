-- `made_files::lighter_file` meets its contract. Assumes nothing.
use mathlib.Core.Path.{sym, ◌∙◌}
use Rattle.made_files.proofs.OfPlans.{lighter_unread, lighter_refused, lighter_made}
use Rattle.made_files.proofs.lighter_file.Goals as goal

pub returns-in-Err : goal.returns-in-Err
returns-in-Err c = lighter_unread _ _ _ c.in-Err.refusal (sym c.in-Err.is ∙ c.read.ensures) _ c.answer-in-Err.ensures

pub returns-in-Ok-lighter_of : goal.returns-in-Ok-lighter_of
returns-in-Ok-lighter_of c =
    let p = c.put_lighter.ensures in
    lighter_made _ _ _ c.in-Ok.plan (sym c.in-Ok.is ∙ c.read.ensures) _ _ _ _ c.in-Ok-lighter_of.ensures p.reply p.bytes p.dropped

pub returns-in-Err-lighter_of : goal.returns-in-Err-lighter_of
returns-in-Err-lighter_of c = lighter_refused _ _ _ c.in-Ok.plan (sym c.in-Ok.is ∙ c.read.ensures) _ _ c.in-Err-lighter_of.ensures c.answer.ensures
