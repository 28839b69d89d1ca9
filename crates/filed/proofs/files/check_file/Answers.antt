-- `filed::files::check_file` meets its contract. Assumes nothing.
use Rattle.std.proofs.Common.{◌≡◌, sym, ap, ◌∙◌, ne_eqb}
use Rattle.plan.specs.Limits.{most_ordinary}
use Rattle.plan.specs.ReplyNumbers.{Reading, number_in, place_in, plan_in}
use Rattle.plan.proofs.Limited.{refused_number}
use Rattle.halves.specs.Answers.{answer_of, answer_with}
use Rattle.filed.proofs.files.check_file.Goals as goal

pub returns-in-Err : goal.returns-in-Err
returns-in-Err c =
    let x = c.in-Err.refusal in
    let e = sym c.in-Err.is ∙ c.read.ensures in
    let beside : answer_of x.number x.place ≡ answer_with x.number x.place 0 = rw (ne_eqb x.number 0 (refused_number most_ordinary _ x e)) in
    c.answer-in-Err.ensures ∙ beside ∙ ap (λ (r : Reading). answer_with (number_in r) (place_in r) (plan_in r).count) e
