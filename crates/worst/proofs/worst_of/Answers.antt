-- `worst::worst_of` meets its contract. Assumes nothing.
use Rattle.worst.proofs.Answering.{worst_refused, few_records, all_ready, worst_found}
use Rattle.worst.proofs.worst_of.Goals as goal

pub returns-then-refused-ne-ACCEPTED : goal.returns-then-refused-ne-ACCEPTED
returns-then-refused-ne-ACCEPTED c = worst_refused c.test-answer.ensures.answer c.refused_by-refused.ensures c.if-refused-ne-ACCEPTED.true

pub lay_out-requires : goal.lay_out-requires
lay_out-requires c = few_records c.test-answer.ensures.answer c.refused_by-refused.ensures c.if-refused-ne-ACCEPTED.false

pub worst_run-requires : goal.worst_run-requires
worst_run-requires c =
    record {
      plan = _;
      ready =
          all_ready
          c.test-answer.ensures.answer
          c.refused_by-refused.ensures
          c.if-refused-ne-ACCEPTED.false
          (c.well_formed.0.1.1.1.0.1.0.1)
          c.lay_out.ensures
          c.points_of-n.ensures
          c.links_of-links.ensures
          c.many_by.ensures;
    }

pub returns : goal.returns
returns c =
    worst_found
    c.test-answer.ensures.answer
    c.refused_by-refused.ensures
    c.if-refused-ne-ACCEPTED.false
    (c.well_formed.0.1.1.1.0.1.0.1)
    c.lay_out.ensures
    c.points_of-n.ensures
    c.links_of-links.ensures
    c.many_by.ensures
    c.worst_run.ensures
