-- `worst::day_of` meets its contract. Assumes nothing.
use Rattle.all_runs.proofs.Searching.{few_rows}
use Rattle.worst.proofs.Answering.{day_refused_lem, day_past, few_records, all_ready, day_chooses, day_asks, day_found}
use native.Mathlib.Omega.{arith}
use Rattle.worst.proofs.day_of.Goals as goal

pub returns-then-refused-ne-ACCEPTED : goal.returns-then-refused-ne-ACCEPTED
returns-then-refused-ne-ACCEPTED c =
    let all = day_refused_lem c.test-answer.ensures.answer c.refused_by-refused.ensures _ _ c.if-refused-ne-ACCEPTED.true in
    record {
      reply = all.0;
      out = all.1;
    }

pub returns-then-many-projection : goal.returns-then-many-projection
returns-then-many-projection c =
    let all = day_past c.test-answer.ensures.answer c.refused_by-refused.ensures _ _ c.if-refused-ne-ACCEPTED.false c.many_by-many.ensures (omega (arith, c.if-many-projection.true)) in
    record {
      reply = all.0;
      out = all.1;
    }

pub lay_out-requires : goal.lay_out-requires
lay_out-requires c = few_records c.test-answer.ensures.answer c.refused_by-refused.ensures c.if-refused-ne-ACCEPTED.false

pub overflow_add-n : goal.overflow_add-n
overflow_add-n c =
    omega (
      arith,
      few_rows _ (all_ready
          c.test-answer.ensures.answer
          c.refused_by-refused.ensures
          c.if-refused-ne-ACCEPTED.false
          (c.well_formed.0.1.1.1.0.1.0.1)
          c.lay_out.ensures
          c.points_of-n.ensures
          c.links_of-links.ensures
          c.many_by-many.ensures),
    )

pub chosen-w-requires : goal.chosen-w-requires
chosen-w-requires c =
    day_chooses
    c.test-answer.ensures.answer
    c.refused_by-refused.ensures
    c.if-refused-ne-ACCEPTED.false
    (c.well_formed.0.1.1.1.0.1.0.1)
    c.lay_out.ensures
    c.points_of-n.ensures
    c.links_of-links.ensures
    c.many_by-many.ensures
    (omega (arith, c.if-many-projection.false))

pub write_day-requires : goal.write_day-requires
write_day-requires c =
    day_asks
    c.test-answer.ensures.answer
    c.refused_by-refused.ensures
    c.if-refused-ne-ACCEPTED.false
    (c.well_formed.0.1.1.1.0.1.0.1)
    c.lay_out.ensures
    c.points_of-n.ensures
    c.links_of-links.ensures
    c.many_by-many.ensures
    (omega (arith, c.if-many-projection.false))
    c.chosen-w.ensures

pub returns : goal.returns
returns c =
    let all = day_found
    c.test-answer.ensures.answer
    c.refused_by-refused.ensures
    c.if-refused-ne-ACCEPTED.false
    (c.well_formed.0.1.1.1.0.1.0.1)
    c.lay_out.ensures
    c.points_of-n.ensures
    c.links_of-links.ensures
    c.many_by-many.ensures
    (omega (arith, c.if-many-projection.false))
    c.chosen-w.ensures
    c.write_day.ensures in
    record {
      reply = all.0;
      out = all.1;
    }
