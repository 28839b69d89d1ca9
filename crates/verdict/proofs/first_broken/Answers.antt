-- `verdict::first_broken` meets its contract. Assumes nothing.
use native.Mathlib.Omega.{arith}
use mathlib.Core.Path.{refl, sym, ◌∙◌}
use Rattle.plan.specs.APlan.{records_of}
use Rattle.plan.proofs.Accepted.{accepted_plan}
use Rattle.plan.proofs.Records.{next_record, last_record}
use Rattle.verdict.proofs.Broken.{kept_from, day_of, by_minutes, broken_here, broken_turn, broken_end}
use Rattle.verdict.proofs.first_broken.Goals as goal

pub loop-i-init : goal.loop-i-init
loop-i-init c = (
  omega arith,
  c.used-n.ensures,
  c.well_formed.0.1.1.1.0.1.0.1,
  c.well_formed.1.0.1.1.1.1.0.1.0.1,
  c.requires.1.long,
  c.requires.0,
  c.requires.1.ends,
  refl,
)

pub returns-then-not-is_kept : goal.returns-then-not-is_kept
returns-then-not-is_kept c =
    let a = c.args in
    let i = c.loop-i.invariant in
    let k = c.loop-i.i in
    let rs = records_of a.plan in
    let day = day_of a.board.minutes in
    let w = next_record a.plan i.2 _ i.1 k c.loop-i-test.true in
    let f = kept_from rs (accepted_plan a.plan i.5) a.links.ends i.6 day k w.0 _ w.1 in
    let g = sym f ∙ sym c.is_kept.ensures ∙ c.if-not-is_kept.true in
    broken_here rs day k w.0 (rw w.1 g) ∙ i.7 ∙ by_minutes rs a.board 0 rs

pub loop-i-preserved : goal.loop-i-preserved
loop-i-preserved c =
    let a = c.args in
    let i = c.loop-i.invariant in
    let k = c.loop-i.i in
    let rs = records_of a.plan in
    let day = day_of a.board.minutes in
    let w = next_record a.plan i.2 _ i.1 k c.loop-i-test.true in
    let f = kept_from rs (accepted_plan a.plan i.5) a.links.ends i.6 day k w.0 _ w.1 in
    let g = sym f ∙ sym c.is_kept.ensures ∙ c.if-not-is_kept.false in
    (omega arith, i.1, i.2, i.3, i.4, i.5, i.6, sym (broken_turn rs day k w.0 (rw w.1 g)) ∙ i.7)

pub returns : goal.returns
returns c =
    let a = c.args in
    let i = c.loop-i.invariant in
    let rs = records_of a.plan in
    broken_end rs (day_of a.board.minutes) c.loop-i.i (last_record a.plan i.2 _ i.1 _ c.loop-i-test.false) ∙ i.7 ∙ by_minutes rs a.board 0 rs
