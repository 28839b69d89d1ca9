-- `calendar::write_calendar` meets its contract. Assumes nothing.
use Rattle.links.proofs.Linking.{known}
use Rattle.calendar.specs.Inside.{SheetOf}
use Rattle.calendar.proofs.Lengths.{few_by}
use Rattle.calendar.proofs.Writing.{unchecked}
use Rattle.calendar.proofs.write_calendar.Goals as goal

pub returns-then-found-ne-ACCEPTED : goal.returns-then-found-ne-ACCEPTED
returns-then-found-ne-ACCEPTED c =
    let a = c.args in
    let all = unchecked a.plan a.board a.origin a.out.now _ c.check-found.ensures c.if-found-ne-ACCEPTED.true in
    record {
      reply = all.0;
      bytes = all.1;
    }

pub links_by-links-requires : goal.links_by-links-requires
links_by-links-requires c = known _ _ c.check-found.ensures c.if-found-ne-ACCEPTED.false

pub write_by-requires : goal.write_by-requires
write_by-requires c = few_by (record { ok = rw c.check-found.ensures at c.if-found-ne-ACCEPTED.false; full = c.well_formed.0.1.1.1.0.1.0.1; links = c.links_by-links.ensures; ponds = c.ponds_of.ensures })

pub returns : goal.returns
returns c =
    let k = c.write_by.ensures in
    let w : SheetOf c.args.plan _ _ = record { ok = rw c.check-found.ensures at c.if-found-ne-ACCEPTED.false; full = c.well_formed.0.1.1.1.0.1.0.1; links = c.links_by-links.ensures; ponds = c.ponds_of.ensures } in
    record {
      reply = k.reply c.args.plan w;
      bytes = k.bytes c.args.plan w;
    }
