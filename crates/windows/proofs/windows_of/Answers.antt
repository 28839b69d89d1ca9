-- `windows::windows_of` meets its contract. Assumes nothing.
use Rattle.plan.specs.APlan.{records_of}
use Rattle.plan.proofs.Accepted.{accepted_plan}
use Rattle.windows.proofs.Opening.{opens_here}
use Rattle.windows.proofs.windows_of.Goals as goal

pub returns : goal.returns
returns c =
    let rs = records_of c.args.plan in
    let t = c.tables_of-tables.ensures in
    let one = rw (c.first_points.ensures, c.requires.links.points) at c.minus-foremans.ensures in
    let opens = opens_here rs c.args.done (accepted_plan c.args.plan c.requires.accepted).few _ c.requires.links.watches _ t.shut_by _ _ _ one c.minus.ensures c.minus-opens.ensures in
    record {
      fits = c.minus-opens.ensures.fits;
      long = t.long_lows;
      opens = opens;
      holders = t.held_by;
      lows = t.low_by;
      highs = _;
      high_by_lem = t.high_by;
      high = c.least_high-high.ensures;
    }
