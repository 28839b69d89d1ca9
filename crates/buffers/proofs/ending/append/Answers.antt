-- `buffers::ending::append` meets its contract. Assumes nothing.
use mathlib.Core.Path.{refl, sym, ◌∙◌}
use borrow.Author.Tests.{leb-true}
use Rattle.buffers.proofs.Laying.{laid_paste}
use Rattle.buffers.proofs.ending.append.Goals as goal

pub returns-then-not-fits : goal.returns-then-not-fits
returns-then-not-fits c =
    let e = sym c.fits.ensures ∙ c.if-not-fits.true in
    record {
      place = rw e refl;
      bytes = rw e refl;
    }

pub put-requires : goal.put-requires
put-requires c = record { fits = leb-true _ _ (sym c.fits.ensures ∙ c.if-not-fits.false) }

pub returns : goal.returns
returns c =
    let s = c.args in
    let e = sym c.fits.ensures ∙ c.if-not-fits.false in
    let l = c.put.ensures in
    record {
      place = l.behind ∙ rw e refl;
      bytes = l.bytes ∙ laid_paste s.into.now s.at s.from.now ∙ rw e refl;
    }
