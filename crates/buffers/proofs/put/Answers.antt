-- `buffers::put` meets its contract. Assumes nothing.
use native.Mathlib.Omega.{arith}
use Rattle.buffers.proofs.Laying.{overwritten}
use Rattle.buffers.proofs.put.Goals as goal

pub returns : goal.returns
returns c =
    let s = c.args in
    record {
      fits = c.requires.fits;
      bytes = overwritten s.out.now _ s.text.now s.at _ (omega arith) c.copy_from_slice.ensures.after;
      behind = omega arith;
    }
