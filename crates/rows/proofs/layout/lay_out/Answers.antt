-- `rows::layout::lay_out` meets its contract. Assumes nothing.
use Rattle.rows.proofs.Layouts.{start, turn, laid_started}
use native.Mathlib.Omega.{arith}
use Rattle.rows.proofs.layout.lay_out.Goals as goal

pub loop-q-init : goal.loop-q-init
loop-q-init c = (omega arith, c.starts_of-starts.ensures, start c.zeros.ensures)

pub loop-q-preserved : goal.loop-q-preserved
loop-q-preserved c = let v = c.loop-q.invariant in (omega arith, v.1, turn v.2 (laid_started _ _ c.requires c.loop-q-test.true v.2.long v.1 (omega (arith, c.struct_known-1.given.1.1.0.fits)) c.row_of.ensures c.write_row.ensures))
