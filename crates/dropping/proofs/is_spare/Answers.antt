-- `dropping::is_spare` meets its contract. Assumes nothing.
use mir.Syntax.{w32}
use mir.ValLaws.{to_z-of_z}
use Rattle.dropping.proofs.Fitting.{spare_other, spare_few, spare_bounds, spare_all, spare_found}
use native.Mathlib.Omega.{arith}
use borrow.Author.Rules.{sfits_of}
use Rattle.dropping.proofs.is_spare.Goals as goal

pub returns-then-r-ne-ORDINARY : goal.returns-then-r-ne-ORDINARY
returns-then-r-ne-ORDINARY c = spare_other c.requires (λ e. omega (arith, e, c.if-r-ne-ORDINARY.true))

pub lay_out-requires : goal.lay_out-requires
lay_out-requires c = spare_few c.requires (omega (arith, c.if-r-ne-ORDINARY.false))

pub bound-most-requires : goal.bound-most-requires
bound-most-requires c = spare_bounds c.requires (omega (arith, c.if-r-ne-ORDINARY.false)) (rw (to_z-of_z w32 _ (sfits_of c.struct_told-1.given.1.1.1.0.1)) at c.split.ensures)

pub all_fit-requires : goal.all_fit-requires
all_fit-requires c = spare_all c.requires (omega (arith, c.if-r-ne-ORDINARY.false)) (c.well_formed.1.0.1.1.1.0.1.0.1) c.lay_out.ensures c.points_of-n.ensures c.links_of-links.ensures (rw (to_z-of_z w32 _ (sfits_of c.struct_told-1.given.1.1.1.0.1)) at c.split.ensures) _ c.bound-most.ensures

pub returns : goal.returns
returns c = spare_found c.requires (omega (arith, c.if-r-ne-ORDINARY.false)) (c.well_formed.1.0.1.1.1.0.1.0.1) c.lay_out.ensures c.points_of-n.ensures c.links_of-links.ensures (rw (to_z-of_z w32 _ (sfits_of c.struct_told-1.given.1.1.1.0.1)) at c.split.ensures) _ c.bound-most.ensures c.all_fit.ensures
