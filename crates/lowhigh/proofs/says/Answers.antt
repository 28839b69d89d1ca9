-- `lowhigh::says` meets its contract. Assumes nothing.
use borrow.Author.Rules.{sfits_of}
use borrow.Author.Tests.{eq-eqb, ne_eqb}
use mir.Syntax.{w32}
use mir.ValLaws.{to_z-of_z}
use Rattle.lowhigh.specs.Inside.{says_of}
use Rattle.lowhigh.proofs.says.Goals as goal

pub returns-then-r-eq-ORDINARY : goal.returns-then-r-eq-ORDINARY
unfolding says_of
returns-then-r-eq-ORDINARY c =
    let gap = rw (to_z-of_z w32 c.args.r.first (sfits_of c.struct_told-1.given.1.1.1.0.1)) at c.split-gap.ensures in
    rw (
      c.ordinary.ensures,
      gap,
      c.has.ensures,
      c.has-ended.ensures,
      eq-eqb _ _ c.if-r-eq-ORDINARY.true,
    )

pub returns-then-r-eq-WAIT : goal.returns-then-r-eq-WAIT
unfolding says_of
returns-then-r-eq-WAIT c =
    let gap = rw (to_z-of_z w32 c.args.r.first (sfits_of c.struct_told-1.given.1.1.1.0.1)) at c.split-gap.ensures in
    rw (
      c.wait.ensures,
      gap,
      c.has-then-r-eq-WAIT.ensures,
      c.has-ended.ensures,
      ne_eqb _ _ c.if-r-eq-ORDINARY.false,
      eq-eqb _ _ c.if-r-eq-WAIT.true,
    )

pub returns : goal.returns
unfolding says_of
returns c = rw (ne_eqb _ _ c.if-r-eq-ORDINARY.false, ne_eqb _ _ c.if-r-eq-WAIT.false)
