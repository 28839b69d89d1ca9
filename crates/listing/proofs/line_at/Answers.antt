-- `listing::line_at` meets its contract. Assumes nothing.
use mathlib.Core.Path.{refl}
use native.Mathlib.Omega.{arith}
use borrow.Author.Tests.{eq-eqb, ne_eqb}
use Rattle.phrases.proofs.Reading.{all_bytes_lem}
use Rattle.listing.proofs.Wording.{worded_start, worded_end, worded_more}
use Rattle.listing.proofs.line_at.Goals as goal

pub loop-cells-init : goal.loop-cells-init
loop-cells-init c = rw c.none-none.ensures (worded_start _ _)

pub returns-then-found-eq0 : goal.returns-then-found-eq0
returns-then-found-eq0 c =
    let t = c.args.text.now in
    let b = all_bytes_lem t (λ i. omega (arith, c.type_inv.text i)) in
    worded_end t b _ _ _ _ c.loop-cells.invariant _ c.word_at-found.ensures _ refl (eq-eqb _ _ c.if-found-eq0.true) _ c.row_by.ensures _ c.line_end.ensures

pub overflow_add-words : goal.overflow_add-words
overflow_add-words c =
    let t = c.args.text.now in
    let b = all_bytes_lem t (λ i. omega (arith, c.type_inv.text i)) in
    let m = worded_more t b _ _ _ _ c.loop-cells.invariant _ c.word_at-found.ensures _ refl (ne_eqb _ _ c.if-found-eq0.false) in
    omega (arith, m.fewer)

pub loop-cells-smaller : goal.loop-cells-smaller
loop-cells-smaller c =
    let t = c.args.text.now in
    let b = all_bytes_lem t (λ i. omega (arith, c.type_inv.text i)) in
    let m = worded_more t b _ _ _ _ c.loop-cells.invariant _ c.word_at-found.ensures _ refl (ne_eqb _ _ c.if-found-eq0.false) in
    omega (arith, m.past, m.within)

pub loop-cells-preserved : goal.loop-cells-preserved
loop-cells-preserved c =
    let t = c.args.text.now in
    let b = all_bytes_lem t (λ i. omega (arith, c.type_inv.text i)) in
    let m = worded_more t b _ _ _ _ c.loop-cells.invariant _ c.word_at-found.ensures _ refl (ne_eqb _ _ c.if-found-eq0.false) in
    m.then _ c.min.ensures
