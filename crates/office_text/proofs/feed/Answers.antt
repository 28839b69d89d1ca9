-- `office_text::feed` meets its contract. Assumes nothing.
use Rattle.office_text.proofs.Feeds.{opened, stays, past, feeds_end, feeds_on, feeds_comma, feeds_line, feeds_broken, feeds_bad}
use Rattle.office_text.specs.Feeding.{fed_of}
use mathlib.Core.Path.{refl, ap, ◌∙◌}
use native.Mathlib.Omega.{arith}
use Rattle.office_text.proofs.feed.Goals as goal

pub returns-then-state-ne-ACCEPTED : goal.returns-then-state-ne-ACCEPTED
returns-then-state-ne-ACCEPTED c = stays _ _ c.if-state-ne-ACCEPTED.true

pub loop-i-init : goal.loop-i-init
loop-i-init c = (refl, (c.none-none.ensures, refl))

pub loop-i-smaller-in-On : goal.loop-i-smaller-in-On
loop-i-smaller-in-On c =
    let a = c.args in
    let l = c.loop-i in
    omega (arith, past a.piece.now l.i l.lines l.records l.commas l.cells l.spot _ l.invariant.1.1 _ c.walk_from-gone.ensures (omega arith))

pub loop-i-preserved-in-On : goal.loop-i-preserved-in-On
loop-i-preserved-in-On c =
    let a = c.args in
    let l = c.loop-i in
    (l.invariant.0, (l.invariant.1.0, feeds_on a.piece.now l.i l.lines l.records l.commas l.cells l.spot _ l.invariant.1.1 _ c.walk_from-gone.ensures _ c.in-On.is))

pub loop-i-smaller-in-Comma : goal.loop-i-smaller-in-Comma
loop-i-smaller-in-Comma c =
    let a = c.args in
    let l = c.loop-i in
    omega (arith, past a.piece.now l.i l.lines l.records l.commas l.cells l.spot _ l.invariant.1.1 _ c.walk_from-gone.ensures (omega arith))

pub loop-i-preserved-in-Comma : goal.loop-i-preserved-in-Comma
loop-i-preserved-in-Comma c =
    let a = c.args in
    let l = c.loop-i in
    (l.invariant.0, (l.invariant.1.0, feeds_comma a.piece.now l.i l.lines l.records l.commas l.cells l.spot _ l.invariant.1.1 _ c.walk_from-gone.ensures c.in-Comma.is _ (omega (arith, c.min-commas.ensures, c.saturating_add.ensures)) _ c.begin-spot.ensures))

pub returns-in-Err : goal.returns-in-Err
returns-in-Err c =
    let a = c.args in
    let l = c.loop-i in
    feeds_bad a.piece.now l.i l.lines l.records l.commas l.cells l.spot _ l.invariant.1.1 _ c.walk_from-gone.ensures c.in-Ends.is _ c.line_of.ensures _ c.in-Err.is _ c.stop.ensures ∙ ap (λ f. fed_of f a.piece.now) (opened a.state c.if-state-ne-ACCEPTED.false)

pub loop-i-smaller : goal.loop-i-smaller
loop-i-smaller c =
    let a = c.args in
    let l = c.loop-i in
    omega (arith, past a.piece.now l.i l.lines l.records l.commas l.cells l.spot _ l.invariant.1.1 _ c.walk_from-gone.ensures (omega arith))

pub loop-i-preserved : goal.loop-i-preserved
loop-i-preserved c =
    let a = c.args in
    let l = c.loop-i in
    (l.invariant.0, (l.invariant.1.0, feeds_line a.piece.now l.i l.lines l.records l.commas l.cells l.spot _ l.invariant.1.1 _ c.walk_from-gone.ensures c.in-Ends.is _ c.line_of.ensures _ c.in-Ok.is _ c.saturating_add-lines.ensures _ l.invariant.1.0 _ c.begin-spot-in-Ok.ensures))

pub returns-in-Broken : goal.returns-in-Broken
returns-in-Broken c =
    let a = c.args in
    let l = c.loop-i in
    feeds_broken a.piece.now l.i l.lines l.records l.commas l.cells l.spot _ l.invariant.1.1 _ c.walk_from-gone.ensures c.in-Broken.is _ c.stop-in-Broken.ensures ∙ ap (λ f. fed_of f a.piece.now) (opened a.state c.if-state-ne-ACCEPTED.false)

pub returns : goal.returns
returns c =
    let a = c.args in
    let l = c.loop-i in
    feeds_end a.piece.now l.i l.lines l.records l.commas l.cells l.spot _ l.invariant.1.1 (omega arith) ∙ ap (λ f. fed_of f a.piece.now) (opened a.state c.if-state-ne-ACCEPTED.false)
