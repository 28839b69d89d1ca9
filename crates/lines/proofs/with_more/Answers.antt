-- `lines::with_more` meets its contract. Assumes nothing.
use mathlib.Core.Path.{refl, ◌∙◌}
use native.Mathlib.Omega.{arith}
use Rattle.lines.proofs.Adding.{with_nothing, room_space, room_piece, room_rest, with_one, no_more}
use Rattle.lines.proofs.with_more.Goals as goal

pub loop-piece-init : goal.loop-piece-init
loop-piece-init c = (c.requires, refl)

pub with_byte-requires : goal.with_byte-requires
with_byte-requires c = room_space _ c.args.more.now _ (omega arith) c.loop-piece.invariant.0

pub with_piece-next-requires : goal.with_piece-next-requires
with_piece-next-requires c = rw c.with_byte.ensures (room_piece _ c.args.more.now _ (omega arith) c.loop-piece.invariant.0)

pub loop-piece-preserved : goal.loop-piece-preserved
loop-piece-preserved c =
    let i = c.loop-piece.invariant in
    let r = room_rest _ c.args.more.now _ (omega arith) i.0 in
    let w = with_one _ c.args.more.now _ (omega arith) i.0 in
    rw (c.with_piece-next.ensures, c.with_byte.ensures) (r, w ∙ i.1)

pub returns : goal.returns
returns c =
    let i = c.loop-piece.invariant in
    let e = no_more c.args.more.now c.loop-piece.piece-index (omega arith) in
    with_nothing _ i.0.whole ∙ rw e at i.1
