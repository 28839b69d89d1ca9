-- `lines::long_line` meets its contract. Assumes nothing.
use mathlib.Core.List.{[], ◌∷◌, ◌++◌}
use Rattle.lines.specs.Text.{piece_text, more_text}
use Rattle.lines.proofs.WholeLine.{all_left, fits_next, less_left, none_left}
use Rattle.lines.proofs.long_line.Goals as goal

pub with_piece-requires : goal.with_piece-requires
with_piece-requires c =
    let s = c.args in
    let all = all_left _ _ c.blank.ensures c.requires in
    fits_next _ (piece_text s.first) (more_text s.more.now ++ (10 ∷ [])) _ all

pub with_more-line-requires : goal.with_more-line-requires
with_more-line-requires c =
    let s = c.args in
    let all = all_left _ _ c.blank.ensures c.requires in
    fits_next _ (more_text s.more.now) (10 ∷ []) _ (less_left _ (piece_text s.first) (more_text s.more.now ++ (10 ∷ [])) _ all _ c.with_piece.ensures)

pub with_byte-requires : goal.with_byte-requires
with_byte-requires c =
    let s = c.args in
    let all = all_left _ _ c.blank.ensures c.requires in
    let less = less_left _ (piece_text s.first) (more_text s.more.now ++ (10 ∷ [])) _ all _ c.with_piece.ensures in
    (less_left _ (more_text s.more.now) (10 ∷ []) _ less _ c.with_more-line.ensures).fits

pub returns : goal.returns
returns c =
    let s = c.args in
    let all = all_left _ _ c.blank.ensures c.requires in
    let less = less_left _ (piece_text s.first) (more_text s.more.now ++ (10 ∷ [])) _ all _ c.with_piece.ensures in
    none_left _ _ (10 ∷ []) _ (less_left _ (more_text s.more.now) (10 ∷ []) _ less _ c.with_more-line.ensures) c.with_byte.ensures
