-- `records::bytes_of` meets its contract. Assumes nothing.
use Rattle.std.proofs.Common.{◌∙◌, ap, arith}
use Rattle.std.specs.Int.{to_le_bytes, w32}
use Rattle.std.proofs.lemmas.Int.{to_z-of_z}
use Rattle.numbers.specs.Numbers.{bits_of}
use Rattle.records.specs.Bytes.{bytes_of}
use Rattle.numbers.proofs.Words.{le_bytes}
use Rattle.records.proofs.bytes_of.Goals as goal

pub returns : goal.returns
unfolding bytes_of
returns c =
    let r = c.args.r in
    let first = c.bits.ensures ∙ ap bits_of (to_z-of_z w32 r.first (record { sfits = omega arith })) in
    let second = c.bits-2.ensures ∙ ap bits_of (to_z-of_z w32 r.second (record { sfits = omega arith })) in
    let e = c.to_le_bytes.ensures ∙ ap (to_le_bytes w32) first ∙ le_bytes _ in
    let f = c.to_le_bytes-2.ensures ∙ ap (to_le_bytes w32) second ∙ le_bytes _ in
    let g = c.to_le_bytes-3.ensures ∙ le_bytes _ in
    rw (e, f, g)
