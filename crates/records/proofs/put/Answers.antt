-- `records::put` meets its contract. Assumes nothing.
use native.Mathlib.Omega.{arith}
use mathlib.Core.Path.{◌≡◌, sym}
use mathlib.Core.List.{List, append_assoc}
use Prim.Native.Nat.{ℕ, ◌+◌}
use borrow.Rule.Slice.PartMut.{put_mid}
use lib.ListN.{length, take, drop}
use lib.Seq.{paste, take_all, drop-drop}
use Rattle.records.specs.Limits.{record_bytes}
use Rattle.records.proofs.put.Goals as goal

-- a part in the middle that is overwritten whole
overwritten : (out part e : List ℕ) (at k n : ℕ) → k ≡ n → length e ≡ n → part ≡ e → put_mid at k out part ≡ paste out at e n
overwritten out part e at k n h l f = rw (h, f, take_all n e (omega arith), drop-drop n at out) (sym (append_assoc (take at out) e (drop (at + n) out)))

pub returns : goal.returns
returns c =
    let s = c.args in
    let n : length s.e ≡ record_bytes = omega arith in
    overwritten s.out.now _ s.e s.at _ record_bytes (omega arith) n c.copy_from_slice.ensures.after
