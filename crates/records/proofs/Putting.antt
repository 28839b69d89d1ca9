-- The loop that writes a plan's records: the buffer after i of them, and a turn. Assumes nothing.
use mathlib.Core.Path.{◌≡◌, refl, sym, ap, ◌∙◌}
use mathlib.Core.List.{List, [], ◌∷◌, ◌++◌, append-nil, append_assoc}
use Prim.Native.Nat.{ℕ, ◌+◌, ◌*◌, ◌<◌}
use native.Mathlib.Omega.{arith}
use native.Mathlib.Numerals.{add-one}
use lib.ListN.{length, take, drop, get_or}
use lib.Seq.{paste, take_at, drop-append-add, drop-drop, take-suc, length-take-le}
use Rattle.records.specs.Limits.{record_bytes}
use Rattle.records.specs.Records.{blank}
use Rattle.records.specs.Bytes.{bytes_of, all_bytes}
use Rattle.records.proofs.Entries.{length_bytes}
use Rattle.records.specs.declared.Record.{Record}

bytes_snoc : (rs : List Record) (r : Record) → all_bytes (rs ++ (r ∷ [])) ≡ all_bytes rs ++ bytes_of r
unfolding all_bytes
bytes_snoc [] r = append-nil (bytes_of r)
bytes_snoc (x ∷ rs) r = rw (bytes_snoc rs r) (sym (append_assoc (bytes_of x) (all_bytes rs) (bytes_of r)))

sixteen : (r : Record) → take record_bytes (bytes_of r) ≡ bytes_of r
unfolding bytes_of
sixteen r = refl

-- what the buffer holds after i records
abbrev pub put_of : List Record → ℕ → List ℕ → List ℕ
put_of rs i out = all_bytes (take i rs) ++ drop (record_bytes * i) out

pub put_more : (rs : List Record) (i : ℕ) (out : List ℕ) → i < length rs
    → paste (put_of rs i out) (record_bytes * i) (bytes_of (get_or rs i blank)) record_bytes ≡ put_of rs (i + 1) out
put_more rs i out h =
    let k : record_bytes * i + record_bytes ≡ record_bytes * (i + 1) = omega arith in
    let n : length (all_bytes (take i rs)) ≡ record_bytes * i = rw (length-take-le i rs (omega arith)) at (length_bytes (take i rs)) in
    let d : drop (record_bytes * i + record_bytes) (all_bytes (take i rs) ++ drop (record_bytes * i) out) ≡ drop (record_bytes * (i + 1)) out =
    rw n at (drop-append-add (all_bytes (take i rs)) (drop (record_bytes * i) out) record_bytes)
    ∙ drop-drop record_bytes (record_bytes * i) out
    ∙ ap (λ (j : ℕ). drop j out) k in
    let b : all_bytes (take (i + 1) rs) ≡ all_bytes (take i rs) ++ bytes_of (get_or rs i blank) = rw (add-one i, take-suc rs i blank h) (bytes_snoc (take i rs) (get_or rs i blank)) in
    rw (take_at (all_bytes (take i rs)) (drop (record_bytes * i) out) (record_bytes * i) n, sixteen (get_or rs i blank), d, b)
