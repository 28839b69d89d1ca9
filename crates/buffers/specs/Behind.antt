-- Lines behind lines in a buffer. Assumes nothing.
use Rattle.std.specs.Prelude.{List, ℕ, ◌+◌, leb, length, if◌then◌else◌}
use Rattle.std.proofs.Math.Seq.{paste}

-- where the bytes bs end behind the first n of a buffer; they stay out if they do not fit
abbrev pub end_of : List ℕ → ℕ → List ℕ → ℕ
end_of buffer n bs = if leb (n + length bs) (length buffer) then n + length bs else n

-- the buffer after that
abbrev pub appended : List ℕ → ℕ → List ℕ → List ℕ
appended buffer n bs = if leb (n + length bs) (length buffer) then paste buffer n bs (length bs) else buffer
