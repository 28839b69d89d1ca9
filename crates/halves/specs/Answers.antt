-- An answer as one number of 64 bits, for programs in other languages: the reply number, 0 where nothing is refused, and what stands
-- beside it. Assumes nothing.
use Rattle.std.specs.Prelude.{ℕ, ◌+◌, ◌*◌, ◌^◌, ◌-◌, min, eqb, if◌then◌else◌}

-- the lower half is the reply number, the upper half what stands beside it
abbrev pub answer_of : ℕ → ℕ → ℕ
answer_of number beside = number + 2 ^ 32 * beside

-- beside a refusal stands the record that it is about, beside 0 what is told
abbrev pub answer_with : ℕ → ℕ → ℕ → ℕ
answer_with number place told = answer_of number (if eqb number 0 then told else place)

-- a number that can be larger stops at the largest that a half holds
abbrev pub half_of : ℕ → ℕ
half_of n = min n (2 ^ 32 - 1)
