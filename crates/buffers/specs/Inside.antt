-- Text that is put into a buffer from a place on: what stands there before it and behind it stays as it was. Assumes nothing.
use Rattle.std.specs.Prelude.{◌≡◌, List, ◌++◌, ℕ, ◌+◌, ◌≤◌, length, take, drop}

-- the buffer with the text in it, from `at` on
abbrev pub laid : List ℕ → ℕ → List ℕ → List ℕ
laid out at text = take at out ++ (text ++ drop (at + length text) out)

-- there is room for the text from `at` on
pub record Room (out : List ℕ) (at : ℕ) (text : List ℕ) : Type 0 where
  pub fits : at + length text ≤ length out

-- the text has been put into the buffer from `at` on, and `next` is the place behind it
pub record Laid (out : List ℕ) (at : ℕ) (text : List ℕ) (after : List ℕ) (next : ℕ) : Type 0 where
  pub fits : at + length text ≤ length out
  pub bytes : after ≡ laid out at text
  pub behind : next ≡ at + length text
