-- How long a moment is. Assumes nothing.
use Rattle.std.specs.Prelude.{ℕ}

-- how many bytes a moment has
abbrev pub moment_bytes : ℕ
moment_bytes = 16
