-- When a board is sound, from the table l of a plan's links with the number of its points. No reader of the rules needs this
-- page. Assumes nothing.
use Rattle.std.specs.Prelude.{Bool, ℕ}
use Rattle.links.specs.declared.Links.{Links}
use Rattle.sounding.specs.ByLinks as sounding
use Rattle.board.specs.declared.Board.{Board}

-- what is asked beside what is asked of the links, where `all` are the plan's points and ws the watched ones
abbrev pub sound_else : ℕ → ℕ → Board → Bool
sound_else all ws b = sounding.sound_else all ws b.clock b.done b.minutes b.calls

-- with what is asked of the links
abbrev pub sound_by : Links → Board → Bool
sound_by l b = sounding.sound_by l b.clock b.done b.minutes b.calls
