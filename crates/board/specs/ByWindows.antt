-- What the links l and the windows w say of an event s on a board b. No reader of the rules needs this page. Assumes nothing.
use Rattle.std.specs.Prelude.{List, ℕ, ◌+◌, ◌-◌, min}
use Rattle.links.specs.declared.Links.{Links}
use Rattle.lowhigh.specs.Rules.{never}
use Rattle.windows.specs.declared.Windows.{Windows}
use Rattle.planless.specs.ByWindows.{number_by}
use Rattle.taking.specs.Steps as taking
use Rattle.taking.specs.declared.Marks.{Marks}
use Rattle.taking.specs.declared.Step.{Step}
use Rattle.board.specs.Calls.{last_call}
use Rattle.board.specs.Events.{taken}
use Rattle.board.specs.declared.Board.{Board}
use Rattle.board.specs.declared.Taken.{Taken}

-- the number of the next event, as far as there is one
abbrev pub next_by : Board → ℕ
next_by b = min (last_call b) (never - 1) + 1

-- the number of the event s
abbrev pub event_by : Links → Board → Windows → List ℕ → ℕ
event_by l b w s = number_by l b.clock b.done b.minutes w s

-- what a board holds beside its clock
abbrev pub marks_of : Board → Marks
marks_of b = record { done = b.done; minutes = b.minutes; calls = b.calls }

-- what is answered of a step
abbrev pub taken_of : Step → Taken
taken_of s =
    taken s.number s.place
    (record { clock = s.clock; done = s.marks.done; minutes = s.marks.minutes; calls = s.marks.calls })

-- one event: the next board, or a number with the record beside it and the same board
abbrev pub taken_by : Links → Board → Windows → List ℕ → Taken
taken_by l b w s = taken_of (taking.step_by l b.clock (marks_of b) w s)

-- the set of the event s fits where its number is 0
abbrev pub SetFits : Links → Board → Windows → List ℕ → Type 0
SetFits l b w s = taking.SetFits l b.clock b.done b.minutes w s
