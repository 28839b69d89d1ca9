-- Document 01, numbers 25 and 26, on plain values: rs are a plan's records, `done` the set of done points and `minutes` the
-- minute of each. `board` says the same words of a board. Assumes nothing.
use Rattle.std.specs.Prelude.{Bool, ◌&&◌, List, ℕ, ◌+◌, leb}
use Rattle.plan.specs.APlan.{watched, link_to}
use Rattle.records.specs.declared.Record.{Record}
use Rattle.history.specs.History.{minute_in, shortest, longest, runs}

-- 25: the point c ends a running link
abbrev pub ends_running : List Record → ℕ → ℕ → Bool
ends_running rs done c = watched rs c && runs done (link_to rs c)

-- 26: at minute t the link that ends at c is within its x to y
abbrev pub in_time : List Record → List ℕ → ℕ → ℕ → Bool
in_time rs minutes t c =
    leb (minute_in minutes (link_to rs c).a + shortest (link_to rs c)) t && leb t (minute_in minutes (link_to rs c).a + longest (link_to rs c))
