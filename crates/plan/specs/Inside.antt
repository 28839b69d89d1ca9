-- What the functions behind `check` and the counts compute. A reader of the rules can leave this page out: the open
-- functions' contracts do not cite it. Assumes nothing.
use Rattle.std.specs.Prelude.{Bool, List, map, ℕ, eqb}
use Rattle.records.specs.declared.Record.{Record}
use Rattle.plan.specs.PlanFile.{Entry}

-- the records of entries
abbrev pub whats : List Entry → List Record
whats es = map (λ (e : Entry). e.what) es

-- r has the byte k for its kind
abbrev pub of_byte : ℕ → Record → Bool
of_byte k r = eqb r.kind k
