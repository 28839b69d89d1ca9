-- What the functions behind `read` compute. A reader of the rules can leave this page out: the open functions' contracts do not cite
-- it. Assumes nothing.
use Rattle.std.specs.Prelude.{not, ◌&&◌, ◌||◌, List, [], ◌∷◌, ℕ, suc, eqb, ltb, if◌then◌else◌}
use Rattle.records.specs.declared.Record.{Record}
use Rattle.plan.specs.PlanFile.{Entry, entries_in}
use Rattle.plan.specs.ReplyNumbers.{refusal}
use Rattle.plan.specs.Inside.{whats}
use Rattle.plan.specs.declared.Refusal.{Refusal}

-- the first n records of a file
abbrev pub records_in : ℕ → List ℕ → List Record
records_in n s = whats (entries_in n s)

-- where the first entry stands whose byte 3 is not zero; how many there are, where there is none
unfoldable pub first_odd : List Entry → ℕ
first_odd [] = 0
first_odd (e ∷ es) = if eqb e.reserved 0 then suc (first_odd es) else 0

-- what is refused first, where f would be if every byte 3 were zero, and the first that is not stands at the place `odd`
abbrev pub with_odd : ℕ → Refusal → Refusal
with_odd odd f =
    if not (eqb f.number 0) && (ltb f.place odd || (eqb f.place odd && ltb f.number 7)) then f
    else refusal 7 odd
