-- Document 01, "Haul to one pond": the plan of the worked cases, and the plans that differ from it in a record. Assumes
-- nothing.
use Rattle.std.specs.Prelude.{List, [], ◌∷◌, ℕ, ℤ, pos, negsuc}
use Rattle.plan.specs.APlan.{plan_of}
use Rattle.records.specs.declared.Record.{Record}
use Rattle.plan.specs.declared.Plan.{Plan}

abbrev pub a_point : ℕ → Record
a_point i = record { kind = 1; a = i; b = 0; first = pos 0; second = pos 0; code = 0 }

-- (A, x, y, C)
abbrev pub a_link : ℕ → ℕ → ℕ → ℕ → Record
a_link A x y C = record { kind = 2; a = A; b = C; first = pos x; second = pos y; code = 0 }

-- (X, d, Y)
abbrev pub an_ordinary : ℕ → ℤ → ℕ → Record
an_ordinary X d Y = record { kind = 3; a = X; b = Y; first = d; second = pos 0; code = 0 }

-- (V, C, w)
abbrev pub a_wait : ℕ → ℕ → ℕ → Record
a_wait B C w = record { kind = 4; a = B; b = C; first = pos w; second = pos 0; code = 0 }

-- points 0 to 3, link (1, 20, 50, 2), records (1, −10, 0), (2, 5, 3), (3, 15, 2), and what waits there are
abbrev pub haul_with : List Record → List Record
haul_with waits =
    a_point 0
    ∷ a_point 1
    ∷ a_point 2
    ∷ a_point 3
    ∷ a_link 1 20 50 2
    ∷ an_ordinary 1 (negsuc 9) 0
    ∷ an_ordinary 2 (pos 5) 3
    ∷ an_ordinary 3 (pos 15) 2
    ∷ waits

-- wait (3, 2, 35)
abbrev pub haul_records : List Record
haul_records = haul_with (a_wait 3 2 35 ∷ [])

abbrev pub haul : Plan
haul = plan_of haul_records

-- points 0, 1, records (0, −5, 1), (1, −5, 0)
abbrev pub circle : Plan
circle = plan_of (a_point 0 ∷ a_point 1 ∷ an_ordinary 0 (negsuc 4) 1 ∷ an_ordinary 1 (negsuc 4) 0 ∷ [])
