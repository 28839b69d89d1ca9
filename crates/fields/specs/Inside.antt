-- How the functions go over a text, a byte at a time. A reader of the rules can leave this page out: the open functions' contracts do
-- not cite it. Assumes nothing.
use Rattle.std.specs.Prelude.{Bool, true, false, ◌&&◌, not, List, [], ◌∷◌, ℕ, suc, ◌+◌, eqb, if◌then◌else◌}
use Rattle.values.specs.Inside.{fresh, with}
use Rattle.values.specs.declared.Seen.{Seen}
use Rattle.fields.specs.Quoting.{cr, lf, act_of}
use Rattle.fields.specs.declared.Place.{Place}
use Rattle.fields.specs.declared.Place.TheVariants.{Begin, Bare, Quoted, Closed}
use Rattle.fields.specs.declared.Act.{Act}
use Rattle.fields.specs.declared.Act.TheVariants.{Keep, Skip, Cut, Break}
use Rattle.fields.specs.declared.Spot.{Spot}
use Rattle.fields.specs.declared.Step.{Step}
use Rattle.fields.specs.declared.Walk.{Walk}
use Rattle.fields.specs.declared.Step.TheVariants.{On, Comma, Ends, Broken}

-- the byte in front is the CR of a line's end
unfoldable pub ends_line : List ℕ → Bool
ends_line [] = false
ends_line (c ∷ []) = false
ends_line (c ∷ d ∷ s) = eqb c cr && eqb d lf

-- where a field begins
abbrev pub beginning : Spot
beginning = record { place = Begin; seen = fresh; turned = false }

abbrev pub is_begin : Place → Bool
is_begin Begin = true
is_begin Bare = false
is_begin Quoted = false
is_begin Closed = false

-- no byte of the field has come
abbrev pub is_at_begin : Spot → Bool
is_at_begin s = is_begin s.place && not s.turned

-- a line ends: inside quotes that is broken
abbrev pub end_step : Place → Step
end_step Begin = Ends
end_step Bare = Ends
end_step Quoted = Broken
end_step Closed = Ends

-- behind a CR: an LF ends the line
abbrev pub behind_cr : Place → ℕ → Step
behind_cr p c = if eqb c lf then end_step p else Broken

abbrev pub kept : Place → Seen → Bool → Step
kept p s t = On (record { place = p; seen = s; turned = t })

abbrev pub act_step : Act → Seen → ℕ → Step
act_step (Keep p) s c = kept p (with s c) false
act_step (Skip p) s c = kept p s false
act_step Cut s c = Comma
act_step Break s c = Broken

-- what the next byte does
unfoldable pub step_of : Spot → ℕ → Step
step_of s c =
    if s.turned then behind_cr s.place c
    else (if eqb c cr then kept s.place s.seen true
    else act_step (act_of s.place c) s.seen c)

-- the text may end here: not inside quotes, and not behind a CR, which it would leave alone
abbrev pub is_quoted : Place → Bool
is_quoted Begin = false
is_quoted Bare = false
is_quoted Quoted = true
is_quoted Closed = false

abbrev pub may_end : Spot → Bool
may_end s = not (is_quoted s.place) && not s.turned

-- a walk that has come to byte i, and what the byte there does
abbrev pub walk_to : Spot → Step → ℕ → Walk
walk_to s t i = record { spot = s; step = t; next = i }

abbrev pub walked : Step → Spot → ℕ → (Spot → Walk) → Walk
walked (On q) s i go = go q
walked Comma s i go = walk_to s Comma (i + 1)
walked Ends s i go = walk_to s Ends (i + 1)
walked Broken s i go = walk_to s Broken (i + 1)

-- from byte i on, as far as the field goes, or the bytes
unfoldable pub walk_from : Spot → ℕ → List ℕ → Walk
walk_from s i [] = walk_to s (On s) i
walk_from s i (c ∷ t) = walked (step_of s c) s i (λ q. walk_from q (suc i) t)
