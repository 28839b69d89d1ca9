-- Document 02, §11 with §9: a plan and the lighter plan that is made of it have the same good sheets, and the engine lets the same
-- sheets through for both. Its windows can be wider at times, since a record that is gone says nothing, but what it lets through in the
-- end is the same. Assumes nothing.
use Rattle.std.specs.Prelude.{◌↔◌, ℕ}
use Rattle.plan.specs.declared.Plan.{Plan}
use Rattle.promise.specs.GoodSheets.{GoodSheet, LetThrough}

pub record SameSheets (p q : Plan) : Type 0 where
  -- any minutes and durations are a good sheet of the one exactly where they are one of the other
  pub good : (ω g : ℕ → ℕ) → GoodSheet p ω g ↔ GoodSheet q ω g
  -- accepted events of the one reach a board that shows the minutes g exactly where events of the other do
  pub through : (g : ℕ → ℕ) → LetThrough p g ↔ LetThrough q g
