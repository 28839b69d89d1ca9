-- The end of the text: what stands behind the last CR LF is no line, one that is broken, or one as any other. Assumes nothing.
use mathlib.Core.Path.{◌≡◌, ◌∙◌}
use mathlib.Core.Bool.{Bool, true, false, ◌&&◌, ◌||◌, not}
use Prim.Native.Nat.{ℕ, ◌%◌}
use lib.Dec.{eqb}
use lib.ListN.{set}
use borrow.Author.Tests.{not-true, not-false}
use Rattle.records.specs.Limits.{most_records}
use Rattle.records.specs.declared.Record.{Record}
use Rattle.fields.specs.Inside.{is_at_begin, may_end}
use Rattle.std.specs.Prelude.{Result, Ok, Err}
use Rattle.office_text.specs.Feeding.{line_by, line_begins, stopped, counted, cells_with, lined, last_of}
use Rattle.office_text.specs.declared.Feeding.{Feeding}

-- t says whether a field begins there
module _ (f : Feeding) (t : Bool) (is : t ≡ is_at_begin f.spot) where
  abbrev test : Bool
  test = not (eqb f.number 0) || (t && eqb f.commas 0)

  pub last_done : test ≡ true → f ≡ last_of f
  unfolding last_of
  last_done e = rw (rw is at e)

  module _ (e : test ≡ false) (m : Bool) (may : m ≡ may_end f.spot) where
    pub last_broken : not m ≡ true → (g : Feeding) → g ≡ stopped 40 f.lines → g ≡ last_of f
    unfolding last_of
    last_broken h g x = x ∙ rw (rw is at e, rw may at (not-true m h))

    module _ (h : not m ≡ false) (l : Result Record ℕ) (by : l ≡ line_by f.commas (cells_with f.commas f.cells f.spot.seen)) where
      line : lined f.lines f.records l ≡ last_of f
      unfolding last_of
      line = rw (rw is at e, rw may at (not-false m h), by)

      pub last_bad : (n : ℕ) → l ≡ Err n → (g : Feeding) → g ≡ stopped n f.lines → g ≡ last_of f
      last_bad n z g x = x ∙ rw z at line

      pub last_good : (r : Record) → l ≡ Ok r → (n : ℕ) → n ≡ counted f.lines → (g : Feeding) → g ≡ line_begins n (set f.records (f.lines % most_records) r) → g ≡ last_of f
      last_good r z n y g x = x ∙ rw y (rw z at line)
