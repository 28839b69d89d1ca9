-- What the functions that find the least way ask and do. A reader of the rules can leave this page out. Assumes nothing.
use Rattle.std.specs.Prelude.{◌≡◌, ◌&&◌, List, ℕ, ◌+◌, ◌<◌, ◌≤◌, ltb, if◌then◌else◌, Option, None, Some}
use Rattle.network.specs.Passing.{Consistent}
use Rattle.tables.specs.Tables.{side}
use Rattle.tables.specs.Entries.{raw, nowhere}
use Rattle.rows.specs.Sheet.{SheetEdge, SheetReady}
use Rattle.lengths.specs.declared.Length.{Length}
use Rattle.lengths.specs.Lengths.{length_of}

abbrev pub never : ℕ
never = 4294967296

-- a distance and another after it, as tables have them
abbrev pub together : ℕ → ℕ → ℕ
together a b = if ltb a nowhere && ltb b nowhere then a + b else never

-- what two together stand for
abbrev pub length_from : ℕ → Option Length
length_from v = if ltb v never then Some (length_of v nowhere) else None

pub record MeetAsks (n x y : ℕ) : Type 0 where
  pub few : n ≤ side
  pub from : x < side
  pub to : y < side

-- some M below n has a way down to it and a way up from it that come to v
pub record Through (n : ℕ) (g r : List ℕ) (x y v : ℕ) : Type 0 where
  pub M : ℕ
  pub inside : M < n
  pub falls : raw g x M < nowhere
  pub rises : raw r M y < nowhere
  pub sum : v ≡ raw g x M + raw r M y

-- v is the least that such come to
pub record Met (n : ℕ) (g r : List ℕ) (x y v : ℕ) : Type 0 where
  pub most : v ≤ never
  pub real : v < never → Through n g r x y v
  pub low : (M : ℕ) → M < n → raw g x M < nowhere → raw r M y < nowhere → v ≤ raw g x M + raw r M y

-- the edges of a sheet's rows at some durations, without a cycle of negative sum
pub record AllowAsks (s w : List ℕ) (m n x y : ℕ) : Type 0 where
  pub ready : SheetReady s w m n
  pub consistent : Consistent (SheetEdge s w m)
  pub from : x < n
  pub to : y < n
