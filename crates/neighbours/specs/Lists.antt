-- The lists of the records by a key: where each list starts and where each entry goes on. A reader of the rules can leave this page
-- out. Assumes nothing.
use Rattle.std.specs.Prelude.{◌≡◌, Bool, List, [], ◌∷◌, ℕ, zero, suc, ◌+◌, ◌-◌, ◌%◌, ◌<◌, ◌≤◌, max, eqb, ltb, length, get_or, if◌then◌else◌}
use Rattle.plan.specs.Limits.{most_points, most_records}
use Rattle.rows.specs.Sheet.{kind_at, field}
use Rattle.neighbours.specs.declared.Walk.{Walk}

-- a list for each point, and one for the records that are in no point's
abbrev pub buckets : ℕ
buckets = most_points + 1

abbrev pub list_room : ℕ
list_room = buckets + most_records

-- the list of a row of some kind and point, where the kinds below `least` are in no point's
abbrev pub key_of : ℕ → ℕ → ℕ → ℕ
key_of least kind point = if ltb kind least then most_points else point % buckets

-- the list of row i by its field f
abbrev pub key_at : List ℕ → ℕ → ℕ → ℕ → ℕ
key_at rows least f i = key_of least (kind_at rows i) (field rows i f)

-- the first of the n places from i on whose key is z, and the room's end where there is none
unfoldable pub first_key : (ℕ → ℕ) → ℕ → ℕ → ℕ → ℕ
first_key key z i zero = most_records
first_key key z i (suc n) = if eqb (key i) z then i else first_key key z (suc i) n

-- all of them, in order
unfoldable pub places_of : (ℕ → ℕ) → ℕ → ℕ → ℕ → List ℕ
places_of key z i zero = []
places_of key z i (suc n) = if eqb (key i) z then i ∷ places_of key z (suc i) n else places_of key z (suc i) n

-- each list starts at its first key, and goes on from each entry to the next of the same key
pub record Indexed (key : ℕ → ℕ) (count : ℕ) (list : List ℕ) : Type 0 where
  pub long : length list ≡ list_room
  pub firsts : (z : ℕ) → z < buckets → get_or list z 0 ≡ first_key key z 0 count
  pub nexts : (i : ℕ) → i < count → get_or list (buckets + i) 0 ≡ first_key key (key i) (suc i) (count - suc i)
  pub rest : (i : ℕ) → count ≤ i → i < most_records → get_or list (buckets + i) 0 ≡ most_records

-- ---- a walk along a list, of any numbers

abbrev pub start_of : List ℕ → ℕ → ℕ
start_of list z = get_or list (z % buckets) 0

-- the entries from i on, at most f of them
unfoldable pub chain : ℕ → List ℕ → ℕ → List ℕ
chain zero list i = []
chain (suc f) list i = if ltb i most_records then i ∷ chain f list (get_or list (buckets + i) 0) else []

-- all entries of z
abbrev pub entries_of : List ℕ → ℕ → List ℕ
entries_of list z = chain most_records list (start_of list z)

-- what a walk has still ahead of it
abbrev pub still_ahead : Walk → List ℕ
still_ahead e = chain e.left e.list.now e.at

-- ---- what a walk does

-- a change for each of the entries
unfoldable pub over : (List ℕ → ℕ → List ℕ) → List ℕ → List ℕ → List ℕ
over by kept [] = kept
over by kept (i ∷ is) = over by (by kept i) is

-- the largest of what the entries give
unfoldable pub top_at : (ℕ → ℕ) → List ℕ → ℕ
top_at val [] = 0
top_at val (i ∷ is) = max (val i) (top_at val is)

-- the first of the entries that is so, 0 where none is
unfoldable pub first_at : (ℕ → Bool) → List ℕ → ℕ
first_at so [] = 0
first_at so (i ∷ is) = if so i then i else first_at so is
