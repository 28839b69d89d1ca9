-- What one turn does for a test of every point and of every record, and for the largest minute of some points. Assumes nothing.
use mathlib.Core.Path.{◌≡◌, refl}
use mathlib.Core.Bool.{Bool, true, false, not, ◌&&◌, ◌||◌}
use mathlib.Core.List.{List, [], ◌∷◌}
use Prim.Native.Nat.{ℕ, suc, ◌+◌, ◌-◌, ◌≤◌, ◌<◌, min, max}
use native.Mathlib.Omega.{arith}
use native.Mathlib.Numerals.{add-one}
use lib.ListN.{length, drop, get_or, drop_of_length-le}
use lib.Seq.{drop-cons}
use Rattle.points.specs.Sets.{from, every}
use Rattle.plan.specs.Limits.{most_records}
use Rattle.plan.specs.APlan.{some, blank, records_of}
use Rattle.plan.proofs.Records.{next_record, last_record}
use Rattle.records.specs.declared.Record.{Record}
use Rattle.plan.specs.declared.Plan.{Plan}
use Rattle.history.specs.History.{minute_in, each, largest}

-- the points from i up to n
module _ (test : ℕ → Bool) (n i : ℕ) where
  abbrev to_go : Bool
  to_go = every test (from i (n - i))

  more_to_go : i < n → n - i ≡ suc (n - (i + 1))
  more_to_go h = omega arith

  pub points_fails : i < n → test i ≡ false → false ≡ to_go
  unfolding every from
  points_fails h e = rw (more_to_go h, e)

  pub points_turn : i < n → test i ≡ true → to_go ≡ every test (from (i + 1) (n - (i + 1)))
  unfolding every from
  points_turn h e = rw (more_to_go h, e, add-one i)

  pub points_end : n ≤ i → true ≡ to_go
  unfolding every from
  points_end h = let z : n - i ≡ 0 = omega arith in rw z

-- a loop that asks of each of the n records of a plan whether it is so: from place i on they give the answer
pub record Left (so : Record → Bool) (p : Plan) (n i : ℕ) : Type 0 where
  pub within : i ≤ n
  pub all : n ≡ min p.count most_records
  pub room : length p.records ≡ most_records
  pub same : each so (drop i (records_of p)) ≡ each so (records_of p)

module _ (so : Record → Bool) (p : Plan) (n : ℕ) where
  pub left_start : n ≡ min p.count most_records → length p.records ≡ most_records → Left so p n 0
  left_start all room = record { within = omega arith; all = all; room = room; same = refl }

  module _ (i : ℕ) (w : Left so p n i) where
    pub left_fails : i < n → so (get_or p.records i blank) ≡ false → false ≡ each so (records_of p)
    unfolding each
    left_fails h e =
        let r = next_record p w.room n w.all i h in
        rw (drop-cons (records_of p) i blank r.0, r.1, e) at w.same

    pub left_turn : i < n → so (get_or p.records i blank) ≡ true → Left so p n (i + 1)
    unfolding each
    left_turn h e =
        let r = next_record p w.room n w.all i h in
        record { within = omega arith; all = w.all; room = w.room; same = rw (add-one i) (rw (drop-cons (records_of p) i blank r.0, r.1, e) at w.same) }

    pub left_end : n ≤ i → true ≡ each so (records_of p)
    unfolding each
    left_end h = rw (drop_of_length-le (records_of p) (last_record p w.room n w.all i h)) at w.same

-- none of the records is so
pub none_so : (so : Record → Bool) (rs : List Record) → each (λ (r : Record). not (so r)) rs ≡ not (some so rs)
unfolding each some
none_so so [] = refl
none_so so (r ∷ rs) = rw (none_so so rs) (go (so r))
  where
    go : (b : Bool) → (not b && not (some so rs)) ≡ not (b || some so rs)
    go true = refl
    go false = refl

-- the largest minute
module _ (minutes : List ℕ) (n : ℕ) {left : List ℕ} where
  -- with the next of the points that are left
  pub largest_more : {p : ℕ} {rest : List ℕ} → left ≡ p ∷ rest → max n (largest minutes left) ≡ max (max n (minute_in minutes p)) (largest minutes rest)
  unfolding largest
  largest_more e = rw e (omega arith)

  -- none is left
  pub largest_none : left ≡ [] → n ≡ max n (largest minutes left)
  unfolding largest
  largest_none e = rw e (omega arith)
