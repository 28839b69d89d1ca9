-- The drives of a sheet's links, row by row, and the sum of a way's steps. Assumes nothing.
use mathlib.Core.Path.{◌≡◌, refl, sym, ap, ◌∙◌}
use mathlib.Core.List.{List, [], ◌∷◌, ◌++◌}
use Prim.Native.Nat.{ℕ, suc, ◌+◌, ◌-◌, ◌*◌, ◌<◌, ◌≤◌}
use native.Mathlib.Omega.{arith}
use native.Mathlib.Decide.{ℕ_discrete}
use native.Mathlib.Numerals.{add-one}
use lib.Dec.{eqb}
use lib.ListN.{length, get_or, set, take, replicate, length-append}
use lib.Seq.{set_at, append_snoc, take-suc}
use borrow.Author.Tests.{ne_eqb}
use Rattle.plan.specs.Limits.{farthest}
use Rattle.tables.specs.Tables.{side}
use Rattle.rows.specs.declared.sheet.Row.{Row}
use Rattle.rows.specs.Sheet.{by, row_at, kind_at, from_at, over_at}
use Rattle.ways.specs.declared.steps.Step.{Step}
use Rattle.ways.specs.Steps.{ups, downs, no_step}
use Rattle.ways.proofs.Laws.{ups_more, downs_more}
use Rattle.explained.specs.declared.drives.Drive.{Drive}
use Rattle.explained.specs.declared.drives.Drives.{Drives}
use Rattle.explained.specs.Drives.{before, no_drive, drives_as, drives_from, with_drive, DriveAsks, most_links}
use Rattle.explained.specs.Reasons.{SumAsks}

-- ---- one row

pub with_other : (ds : Drives) (r : Row) (p : ℕ) → (r.kind ≡ 2 → ⊥) → ds ≡ with_drive ds r p
with_other ds r p n = rw (ne_eqb r.kind 2 n) refl

pub with_link : (ds : Drives) (r : Row) (p : ℕ) → r.kind ≡ 2 → record { count = ds.count + 1; list = set ds.list ds.count (record { from = r.from; to = r.over; minutes = p }) } ≡ with_drive ds r p
with_link ds r p k = rw k refl

-- the next place of a list that is filled from the front
stored : {A : Type 0} (xs : List A) (i m : ℕ) (v z : A) → length xs ≡ i → i < m → set (xs ++ replicate (m - i) z) i v ≡ (xs ++ (v ∷ [])) ++ replicate (m - (i + 1)) z
stored xs i m v z n h =
    let e : m - i ≡ suc (m - (i + 1)) = omega arith in
    rw e (set_at xs z (replicate (m - (i + 1)) z) v i n ∙ sym (append_snoc xs v (replicate (m - (i + 1)) z)))

-- ---- all rows

pub record Driving (s w : List ℕ) (m : ℕ) (drives : Drives) (q : ℕ) : Type 0 where
  pub asks : DriveAsks s w m
  pub within : q ≤ m
  pub so_far : List Drive
  pub is : drives ≡ drives_as so_far
  pub rest : so_far ++ drives_from s w q (m - q) ≡ drives_from s w 0 m

pub driving_none : {s w : List ℕ} {m : ℕ} {drives : Drives} → DriveAsks s w m → drives ≡ drives_as [] → Driving s w m drives 0
driving_none {m = m} a e = let z : m - 0 ≡ m = omega arith in record { asks = a; within = omega arith; so_far = []; is = e; rest = rw z refl }

module _ {s w : List ℕ} {m : ℕ} {drives : Drives} {q : ℕ} (f : Driving s w m drives q) where
  pub driving_all : m ≤ q → drives ≡ drives_as (drives_from s w 0 m)
  unfolding drives_from
  driving_all h =
      let z : m - q ≡ 0 = omega arith in
      f.is ∙ ap drives_as (sym (append_nil f.so_far) ∙ rw z at f.rest)
    where
      append_nil : (xs : List Drive) → xs ++ [] ≡ xs
      append_nil [] = refl
      append_nil (x ∷ xs) = ap (λ (r : List Drive). x ∷ r) (append_nil xs)

  module _ (l : q < m) {r : Row} (er : r ≡ row_at s q) where
    here : Drive
    here = record { from = from_at s q; to = over_at s q; minutes = by w (over_at s q) }

    next : drives_from s w q (m - q) ≡ before (eqb (kind_at s q) 2) (record { from = from_at s q; to = over_at s q; minutes = by w (over_at s q) }) (drives_from s w (q + 1) (m - (q + 1)))
    unfolding drives_from
    next =
        let e : m - q ≡ suc (m - (q + 1)) = omega arith in
        let g : q + 1 ≡ suc q = omega arith in
        rw (e, g) refl

    link_next : kind_at s q ≡ 2 → f.so_far ++ ((record { from = from_at s q; to = over_at s q; minutes = by w (over_at s q) }) ∷ drives_from s w (q + 1) (m - (q + 1))) ≡ drives_from s w 0 m
    link_next k = rw (next, k) at f.rest

    pub driving_room : r.kind ≡ 2 → drives.count < most_links
    driving_room k =
        let k' : kind_at s q ≡ 2 = rw er at k in
        omega (arith, ap (λ (d : Drives). d.count) f.is, ap length (link_next k'), length-append f.so_far ((record { from = from_at s q; to = over_at s q; minutes = by w (over_at s q) }) ∷ drives_from s w (q + 1) (m - (q + 1))), f.asks.few)

    pub driving_more : {p : ℕ} {drives' : Drives} → p ≡ by w r.over → drives' ≡ with_drive drives r p → Driving s w m drives' (q + 1)
    driving_more {p} {drives'} ep ed = elim (ℕ_discrete (kind_at s q) 2) [
      | yes k ↦ a_link_lem k
      | no k ↦ another k
    ]
      where
        p_is : p ≡ by w (over_at s q)
        p_is = rw er at ep

        d_is : drives' ≡ with_drive drives (row_at s q) (by w (over_at s q))
        d_is = rw (er, p_is) at ed

        a_link_lem : kind_at s q ≡ 2 → Driving s w m drives' (q + 1)
        a_link_lem k =
            let room : length f.so_far < most_links = omega (arith, ap (λ (d : Drives). d.count) f.is, driving_room (rw er k)) in
            let d : Drive = record { from = from_at s q; to = over_at s q; minutes = by w (over_at s q) } in
            let g : length (f.so_far ++ (d ∷ [])) ≡ length f.so_far + 1 = length-append f.so_far (d ∷ []) in
            record {
              asks = f.asks;
              within = omega arith;
              so_far = f.so_far ++ (d ∷ []);
              is = d_is ∙ rw (k, f.is, g, stored f.so_far (length f.so_far) most_links d no_drive refl room) refl;
              rest = append_snoc f.so_far d (drives_from s w (q + 1) (m - (q + 1))) ∙ link_next k;
            }

        another : (kind_at s q ≡ 2 → ⊥) → Driving s w m drives' (q + 1)
        another n =
            record {
              asks = f.asks;
              within = omega arith;
              so_far = f.so_far;
              is = d_is ∙ rw (ne_eqb (kind_at s q) 2 n) f.is;
              rest = rw (next, ne_eqb (kind_at s q) 2 n) at f.rest;
            }

-- ---- the sum

pub record Summing (count : ℕ) (steps : List Step) (k up down : ℕ) : Type 0 where
  pub asks : SumAsks count steps
  pub within : k ≤ count
  pub ups_are : up ≡ ups (take k steps)
  pub downs_are : down ≡ downs (take k steps)
  pub up_few : up ≤ k * farthest
  pub down_few : down ≤ k * farthest

pub summing_none : {count : ℕ} {steps : List Step} → SumAsks count steps → Summing count steps 0 0 0
unfolding ups downs
summing_none a = record { asks = a; within = omega arith; ups_are = refl; downs_are = refl; up_few = omega arith; down_few = omega arith }

module _ {count : ℕ} {steps : List Step} {k up down : ℕ} (f : Summing count steps k up down) where
  module _ (l : k < count) where
    pub summing_there : (k < side) × (up ≤ side * farthest) × (down ≤ side * farthest) × ((get_or steps k no_step).up ≤ farthest) × ((get_or steps k no_step).down ≤ farthest)
    summing_there =
        let a = f.asks.few in
        (omega arith, omega (arith, f.up_few), omega (arith, f.down_few), f.asks.up k l, f.asks.down k l)

    one_more : take (k + 1) steps ≡ take k steps ++ (get_or steps k no_step ∷ [])
    one_more = rw (add-one k) (take-suc steps k no_step (omega (arith, f.asks.few, f.asks.long)))

    pub summing_more : {e : Step} {up' down' : ℕ} → e ≡ get_or steps k no_step → up' ≡ up + e.up → down' ≡ down + e.down → Summing count steps (k + 1) up' down'
    summing_more {e} ee eu ed =
        let a = summing_there in
        let eu' : _ ≡ up + (get_or steps k no_step).up = rw ee at eu in
        let ed' : _ ≡ down + (get_or steps k no_step).down = rw ee at ed in
        record {
          asks = f.asks;
          within = omega arith;
          ups_are = rw one_more (omega (arith, ups_more (take k steps) (get_or steps k no_step), f.ups_are));
          downs_are = rw one_more (omega (arith, downs_more (take k steps) (get_or steps k no_step), f.downs_are));
          up_few = omega (arith, f.up_few);
          down_few = omega (arith, f.down_few);
        }

  pub summing_all : count ≤ k → (up ≡ ups (take count steps)) × (down ≡ downs (take count steps))
  summing_all h = let e : k ≡ count = omega (arith, f.within) in (rw e at f.ups_are, rw e at f.downs_are)
