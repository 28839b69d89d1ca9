-- The worst of a list of finishing minutes: none is larger, one is as large, and none before that one. Assumes nothing.
use mathlib.Core.Path.{◌≡◌, refl, ap}
use mathlib.Core.Logic.{◌⊎◌, inl, inr}
use mathlib.Core.Bool.{Bool, true, false}
use mathlib.Core.List.{List, [], ◌∷◌}
use Prim.Native.Nat.{ℕ, zero, suc, ◌+◌, ◌≤◌, ◌<◌}
use native.Mathlib.Omega.{arith}
use lib.Dec.{ltb}
use lib.ListN.{length, get_or}
use borrow.Author.Tests.{ltb-true, ltb-false}
use Rattle.std.specs.Prelude.{if◌then◌else◌}
use Rattle.plan.specs.APlan.{records_of}
use Rattle.plan.specs.declared.Plan.{Plan}
use Rattle.vee.specs.PlanTest.{spans, unset, many}
use Rattle.vee.proofs.Walks.{as_many}
use Rattle.vee.proofs.Yes.{Every, none, also}
use Rattle.vee.proofs.Numbered.{every_at}
use Rattle.worst.specs.WorstMinute.{projections_of, finishing, Finish, worst_from, worst_of_all}
use Rattle.worst.specs.Promises.{projection_at, IsWorst}

module _ (p : Plan) where
  -- the one of ws, the first of them number i, that is worse than what was found before
  record Worst (found : Finish) (i : ℕ) (ws : List (List ℕ)) (r : Finish) : Type 0 where
    place : ℕ
    listed : place < length ws
    number : r.projection ≡ i + place
    reached : finishing p (get_or ws place []) ≡ r.minute
    before : (j : ℕ) → j < place → finishing p (get_or ws j []) < r.minute
    more : found.minute < r.minute

  -- what is found after ws: no less than before and than each of ws; and either what was found before, or one of ws
  record Searched (found : Finish) (i : ℕ) (ws : List (List ℕ)) (r : Finish) : Type 0 where
    no_less : found.minute ≤ r.minute
    each : Every (λ w. finishing p w ≤ r.minute) ws
    which : (r ≡ found) ⊎ Worst found i ws r

  searched : (found : Finish) (i : ℕ) (ws : List (List ℕ)) → Searched found i ws (worst_from p found i ws)
  unfolding worst_from
  searched found i [] = record { no_less = omega arith; each = none; which = inl refl }
  searched found i (w ∷ ws) = go (ltb found.minute (finishing p w)) refl (λ f. searched f (suc i) ws)
    where
      here : Finish
      here = record { minute = finishing p w; projection = i }

      -- one of those after w
      later : {r : Finish} (f : Finish) → found.minute ≤ f.minute → finishing p w ≤ f.minute → Worst f (suc i) ws r → Worst found i (w ∷ ws) r
      later {r} f l m s =
          record {
            place = suc s.place;
            listed = omega (arith, s.listed);
            number = omega (arith, s.number);
            reached = s.reached;
            before = before;
            more = omega (arith, s.more);
          }
        where
          before : (j : ℕ) → j < suc s.place → finishing p (get_or (w ∷ ws) j []) < r.minute
          before zero h = omega (arith, s.more)
          before (suc j) h = s.before j (omega arith)

      go : (c : Bool) → ltb found.minute (finishing p w) ≡ c → ((f : Finish) → Searched f (suc i) ws (worst_from p f (suc i) ws))
          → Searched found i (w ∷ ws) (worst_from p (if c then here else found) (suc i) ws)
      go true e on =
          let s = on here in
          let l = ltb-true found.minute (finishing p w) e in
          record {
            no_less = omega (arith, s.no_less);
            each = also s.no_less s.each;
            which =
                elim s.which [
                  | inl k ↦
                      inr (rw k (record {
                        place = 0;
                        listed = omega arith;
                        number = omega arith;
                        reached = refl;
                        before = λ j h. absurd (omega arith);
                        more = l;
                      }))
                  | inr k ↦ inr (later here (omega arith) (omega arith) k)
                ];
          }
      go false e on =
          let s = on found in
          let l = ltb-false found.minute (finishing p w) e in
          record {
            no_less = s.no_less;
            each = also {x = w} (omega (arith, s.no_less)) s.each;
            which = elim s.which [ inl k ↦ inl k | inr k ↦ inr (later found (omega arith) l k) ];
          }

  abbrev begun : Finish
  begun = record { minute = 0; projection = 0 }

  all : Searched begun 0 (projections_of p) (worst_of_all p)
  all = searched begun 0 (projections_of p)

  -- Each projection finishes by the worst minute.
  pub each_by : Every (λ w. finishing p w ≤ (worst_of_all p).minute) (projections_of p)
  each_by = all.each

  -- The worst of all is the largest, and the first that is; where there is a projection.
  pub is_worst : 0 < many (spans (records_of p)) → IsWorst p (worst_of_all p).minute (worst_of_all p).projection
  is_worst some =
      elim all.which [
        | inl k ↦
            let z : (worst_of_all p).minute ≡ 0 = ap (λ (f : Finish). f.minute) k in
            let o : (worst_of_all p).projection ≡ 0 = ap (λ (f : Finish). f.projection) k in
            record {
              largest = largest;
              numbered = omega arith;
              reached = rw o (omega (arith, largest 0 some));
              first = λ j h. absurd (omega arith);
            }
        | inr s ↦
            let n : (worst_of_all p).projection ≡ s.place = omega (arith, s.number) in
            record {
              largest = largest;
              numbered = omega (arith, s.listed, as_many (spans (records_of p)) unset);
              reached = rw n s.reached;
              first = λ j h. s.before j (omega arith);
            }
      ]
    where
      largest : (j : ℕ) → j < many (spans (records_of p)) → finishing p (projection_at p j) ≤ (worst_of_all p).minute
      largest j h = every_at [] each_by j (omega (arith, as_many (spans (records_of p)) unset))
