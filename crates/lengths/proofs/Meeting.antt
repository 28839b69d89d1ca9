-- The least way of negative edges and then others, by the point where it turns. Assumes nothing.
use mathlib.Core.Path.{◌≡◌, refl, sym, ◌∙◌}
use mathlib.Core.Bool.{Bool, true, false}
use mathlib.Core.List.{List}
use Prim.Native.Nat.{ℕ, min, ◌+◌, ◌-◌, ◌<◌, ◌≤◌}
use native.Mathlib.Omega.{arith}
use native.Mathlib.Decide.{ℕ_discrete, dec_lt}
use borrow.Author.Tests.{ltb-true, lt-ltb, le-ltb}
use Rattle.network.specs.Walks.{Negative, NonNegative, Vee, vee}
use Rattle.network.proofs.Laws.{over, not_both}
use Rattle.tables.specs.declared.table.Part.{Part}
use Rattle.tables.specs.declared.table.Part.TheVariants.{Falling, Rising}
use Rattle.tables.specs.Entries.{raw, at, nowhere}
use Rattle.tables.specs.Steps.{PartOf}
use Rattle.tables.specs.Distances.{Distances}
use Rattle.tables.proofs.Widths.{wide_in, finite, wide_there}
use Rattle.rows.specs.Sheet.{SheetEdge}
use Rattle.rows.specs.Filled.{Filled}
use Rattle.rows.proofs.Lays.{inside}
use Rattle.projection.proofs.Laws.{ends, same_distances}
use Rattle.projection.proofs.Judges.{part_cycle, rising_edges}
use Rattle.lengths.specs.declared.Length.{Length}
use Rattle.std.specs.Prelude.{Option, None, Some}
use Rattle.lengths.specs.Lengths.{length_of, Least, nothing, least}
use Rattle.lengths.specs.Meets.{never, together, length_from, MeetAsks, Through, Met, AllowAsks}

-- two that are there, and others
together_there : (a b : ℕ) → a < nowhere → b < nowhere → together a b ≡ a + b
together_there a b h k = rw (lt-ltb a nowhere h, lt-ltb b nowhere k) refl

pub both_there : (a b : ℕ) → a < nowhere → b < nowhere → a + b ≡ together a b
both_there a b h k = sym (together_there a b h k)

pub both_first : (a b : ℕ) → nowhere ≤ a → never ≡ together a b
both_first a b h = rw (le-ltb a nowhere h) refl

pub both_second : (a b : ℕ) → a < nowhere → nowhere ≤ b → never ≡ together a b
both_second a b h k = rw (lt-ltb a nowhere h, le-ltb b nowhere k) refl

-- ---- the loop

pub record Meeting (n : ℕ) (g r : List ℕ) (x y k best : ℕ) : Type 0 where
  pub asks : MeetAsks n x y
  pub within : k ≤ n
  pub met : Met k g r x y best

pub meeting_none : {n x y : ℕ} (g r : List ℕ) → MeetAsks n x y → Meeting n g r x y 0 never
meeting_none g r a = record { asks = a; within = omega arith; met = record { most = omega arith; real = λ h. absurd (omega arith); low = λ M h. absurd (omega arith) } }

module _ {n : ℕ} {g r : List ℕ} {x y k best : ℕ} (f : Meeting n g r x y k best) where
  pub meeting_more : k < n → {v best' : ℕ} → v ≡ together (raw g x k) (raw r k y) → best' ≡ min best v → Meeting n g r x y (k + 1) best'
  meeting_more l {v} {best'} ev eb = record { asks = f.asks; within = omega arith; met = go (dec_lt (raw g x k) nowhere) (dec_lt (raw r k y) nowhere) }
    where
      was : {w : ℕ} → Through k g r x y w → Through (k + 1) g r x y w
      was t = record { M = t.M; inside = omega (arith, t.inside); falls = t.falls; rises = t.rises; sum = t.sum }

      -- it is there, and may be the least
      with_it : raw g x k < nowhere → raw r k y < nowhere → v ≡ raw g x k + raw r k y → Met (k + 1) g r x y best'
      with_it h i e = record {
        most = omega (arith, f.met.most);
        real = λ j. elim (dec_lt best v) [
          | yes o ↦ let z : best' ≡ best = omega arith in rw z (was (f.met.real (omega arith)))
          | no o ↦ record { M = k; inside = omega arith; falls = h; rises = i; sum = omega arith }
        ];
        low = λ M j a b. elim (ℕ_discrete M k) [
          | yes q ↦ rw q (omega arith)
          | no q ↦ omega (arith, f.met.low M (omega arith) a b)
        ];
      }

      -- it is not there
      without : v ≡ never → (raw g x k < nowhere → raw r k y < nowhere → ⊥) → Met (k + 1) g r x y best'
      without e no_way =
          let z : best' ≡ best = omega (arith, f.met.most) in
          rw z (record {
            most = f.met.most;
            real = λ j. was (f.met.real j);
            low = λ M j a b. elim (ℕ_discrete M k) [
              | yes q ↦ absurd (no_way (rw q at a) (rw q at b))
              | no q ↦ f.met.low M (omega arith) a b
            ];
          })

      go : Dec (raw g x k < nowhere) → Dec (raw r k y < nowhere) → Met (k + 1) g r x y best'
      go (yes h) (yes i) = with_it h i (ev ∙ together_there (raw g x k) (raw r k y) h i)
      go (yes h) (no i) = without (ev ∙ sym (both_second (raw g x k) (raw r k y) h (omega arith))) (λ a b. i b)
      go (no h) i = without (ev ∙ sym (both_first (raw g x k) (raw r k y) (omega arith))) (λ a b. h a)

  pub meeting_all : n ≤ k → Met n g r x y best
  meeting_all h = let e : k ≡ n = omega (arith, f.within) in rw e at f.met

-- ---- what is met is the least way

module _ {s w : List ℕ} {m n x y : ℕ} (a : AllowAsks s w m n x y) where
  pub allow_meets : MeetAsks n x y
  allow_meets = record { few = a.ready.few; from = omega (arith, a.from, a.ready.few); to = omega (arith, a.to, a.ready.few) }

  module _ {b : Part} {t : List ℕ} where
    part_of : (r : Bool) → Filled b s w m n t r → Distances (PartOf b (SheetEdge s w m)) n (at t)
    part_of true f = f.verdict.0
    part_of false f = absurd (not_both (SheetEdge s w m) a.consistent (part_cycle f.verdict))

  module _ {g r : List ℕ} {p q : Bool} (fg : Filled Falling s w m n g p) (fr : Filled Rising s w m n r q) where
    falls : Distances (Negative (SheetEdge s w m)) n (at g)
    falls = same_distances (λ X Y u d e. record { edge = e.edge; below = ltb-true u d e.taken }) (λ X Y u d e. record { edge = e.edge; taken = lt-ltb u d e.below }) (part_of p fg)

    rises : Distances (NonNegative (SheetEdge s w m)) n (at r)
    rises = rising_edges (part_of q fr)

    module _ {v : ℕ} (t : Met n g r x y v) where
      -- every such walk is at least as long
      over_it : {u d : ℕ} → Vee (SheetEdge s w m) x y u d → (v < never) × (v + d ≤ nowhere + u)
      over_it (vee {M = M} {u = u} {d = d} {u' = u'} {d' = d'} f h) =
          let i : M < n = ends (SheetEdge s w m) n (inside a.ready (omega arith)) a.from (over (λ X Y u d e. e.edge) f) in
          let k = falls.least x M u d a.from f in
          let l = rises.least M y u' d' i h in
          let kg = finite (raw g x M) k.0 in
          let lr = finite (raw r M y) l.0 in
          omega (arith, k.1, l.1, wide_in (raw g x M) kg, wide_in (raw r M y) lr, t.low M i kg lr)

      pub allowed_is : {z : Option Length} → z ≡ length_from v → Least (Vee (SheetEdge s w m) x y) z
      allowed_is e = elim (dec_lt v never) [
        | yes h ↦ rw (e, lt-ltb v never h) (real (t.real h))
        | no h ↦ rw (e, le-ltb v never (omega arith)) (nothing (λ u d c. omega (arith, over_it c)))
      ]
        where
          real : Through n g r x y v → Least (Vee (SheetEdge s w m) x y) (Some (length_of v nowhere))
          real o =
              let k = falls.real x o.M a.from o.inside (wide_there (raw g x o.M) o.falls) in
              let l = rises.real o.M y o.inside a.to (wide_there (raw r o.M y) o.rises) in
              let c : v + (k.down + l.down) ≡ nowhere + (k.up + l.up) = omega (arith, o.sum, k.weight, l.weight, wide_in (raw g x o.M) o.falls, wide_in (raw r o.M y) o.rises) in
              let eu : v - nowhere ≡ (k.up + l.up) - (k.down + l.down) = omega arith in
              let ed : nowhere - v ≡ (k.down + l.down) - (k.up + l.up) = omega arith in
              rw (eu, ed) (least (vee k.walk l.walk) (λ u d c. omega (arith, over_it c)))

-- what the sum of two stands for
pub length_there : (v : ℕ) {z : Length} → v < never → z ≡ length_of v nowhere → Some z ≡ length_from v
length_there v h e = rw (lt-ltb v never h, e) refl

pub length_none : (v : ℕ) → never ≤ v → None ≡ length_from v
length_none v h = rw (le-ltb v never h) refl
