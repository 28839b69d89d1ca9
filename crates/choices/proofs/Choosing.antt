-- The durations of a projection by its number, as the loop over the links finds them. Assumes nothing.
use mathlib.Core.Path.{◌≡◌, refl, sym, ap, ◌∙◌}
use mathlib.Core.List.{List}
use Prim.Native.Nat.{ℕ, suc, ◌+◌, ◌-◌, ◌*◌, ◌/◌, ◌%◌, ◌≤◌, ◌<◌}
use native.Mathlib.Omega.{arith}
use native.Mathlib.Decide.{ℕ_discrete}
use native.Mathlib.Nat.{mod-lt, mul-div_right, div-lt_iff_lt-mul, mul-le-mul}
use lib.ListN.{length, set, length-set, length-replicate}
use lib.Seq.{get_or-set_same, get_or-set_other}
use Rattle.plan.specs.Limits.{most_points, most_records, farthest}
use Rattle.tables.specs.Tables.{side}
use Rattle.rows.specs.declared.sheet.Row.{Row}
use Rattle.rows.specs.Sheet.{row_at, second_at, by}
use Rattle.vee.specs.PlanTest.{many, unset, most_projections}
use Rattle.vee.specs.Walked.{spans_in}
use Rattle.vee.proofs.Walks.{unfolded}
use Rattle.vee.proofs.Testing.{nothing_lasts}
use Rattle.choices.specs.Choices.{chosen, ChooseAsks, ChosenAs}
use Rattle.choices.proofs.Decoding.{some_left}

-- the links ahead choose what is left of the number, out of as many projections as they have
pub record Choosing (s : List ℕ) (past links total i : ℕ) (w : List ℕ) (rest left ahead : ℕ) : Type 0 where
  pub asks : ChooseAsks s past links total i
  pub within : ahead ≤ links
  pub wide : length w ≡ side
  pub small : (C : ℕ) → by w C ≤ farthest
  pub counted : rest ≡ many (spans_in s past ahead)
  pub few : rest ≤ most_projections
  pub below : left < rest
  pub same : chosen (spans_in s past ahead) w left ≡ chosen (spans_in s past links) unset i

pub choosing_start : {s : List ℕ} {past links total i : ℕ} → ChooseAsks s past links total i → Choosing s past links total i unset total i links
choosing_start a =
    record {
      asks = a;
      within = omega arith;
      wide = length-replicate {A = ℕ} most_points 0;
      small = nothing_lasts;
      counted = a.counted;
      few = omega (arith, a.counted, a.walk.room);
      below = a.one;
      same = refl;
    }

module _ {s : List ℕ} {past links total i : ℕ} {w : List ℕ} {rest left ahead : ℕ} (c : Choosing s past links total i w rest left ahead) where
  -- the rows are there
  pub row_there : (ahead ≤ past) × (past ≤ most_records)
  row_there = (omega (arith, c.within, c.asks.walk.before), omega (arith, c.asks.walk.rows, c.asks.walk.ready.rows))

  module _ (more : 0 < ahead) {x : Row} (e : x ≡ row_at s (past - ahead)) where
    here : past - ahead < past
    here = omega (arith, row_there.0)

    -- the next link, by its row as the code reads it
    pub link_there : (x.first ≤ x.second) × (x.second ≤ farthest) × (x.over < side)
    link_there =
        let k = c.asks.walk in
        rw e (
          k.some (past - ahead) here (omega (arith, c.within, row_there.0)),
          k.short (past - ahead) here (omega (arith, c.within, row_there.0)),
          k.ready.over (past - ahead) (omega (arith, here, k.rows)),
        )

    abbrev ways : ℕ
    ways = x.second + 1 - x.first

    abbrev after : ℕ
    after = many (spans_in s past (ahead - 1))

    split : many (spans_in s past ahead) ≡ ways * after
    unfolding many
    split =
        let z : suc (second_at s (past - ahead)) ≡ second_at s (past - ahead) + 1 = omega arith in
        rw (unfolded s past ahead more, e, ← z) refl

    module _ {rest' : ℕ} (er : rest' ≡ rest / (x.second + 1 - x.first)) where
      next_rest : rest' ≡ many (spans_in s past (ahead - 1))
      next_rest =
          let l = link_there in
          let z : rest ≡ ways * after = c.counted ∙ split in
          er ∙ rw z (mul-div_right after {m = ways} (omega arith))

      whole : rest ≡ ways * rest'
      whole = c.counted ∙ split ∙ ap (λ (k : ℕ). ways * k) (sym next_rest)

      pub next_some : 0 < rest'
      next_some = some_left ways rest' left (rw (← whole) c.below)

      next_few : rest' ≤ most_projections
      next_few =
          let l = link_there in
          let a : 1 ≤ ways = omega arith in
          let b : rest' ≤ rest' = omega arith in
          let g : 1 * rest' ≤ ways * rest' = mul-le-mul a b in
          omega (arith, whole, c.few, g)

      -- the link's duration is in bounds
      digit : left / rest' < x.second + 1 - x.first
      digit = (div-lt_iff_lt-mul {k = rest'} {x = left} {y = ways} next_some).1 (rw (← whole) c.below)

      pub next_fits : (x.first + left / rest' ≤ x.second) × (x.second ≤ farthest)
      next_fits = (omega (arith, digit, link_there), link_there.1)

      -- the same projection is left
      step : chosen (spans_in s past (ahead - 1)) (set w x.over (x.first + left / rest')) (left % rest') ≡ chosen (spans_in s past ahead) w left
      unfolding chosen
      step = rw (unfolded s past ahead more, next_rest, e) refl

      pub choosing_turn : {left' : ℕ} {w' : List ℕ} → w' ≡ set w x.over (x.first + left / rest') → left' ≡ left % rest'
          → Choosing s past links total i w' rest' left' (ahead - 1)
      choosing_turn ew el =
          rw (ew, el)
          (record {
            asks = c.asks;
            within = omega (arith, c.within);
            wide = length-set w x.over (x.first + left / rest') ∙ c.wide;
            small = small;
            counted = next_rest;
            few = next_few;
            below = mod-lt left next_some;
            same = step ∙ c.same;
          })
        where
          small : (C : ℕ) → by (set w x.over (x.first + left / rest')) C ≤ farthest
          small C =
              elim (ℕ_discrete C x.over) [
                | yes e ↦ rw (e, get_or-set_same w x.over (x.first + left / rest') 0 (omega (arith, c.wide, link_there))) (omega (arith, next_fits))
                | no e ↦ rw (get_or-set_other w x.over C (x.first + left / rest') 0 e) (c.small C)
              ]

  pub choosing_end : ahead ≡ 0 → ChosenAs s past links i w
  unfolding spans_in chosen
  choosing_end e = record { is = rw e at c.same; small = c.small; wide = c.wide }
