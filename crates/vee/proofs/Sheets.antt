-- The sheet of a plan that is not refused has the plan's edges, and can be tested. Assumes nothing.
use mathlib.Core.Path.{◌≡◌, refl, sym, ap, ◌∙◌}
use mathlib.Core.Bool.{Bool, true, false}
use mathlib.Core.List.{List, []}
use Prim.Native.Nat.{ℕ, ◌<◌, ◌≤◌}
use native.Mathlib.Omega.{arith}
use lib.IntN.{ℤ, pos}
use lib.Signed.{le_z}
use lib.ListN.{length, get_or}
use borrow.Author.Tests.{eqb-true, leb-true}
use Rattle.plan.specs.Limits.{most_points, most_records, farthest}
use Rattle.plan.specs.APlan.{point, link, wait, is, how_many, link_to, blank, gap_of}
use Rattle.records.specs.declared.Record.{Record}
use Rattle.tables.specs.Tables.{side}
use Rattle.rows.specs.Sheet.{kind_at, from_at, to_at, first_at, second_at, over_at, by, Laid, SheetEdge, SheetReady}
use Rattle.rows.specs.Sheet.Laid.{ordinary as l_ordinary, there as l_there, back as l_back, wait as l_wait}
use Rattle.rows.specs.Layout.{row_of, RowIs, LaidOut}
use Rattle.vee.specs.PlanTest.{edges_of}
use Rattle.vee.proofs.Rules.{Valid}
use Rattle.vee.proofs.Plans.{Whole, w_point, w_link, w_ordinary, w_wait, whole, link_of, few_points, gap_up, gap_down}
use Rattle.vee.proofs.Edges.{Gives, ordinary_gives, there_gives, back_gives, wait_gives, to_given, from_given}

-- a row by its record's kind
module _ (s : List ℕ) (q : ℕ) (rs : List Record) (r : Record) (w : RowIs s q (row_of rs r)) where
  pub to_plain : (r.kind ≡ 4 → ⊥) → to_at s q ≡ r.b
  to_plain n = go (is wait r) refl
    where
      go : (b : Bool) → is wait r ≡ b → to_at s q ≡ r.b
      go true e = absurd (n (eqb-true r.kind 4 e))
      go false e = rw e at w.to

  pub to_start : r.kind ≡ 4 → to_at s q ≡ (link_to rs r.b).a
  to_start e = rw e at w.to

  pub second_link : r.kind ≡ 2 → second_at s q ≡ (gap_of r.second).up
  second_link e = rw e at w.second

  pub second_plain : (r.kind ≡ 2 → ⊥) → second_at s q ≡ (gap_of r.first).down
  second_plain n = go (is link r) refl
    where
      go : (b : Bool) → is link r ≡ b → second_at s q ≡ (gap_of r.first).down
      go true e = absurd (n (eqb-true r.kind 2 e))
      go false e = rw e at w.second

small : {z : ℤ} {w y : ℕ} → le_z (pos w) z ≡ true → z ≡ pos y → w ≤ y
small {z} {w} {y} h e = leb-true w y (rw e at h)

module _ (rs : List Record) (v : Valid [] rs) (s : List ℕ) (out : LaidOut rs s) where
  n : ℕ
  n = how_many (is point) rs

  module _ (q : ℕ) (h : q < length rs) where
    r : Record
    r = get_or rs q blank

    row : RowIs s q (row_of rs (get_or rs q blank))
    row = out.rows q h

    -- what is asked of the row
    record RowFits : Type 0 where
      from : 1 < kind_at s q → from_at s q < how_many (is point) rs
      to : 1 < kind_at s q → to_at s q < how_many (is point) rs
      over : over_at s q < side
      first : 1 < kind_at s q → first_at s q ≤ farthest
      second : 1 < kind_at s q → second_at s q ≤ farthest

    fits : Whole rs (get_or rs q blank) → how_many (is point) rs ≤ most_points → RowFits
    fits (w_point k b) few = record {
      from = λ l. absurd (omega (arith, row.kind));
      to = λ l. absurd (omega (arith, row.kind));
      over = omega (arith, row.over);
      first = λ l. absurd (omega (arith, row.kind));
      second = λ l. absurd (omega (arith, row.kind));
    }
    fits (w_link k a b f g l m u) few = record {
      from = λ _. omega (arith, row.from);
      to = λ _. omega (arith, to_plain s q rs (get_or rs q blank) row (λ e. omega arith));
      over = omega (arith, row.over);
      first = λ _. omega (arith, row.first, gap_up f);
      second = λ _. omega (arith, second_link s q rs (get_or rs q blank) row k, gap_up g);
    }
    fits (w_ordinary k a b u d) few = record {
      from = λ _. omega (arith, row.from);
      to = λ _. omega (arith, to_plain s q rs (get_or rs q blank) row (λ e. omega arith));
      over = omega (arith, row.over);
      first = λ _. omega (arith, row.first);
      second = λ _. omega (arith, second_plain s q rs (get_or rs q blank) row (λ e. omega arith));
    }
    fits (w_wait k a b w f l) few =
        let t = link_of rs v (get_or rs q blank).b w in
        record {
          from = λ _. omega (arith, row.from);
          to = λ _. omega (arith, to_start s q rs (get_or rs q blank) row k, t.from);
          over = omega (arith, row.over);
          first = λ _. omega (arith, row.first, gap_up f, small l t.most, t.short);
          second = λ _. omega (arith, second_plain s q rs (get_or rs q blank) row (λ e. omega arith), gap_down f);
        }

  few : how_many (is point) rs ≤ most_points
  unfolding how_many
  few = few_points v (omega arith)

  row_fits : (q : ℕ) (h : q < length rs) → RowFits q h
  row_fits q h = fits q h (whole rs v q h) few

  pub sheet_ready : (w : List ℕ) → length rs ≤ most_records → length w ≡ side → ((C : ℕ) → by w C ≤ farthest) → SheetReady s w (length rs) (how_many (is point) rs)
  sheet_ready w hm hw hd = record {
    wide = hw;
    rows = hm;
    few = few;
    from = λ q h. (row_fits q h).from;
    to = λ q h. (row_fits q h).to;
    over = λ q h. (row_fits q h).over;
    first = λ q h. (row_fits q h).first;
    second = λ q h. (row_fits q h).second;
    durations = hd;
  }

  -- the edges of a row are those of its record
  module _ (w : List ℕ) (q : ℕ) (r : Record) (x : RowIs s q (row_of rs r)) (X Y u d : ℕ) where
    given_laid : Gives rs w r X Y u d → Laid s w q X Y u d
    given_laid (ordinary_gives k a b f g) =
        l_ordinary (x.kind ∙ k) (a ∙ sym x.from) (b ∙ sym (to_plain s q rs r x (λ e. omega arith))) (f ∙ sym x.first) (g ∙ sym (second_plain s q rs r x (λ e. omega arith)))
    given_laid (there_gives k a b f g) = l_there (x.kind ∙ k) (a ∙ sym x.from) (b ∙ sym (to_plain s q rs r x (λ e. omega arith))) (f ∙ ap (by w) (sym x.over)) g
    given_laid (back_gives k a b f g) = l_back (x.kind ∙ k) (a ∙ sym (to_plain s q rs r x (λ e. omega arith))) (b ∙ sym x.from) f (g ∙ ap (by w) (sym x.over))
    given_laid (wait_gives k a b f g) = l_wait (x.kind ∙ k) (a ∙ sym x.from) (b ∙ sym (to_start s q rs r x k)) f (rw (x.first, x.over) g)

    laid_given : Laid s w q X Y u d → Gives rs w r X Y u d
    laid_given (l_ordinary k a b f g) = let e : r.kind ≡ 3 = sym x.kind ∙ k in ordinary_gives e (a ∙ x.from) (b ∙ to_plain s q rs r x (λ h. omega arith)) (f ∙ x.first) (g ∙ second_plain s q rs r x (λ h. omega arith))
    laid_given (l_there k a b f g) = let e : r.kind ≡ 2 = sym x.kind ∙ k in there_gives e (a ∙ x.from) (b ∙ to_plain s q rs r x (λ h. omega arith)) (f ∙ ap (by w) x.over) g
    laid_given (l_back k a b f g) = let e : r.kind ≡ 2 = sym x.kind ∙ k in back_gives e (a ∙ to_plain s q rs r x (λ h. omega arith)) (b ∙ x.from) f (g ∙ ap (by w) x.over)
    laid_given (l_wait k a b f g) = let e : r.kind ≡ 4 = sym x.kind ∙ k in wait_gives e (a ∙ x.from) (b ∙ to_start s q rs r x e) f (rw (x.first, x.over) at g)

  module _ (w : List ℕ) where
    pub to_sheet : (X Y u d : ℕ) → edges_of rs w X Y u d → SheetEdge s w (length rs) X Y u d
    to_sheet X Y u d e =
        let g = to_given rs v w X Y u d e in
        record { row = g.place; below = g.listed; edge = given_laid w g.place _ (out.rows g.place g.listed) X Y u d g.gives }

    pub from_sheet : (X Y u d : ℕ) → SheetEdge s w (length rs) X Y u d → edges_of rs w X Y u d
    from_sheet X Y u d e = from_given rs v w X Y u d (record { place = e.row; listed = e.below; gives = laid_given w e.row _ (out.rows e.row e.below) X Y u d e.edge })
