-- The kinds of a plan's records never fall, so its links are the rows after its points, in order. Assumes nothing.
use mathlib.Core.Path.{◌≡◌, refl, subst, ap, ◌∙◌}
use mathlib.Core.Bool.{true}
use mathlib.Core.List.{List, [], ◌∷◌, ◌++◌}
use Prim.Native.Nat.{ℕ, suc, ◌+◌, ◌-◌, ◌<◌, ◌≤◌}
use native.Mathlib.Omega.{arith}
use native.Mathlib.Decide.{ℕ_discrete}
use lib.Dec.{eqb}
use lib.ListN.{length, get_or}
use borrow.Author.Tests.{leb-true, ne_eqb, eq-eqb}
use Rattle.plan.specs.APlan.{point, link, is, one, how_many, blank}
use Rattle.plan.specs.ReplyNumbers.{last_kind}
use Rattle.records.specs.declared.Record.{Record}
use Rattle.rows.specs.Layout.{row_of, RowIs}
use Rattle.vee.specs.PlanTest.{span_of, spans}
use Rattle.vee.specs.Walked.{span_at, spans_in}
use Rattle.vee.proofs.Rules.{Valid, no_more, one_more}
use Rattle.vee.proofs.Sheets.{second_link}

-- no kind falls below k, nor below one before it
pub data Up : ℕ → List Record → Type 0 where
  up_none : {k : ℕ} → Up k []
  up_more : {k : ℕ} {r : Record} {rs : List Record} → k ≤ r.kind → Up r.kind rs → Up k (r ∷ rs)

last_snoc : (k : ℕ) (xs : List Record) (r : Record) → last_kind k (xs ++ (r ∷ [])) ≡ r.kind
unfolding last_kind
last_snoc k [] r = refl
last_snoc k (x ∷ xs) r = last_snoc x.kind xs r

pub ups : {pre rs : List Record} → Valid pre rs → Up (last_kind 0 pre) rs
ups no_more = up_none
ups {pre} (one_more {r = r} {rs = rs} k v) = up_more (leb-true (last_kind 0 pre) r.kind k.order) (subst (λ (j : ℕ). Up j rs) (last_snoc 0 pre r) (ups v))

-- how a list's first record counts
module _ (r : Record) (rs : List Record) where
  here : (j : ℕ) → r.kind ≡ j → how_many (λ x. eqb x.kind j) (r ∷ rs) ≡ suc (how_many (λ x. eqb x.kind j) rs)
  unfolding how_many
  here j e = rw (e) (go j)
    where
      go : (j : ℕ) → one (eqb j j) + how_many (λ x. eqb x.kind j) rs ≡ suc (how_many (λ x. eqb x.kind j) rs)
      go j = rw (same j) (omega arith)
        where
          same : (j : ℕ) → eqb j j ≡ true
          same j = eq-eqb j j refl

  not_here : (j : ℕ) → (r.kind ≡ j → ⊥) → how_many (λ x. eqb x.kind j) (r ∷ rs) ≡ how_many (λ x. eqb x.kind j) rs
  unfolding how_many
  not_here j n = rw (ne_eqb r.kind j n) (omega arith)

  pub span_here : r.kind ≡ 2 → spans (r ∷ rs) ≡ span_of r ∷ spans rs
  unfolding spans
  span_here e = rw e refl

  pub span_not : (r.kind ≡ 2 → ⊥) → spans (r ∷ rs) ≡ spans rs
  unfolding spans
  span_not n = rw (ne_eqb r.kind 2 n) refl

-- after a kind past links there is neither a point nor a link
pub past_links : {k : ℕ} {rs : List Record} → 2 < k → Up k rs → (spans rs ≡ []) × (how_many (is link) rs ≡ 0) × (how_many (is point) rs ≡ 0)
unfolding spans how_many
past_links h up_none = (refl, refl, refl)
past_links h (up_more {r = r} {rs = rs} l u) =
    let i = past_links (omega arith) u in
    (span_not r rs (λ e. omega arith) ∙ i.0, not_here r rs 2 (λ e. omega arith) ∙ i.1, not_here r rs 1 (λ e. omega arith) ∙ i.2)

-- after a link there is no point
pub past_points : {k : ℕ} {rs : List Record} → 1 < k → Up k rs → how_many (is point) rs ≡ 0
unfolding how_many
past_points h up_none = refl
past_points h (up_more {r = r} {rs = rs} l u) = not_here r rs 1 (λ e. omega arith) ∙ past_points (omega arith) u

-- the rows of rs from row q on
abbrev RowsFrom : List ℕ → List Record → ℕ → List Record → Type 0
RowsFrom s RS q rs = (i : ℕ) → i < length rs → RowIs s (q + i) (row_of RS (get_or rs i blank))

module _ (s : List ℕ) (RS : List Record) where
  head_row : (q : ℕ) (r : Record) (rs : List Record) → RowsFrom s RS q (r ∷ rs) → RowIs s q (row_of RS r)
  head_row q r rs rows = let z : q + 0 ≡ q = omega arith in subst (λ (p : ℕ). RowIs s p (row_of RS r)) z (rows 0 (omega arith))

  tail_rows : (q : ℕ) (r : Record) (rs : List Record) → RowsFrom s RS q (r ∷ rs) → RowsFrom s RS (suc q) rs
  tail_rows q r rs rows i h = let z : q + suc i ≡ suc q + i = omega arith in subst (λ (p : ℕ). RowIs s p (row_of RS (get_or rs i blank))) z (rows (suc i) (omega arith))

  span_is : (q : ℕ) (r : Record) → r.kind ≡ 2 → RowIs s q (row_of RS r) → span_at s q ≡ span_of r
  span_is q r e x = rw (x.over, x.first, second_link s q RS r x e) refl

  spans_none : (p : ℕ) → spans_in s p 0 ≡ []
  unfolding spans_in
  spans_none p = refl

  spans_next : (q n : ℕ) → spans_in s (q + suc n) (suc n) ≡ span_at s q ∷ spans_in s (suc q + n) n
  unfolding spans_in
  spans_next q n =
      let z : q + suc n - suc n ≡ q = omega arith in
      let y : q + suc n ≡ suc q + n = omega arith in
      cc (ap (λ (p : ℕ). span_at s p) z, ap (λ (p : ℕ). spans_in s p n) y)

  -- the links of rs are the spans of as many rows, from where its points end
  in_links : {k : ℕ} {rs : List Record} → 1 < k → Up k rs → (q : ℕ) → RowsFrom s RS q rs → spans_in s (q + how_many (is link) rs) (how_many (is link) rs) ≡ spans rs
  unfolding how_many spans
  in_links h up_none q rows = spans_none (q + 0)
  in_links h (up_more {r = r} {rs = rs} l u) q rows = elim (ℕ_discrete r.kind 2) [
    | yes e ↦
        let i = in_links (omega arith) u (suc q) (tail_rows q r rs rows) in
        let a = here r rs 2 e in
        rw (a, span_here r rs e, spans_next q (how_many (is link) rs)) (rw (span_is q r e (head_row q r rs rows), i) refl)
    | no e ↦
        let p = past_links (omega arith) u in
        let a : how_many (is link) (r ∷ rs) ≡ 0 = not_here r rs 2 e ∙ p.1 in
        rw (a, span_not r rs e, p.0) (spans_none _)
  ]

  pub from_start : {k : ℕ} {rs : List Record} → 0 < k → Up k rs → (q : ℕ) → RowsFrom s RS q rs
      → spans_in s (q + (how_many (is point) rs + how_many (is link) rs)) (how_many (is link) rs) ≡ spans rs
  unfolding how_many spans spans_in
  from_start h up_none q rows = refl
  from_start h (up_more {r = r} {rs = rs} l u) q rows = elim (ℕ_discrete r.kind 1) [
    | yes e ↦
        let i = from_start (omega arith) u (suc q) (tail_rows q r rs rows) in
        let a = here r rs 1 e in
        let b = not_here r rs 2 (λ f. omega arith) in
        let y : q + (suc (how_many (is point) rs) + how_many (is link) rs) ≡ suc q + (how_many (is point) rs + how_many (is link) rs) = omega arith in
        rw (a, b, span_not r rs (λ f. omega arith), y) i
    | no e ↦
        let a : how_many (is point) (r ∷ rs) ≡ 0 = not_here r rs 1 e ∙ past_points (omega arith) u in
        let z : 0 + how_many (is link) (r ∷ rs) ≡ how_many (is link) (r ∷ rs) = omega arith in
        let f : 1 < r.kind = omega arith in
        rw (a, z) (in_links f (up_more (omega arith) u) q rows)
  ]
