-- The rows of a sheet, each laid into a table. Assumes nothing.
use mathlib.Core.Path.{◌≡◌, refl, subst}
use mathlib.Core.Logic.{◌⊎◌, inl, inr}
use mathlib.Core.Bool.{Bool, true, false}
use mathlib.Core.List.{List}
use Prim.Native.Nat.{ℕ, min, ◌+◌, ◌<◌, ◌≤◌}
use native.Mathlib.Omega.{arith}
use native.Mathlib.Decide.{ℕ_discrete}
use Rattle.plan.specs.Limits.{farthest}
use Rattle.tables.specs.declared.table.Part.{Part}
use Rattle.rows.specs.declared.sheet.Row.{Row}
use Rattle.tables.specs.Tables.{side, Closed}
use Rattle.tables.specs.Entries.{at, Sound, CloseDone}
use Rattle.tables.specs.Distances.{Inside, Drawn}
use Rattle.tables.specs.Steps.{OfferedOf, takes_of, Begun, PartOf}
use Rattle.rows.specs.Sheet.{kind_at, from_at, to_at, first_at, second_at, over_at, row_at, by, Laid, ordinary, there, back, wait, SheetEdge, SheetReady, Drawing}
use Rattle.rows.specs.Filled.{Put, ordinary_put, wait_put, link_put, nothing_put, LayReady}
use Rattle.rows.specs.Filled.{Verdict, Filled}
use Rattle.tables.proofs.Closing.{distances, cycle}
use Rattle.tables.proofs.Widths.{shallow}
use Rattle.tables.proofs.Offers.{Plus, old, new, same, at_place, plus_part, begun}

-- the edges of a sheet are between its points
pub inside : {s w : List ℕ} {m n q : ℕ} → SheetReady s w m n → q ≤ m → (X Y u d : ℕ) → SheetEdge s w q X Y u d → (X < n) × (Y < n)
inside {s} {w} {m} {n} {q} r h X Y u d e = go e.edge
  where
    l : e.row < m
    l = omega (arith, e.below)

    go : Laid s w e.row X Y u d → (X < n) × (Y < n)
    go (ordinary k a b _ _) = omega (arith, r.from e.row l (omega arith), r.to e.row l (omega arith))
    go (there k a b _ _) = omega (arith, r.from e.row l (omega arith), r.to e.row l (omega arith))
    go (back k a b _ _) = omega (arith, r.from e.row l (omega arith), r.to e.row l (omega arith))
    go (wait k a b _ _) = omega (arith, r.from e.row l (omega arith), r.to e.row l (omega arith))

module _ (b : Part) (s w : List ℕ) (n q : ℕ) (t : List ℕ) (ready : LayReady b s w n q t) where
  sr : SheetReady s w ready.m n
  sr = ready.ready

  module _ (known : 1 < kind_at s q) where
    from_in : from_at s q < n
    from_in = sr.from q ready.below known

    to_in : to_at s q < n
    to_in = sr.to q ready.below known

    first_in : first_at s q ≤ farthest
    first_in = sr.first q ready.below known

    second_in : second_at s q ≤ farthest
    second_in = sr.second q ready.below known

  -- the rows up to q: those before it, and its own
  more : {X Y u d : ℕ} → SheetEdge s w q X Y u d → SheetEdge s w (q + 1) X Y u d
  more e = record { row = e.row; below = omega (arith, e.below); edge = e.edge }

  here : {X Y u d : ℕ} → Laid s w q X Y u d → SheetEdge s w (q + 1) X Y u d
  here e = record { row = q; below = omega arith; edge = e }

  -- an edge of the rows up to q is one of the rows before it, or of row q
  parts : {X Y u d : ℕ} → SheetEdge s w (q + 1) X Y u d → SheetEdge s w q X Y u d ⊎ Laid s w q X Y u d
  parts {X} {Y} {u} {d} e = elim (ℕ_discrete e.row q) [
    | yes k ↦ inr (subst (λ (r : ℕ). Laid s w r X Y u d) k e.edge)
    | no k ↦ inl (record { row = e.row; below = omega (arith, e.below); edge = e.edge })
  ]

  -- the edges F, which are those up to q, laid
  laid : (F : ℕ → ℕ → ℕ → ℕ → Type 0) (t' : List ℕ) → ((X Y u d : ℕ) → F X Y u d → SheetEdge s w (q + 1) X Y u d) → ((X Y u d : ℕ) → SheetEdge s w q X Y u d ⊎ Laid s w q X Y u d → F X Y u d)
      → Sound t' → Drawn (PartOf b F) n (at t') → Drawing b s w n (q + 1) t'
  laid F t' to from sound dr = record { sound = sound; drawn = same to' from' dr }
    where
      to' : (X Y u d : ℕ) → PartOf b F X Y u d → PartOf b (SheetEdge s w (q + 1)) X Y u d
      to' X Y u d p = record { edge = to X Y u d p.edge; taken = p.taken }

      from' : (X Y u d : ℕ) → PartOf b (SheetEdge s w (q + 1)) X Y u d → PartOf b F X Y u d
      from' X Y u d p = record { edge = from X Y u d (parts p.edge); taken = p.taken }

  in_rows : (X Y u d : ℕ) → SheetEdge s w q X Y u d → (X < n) × (Y < n)
  in_rows = inside sr (omega (arith, ready.below))

  -- one offer of a row
  one_more : (t' : List ℕ) (i j v c : ℕ) → i < n → j < n → v ≤ farthest → c ≤ farthest → OfferedOf (takes_of b v c) i j v c t t' → Drawn (PartOf b (Plus (SheetEdge s w q) i j v c)) n (at t')
  one_more t' i j v c hi hj hv hc o = plus_part b (SheetEdge s w q) n (at t) (at t') ready.so_far.drawn in_rows i j v c hi hj hv hc (takes_of b v c) refl (at_place sr.few hi hj o)

  module _ (t' : List ℕ) (sound : Sound t') where
    ordinary_row : kind_at s q ≡ 3 → OfferedOf (takes_of b (first_at s q) (second_at s q)) (from_at s q) (to_at s q) (first_at s q) (second_at s q) t t' → Drawing b s w n (q + 1) t'
    ordinary_row k o =
        let h : 1 < kind_at s q = omega arith in
        laid (Plus (SheetEdge s w q) (from_at s q) (to_at s q) (first_at s q) (second_at s q)) t' to from sound (one_more t' (from_at s q) (to_at s q) (first_at s q) (second_at s q) (from_in h) (to_in h) (first_in h) (second_in h) o)
      where
        to : (X Y u d : ℕ) → Plus (SheetEdge s w q) (from_at s q) (to_at s q) (first_at s q) (second_at s q) X Y u d → SheetEdge s w (q + 1) X Y u d
        to X Y u d (old e) = more e
        to X Y u d (new x y v c) = here (ordinary k x y v c)

        from : (X Y u d : ℕ) → SheetEdge s w q X Y u d ⊎ Laid s w q X Y u d → Plus (SheetEdge s w q) (from_at s q) (to_at s q) (first_at s q) (second_at s q) X Y u d
        from X Y u d (inl e) = old e
        from X Y u d (inr (ordinary _ x y v c)) = new x y v c
        from X Y u d (inr (there k' x y v c)) = absurd (omega arith)
        from X Y u d (inr (back k' x y v c)) = absurd (omega arith)
        from X Y u d (inr (wait k' x y v c)) = absurd (omega arith)

    wait_row : kind_at s q ≡ 4 → (d : ℕ) → d ≡ min (first_at s q) (by w (over_at s q)) → OfferedOf (takes_of b 0 d) (from_at s q) (to_at s q) 0 d t t' → Drawing b s w n (q + 1) t'
    wait_row k d e o =
        let h : 1 < kind_at s q = omega arith in
        laid (Plus (SheetEdge s w q) (from_at s q) (to_at s q) 0 d) t' to from sound (one_more t' (from_at s q) (to_at s q) 0 d (from_in h) (to_in h) (omega arith) (omega (arith, first_in h)) o)
      where
        to : (X Y u c : ℕ) → Plus (SheetEdge s w q) (from_at s q) (to_at s q) 0 d X Y u c → SheetEdge s w (q + 1) X Y u c
        to X Y u c (old e') = more e'
        to X Y u c (new x y v g) = here (wait k x y v (omega arith))

        from : (X Y u c : ℕ) → SheetEdge s w q X Y u c ⊎ Laid s w q X Y u c → Plus (SheetEdge s w q) (from_at s q) (to_at s q) 0 d X Y u c
        from X Y u c (inl e') = old e'
        from X Y u c (inr (ordinary k' x y v g)) = absurd (omega arith)
        from X Y u c (inr (there k' x y v g)) = absurd (omega arith)
        from X Y u c (inr (back k' x y v g)) = absurd (omega arith)
        from X Y u c (inr (wait _ x y v g)) = new x y v (omega arith)

    other_row : t' ≡ t → (kind_at s q ≡ 2 → ⊥) → (kind_at s q ≡ 3 → ⊥) → (kind_at s q ≡ 4 → ⊥) → Drawing b s w n (q + 1) t'
    other_row e a c g = laid (SheetEdge s w q) t' (λ X Y u d e'. more e') from sound (rw e ready.so_far.drawn)
      where
        from : (X Y u d : ℕ) → SheetEdge s w q X Y u d ⊎ Laid s w q X Y u d → SheetEdge s w q X Y u d
        from X Y u d (inl e') = e'
        from X Y u d (inr (ordinary k x y _ _)) = absurd (c k)
        from X Y u d (inr (there k x y _ _)) = absurd (a k)
        from X Y u d (inr (back k x y _ _)) = absurd (a k)
        from X Y u d (inr (wait k x y _ _)) = absurd (g k)

    link_row : (t'' : List ℕ) → kind_at s q ≡ 2 → OfferedOf (takes_of b (by w (over_at s q)) 0) (from_at s q) (to_at s q) (by w (over_at s q)) 0 t t''
        → OfferedOf (takes_of b 0 (by w (over_at s q))) (to_at s q) (from_at s q) 0 (by w (over_at s q)) t'' t' → Drawing b s w n (q + 1) t'
    link_row t'' k o o' = laid F t' to from sound drawn
      where
        p : ℕ
        p = by w (over_at s q)

        h : 1 < kind_at s q
        h = omega arith

        F' : ℕ → ℕ → ℕ → ℕ → Type 0
        F' = Plus (SheetEdge s w q) (from_at s q) (to_at s q) (by w (over_at s q)) 0

        F : ℕ → ℕ → ℕ → ℕ → Type 0
        F = Plus F' (to_at s q) (from_at s q) 0 (by w (over_at s q))

        to' : (X Y u d : ℕ) → F' X Y u d → SheetEdge s w (q + 1) X Y u d
        to' X Y u d (old e) = more e
        to' X Y u d (new x y v c) = here (there k x y v c)

        to : (X Y u d : ℕ) → F X Y u d → SheetEdge s w (q + 1) X Y u d
        to X Y u d (old e) = to' X Y u d e
        to X Y u d (new x y v c) = here (back k x y v c)

        from : (X Y u d : ℕ) → SheetEdge s w q X Y u d ⊎ Laid s w q X Y u d → F X Y u d
        from X Y u d (inl e) = old (old e)
        from X Y u d (inr (ordinary k' x y v c)) = absurd (omega arith)
        from X Y u d (inr (there _ x y v c)) = old (new x y v c)
        from X Y u d (inr (back _ x y v c)) = new x y v c
        from X Y u d (inr (wait k' x y v c)) = absurd (omega arith)

        drawn : Drawn (PartOf b F) n (at t')
        drawn =
            plus_part
            b
            F'
            n
            (at t'')
            (at t')
            (one_more t'' (from_at s q) (to_at s q) (by w (over_at s q)) 0 (from_in h) (to_in h) (sr.durations (over_at s q)) (omega arith) o)
            (λ X Y u d e. inside sr (omega (arith, ready.below)) X Y u d (to' X Y u d e))
            (to_at s q)
            (from_at s q)
            0
            (by w (over_at s q))
            (to_in h)
            (from_in h)
            (omega arith)
            (sr.durations (over_at s q))
            (takes_of b 0 (by w (over_at s q)))
            refl
            (at_place sr.few (to_in h) (from_in h) o')

  -- what the offers of row q ask, the row as the code reads it
  pub over_in : {r : Row} {o : ℕ} → r ≡ row_at s q → o ≡ r.over → o < side
  over_in e ho = rw (ho, e) (sr.over q ready.below)

  module _ {r : Row} {i j o : ℕ} (e : r ≡ row_at s q) (hi : i ≡ r.from) (hj : j ≡ r.to) (ho : o ≡ r.over) where
    -- what they do
    row_put : {t' : List ℕ} → Put b (kind_at s q) (from_at s q) (to_at s q) (first_at s q) (second_at s q) (by w (over_at s q)) t t' → Drawing b s w n (q + 1) t'
    row_put (ordinary_put k e) = ordinary_row _ e.sound k e
    row_put (wait_put k e) = wait_row _ e.sound k _ refl e
    row_put (link_put k e e') = link_row _ e'.sound _ k e e'
    row_put (nothing_put a c g e) = other_row _ (rw e ready.so_far.sound) e a c g

    pub put_row : {t' : List ℕ} → Put b r.kind i j r.first r.second (by w o) t t' → Drawing b s w n (q + 1) t'
    put_row {t'} p = row_put (rw (hi, hj, ho, e) at p)

-- before the first row
pub none_yet : (b : Part) (s w : List ℕ) (n : ℕ) (t : List ℕ) → n ≤ side → Begun t → Drawing b s w n 0 t
none_yet b s w n t few h = record { sound = h.sound; drawn = begun (PartOf b (SheetEdge s w 0)) n (at t) (λ X Y u d p. omega (arith, p.edge.below)) (record { self = λ x l. h.self x (omega arith); other = λ x y l k. h.other x y (omega arith) (omega arith) }) }

-- the table of all rows, closed
pub filled : {b : Part} {s w : List ℕ} {m n : ℕ} {t t' : List ℕ} {r : Bool} → SheetReady s w m n → Drawing b s w n m t → CloseDone n t t' r → Filled b s w m n t' r
filled {b} {s} {w} {m} {n} {t} {t'} {r} ready d c = record { sound = c.sound; verdict = go r c.closed }
  where
    in_part : Inside (PartOf b (SheetEdge s w m)) n
    in_part X Y u v e = inside ready (omega arith) X Y u v e.edge

    go : (r : Bool) → Closed n (at t) r (at t') → Verdict (PartOf b (SheetEdge s w m)) n t' r
    go true k =
        let all = distances (PartOf b (SheetEdge s w m)) n in_part ready.few (at t) d.drawn k in
        (all.0, all.1, shallow t' ready.few c.sound)
    go false k = cycle (PartOf b (SheetEdge s w m)) n in_part ready.few (at t) d.drawn k
