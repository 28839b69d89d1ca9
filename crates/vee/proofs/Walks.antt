-- The walk over the durations of a link, all that follows it walked for each. Assumes nothing.
use mathlib.Core.Path.{◌≡◌, refl, subst, ◌∙◌}
use mathlib.Core.List.{List, [], ◌∷◌, ◌++◌}
use Prim.Native.Nat.{ℕ, zero, suc, ◌+◌, ◌-◌, ◌*◌, ◌<◌, ◌≤◌}
use native.Mathlib.Omega.{arith}
use native.Mathlib.Nat.{suc-mul}
use native.Mathlib.Numerals.{add-one}
use native.Mathlib.Decide.{ℕ_discrete}
use lib.ListN.{length, set, length-set, length-append}
use lib.Seq.{get_or-set_same, get_or-set_other}
use Rattle.plan.specs.Limits.{farthest}
use Rattle.vee.specs.declared.Answer.{Answer}
use Rattle.vee.specs.declared.Answer.TheVariants as answer
use Rattle.tables.specs.Tables.{side}
use Rattle.rows.specs.declared.sheet.Row.{Row}
use Rattle.rows.specs.Sheet.{SheetReady, SheetEdge, first_at, second_at, over_at, row_at, by}
use Rattle.vee.specs.PlanTest.{Span, spread, projections, many, most_projections, Found, all_good, good, cycle, pair}
use Rattle.projection.specs.declared.Finding.{Finding}
use Rattle.projection.specs.Findings.{FoundOf, is_good as found_good, has_cycle_lem as found_cycle, has_pair as found_pair}
use Rattle.vee.specs.Walked.{found_as, JudgedOf, is_good, has_cycle_lem, has_pair, span_at, spans_in, WalkReady, Walked}

module _ (E : List ℕ → ℕ → ℕ → ℕ → ℕ → Type 0) where
  -- what is found after ws, of which a was found: where all are good the test goes on, else that is the answer
  abbrev Onward : List (List ℕ) → Answer → Answer → Type 0
  Onward ws r (answer.Refused k i) = answer.Refused k i ≡ r
  Onward ws r (answer.Yes j) = Found E j ws r
  Onward ws r (answer.Cycle i) = answer.Cycle i ≡ r
  Onward ws r (answer.Pair i X Y) = answer.Pair i X Y ≡ r

  pub follow : {i : ℕ} {ws : List (List ℕ)} {a r : Answer} (ws' : List (List ℕ)) → Found E i ws a → Onward ws' r a → Found E i (ws ++ ws') r
  follow ws' all_good o = o
  follow ws' (good g f) o = good g (follow ws' f o)
  follow {i} ws' (cycle {w = w} {ws = ws} c) o = subst (λ (r : Answer). Found E i (w ∷ (ws ++ ws')) r) o (cycle c)
  follow {i} ws' (pair {w = w} {ws = ws} p) o = subst (λ (r : Answer). Found E i (w ∷ (ws ++ ws')) r) o (pair p)

  -- where all are good, as many were tried as there are
  abbrev Counted : ℕ → List (List ℕ) → Answer → Type 0
  Counted i ws (answer.Refused k j) = Unit {0}
  Counted i ws (answer.Yes j) = j ≡ i + length ws
  Counted i ws (answer.Cycle j) = Unit {0}
  Counted i ws (answer.Pair j X Y) = Unit {0}

  grown : (i : ℕ) (w : List ℕ) (ws : List (List ℕ)) (a : Answer) → Counted (i + 1) ws a → Counted i (w ∷ ws) a
  grown i w ws (answer.Refused k j) c = tt
  grown i w ws (answer.Yes j) c = omega arith
  grown i w ws (answer.Cycle j) c = tt
  grown i w ws (answer.Pair j X Y) c = tt

  pub counted : {i : ℕ} {ws : List (List ℕ)} {a : Answer} → Found E i ws a → Counted i ws a
  counted all_good = omega arith
  counted {i} (good {w = w} {ws = ws} {r = r} g f) = grown i w ws r (counted f)
  counted (cycle c) = tt
  counted (pair p) = tt

-- as many projections as the product of the durations
spread_many : (ls : List Span) (C p k : ℕ) (w : List ℕ) → ((w : List ℕ) → length (projections ls w) ≡ many ls) → length (spread (projections ls) C p k w) ≡ k * many ls
unfolding spread
spread_many ls C p zero w h = omega arith
spread_many ls C p (suc k) w h = rw (length-append, suc-mul) (omega (arith, h (set w C p), spread_many ls C (suc p) k w h))

pub as_many : (ls : List Span) (w : List ℕ) → length (projections ls w) ≡ many ls
unfolding projections many
as_many [] w = refl
as_many (l ∷ ls) w = spread_many ls l.over l.least (suc l.most - l.least) w (as_many ls)

-- one projection is one element
pub only : {E : List ℕ → ℕ → ℕ → ℕ → ℕ → Type 0} {w : List ℕ} {i : ℕ} {r : Answer} → JudgedOf (E w) i r → Found E i (w ∷ []) r
only (is_good g) = good g all_good
only (has_cycle_lem c) = cycle c
only (has_pair p) = pair p

-- the first of the links
pub unfolded : (s : List ℕ) (past k : ℕ) → 0 < k → spans_in s past k ≡ span_at s (past - k) ∷ spans_in s past (k - 1)
unfolding spans_in
unfolded s past zero h = absurd (omega arith)
unfolded s past (suc k) h = let e : suc k - 1 ≡ k = omega arith in rw e refl

-- no link ahead: the durations are one projection
found_as_lem : {E : ℕ → ℕ → ℕ → ℕ → Type 0} {i : ℕ} {f : Finding} → FoundOf E f → JudgedOf E i (found_as i f)
found_as_lem (found_good g) = is_good g
found_as_lem (found_cycle c) = has_cycle_lem c
found_as_lem (found_pair p) = has_pair p

pub last_one : {s w : List ℕ} {m i : ℕ} {f : Finding} {r : Answer} (past k : ℕ) → k ≡ 0 → FoundOf (SheetEdge s w m) f → r ≡ found_as i f → Walked s w m past k i r
unfolding spans_in projections
last_one past k e j er = rw (e, er) (only (found_as_lem j))

pub numbered : {s w : List ℕ} {m n past i : ℕ} (k : ℕ) → k ≡ 0 → WalkReady s w m n past k i → i < most_projections
unfolding spans_in many
numbered k e h = omega (arith, rw e at h.room)

-- the first link ahead, its durations from p on: with the number next, all that is left is the answer
pub record Turning (s w : List ℕ) (m n past k i p next : ℕ) : Type 0 where
  pub ready : WalkReady s w m n past k i
  pub more : 0 < k
  pub high : p ≤ suc (second_at s (past - k))
  pub room : next + (suc (second_at s (past - k)) - p) * many (spans_in s past (k - 1)) ≤ most_projections
  pub rest : (r : Answer) → Found (λ w. SheetEdge s w m) next (spread (projections (spans_in s past (k - 1))) (over_at s (past - k)) p (suc (second_at s (past - k)) - p) w) r → Walked s w m past k i r

module _ {s w : List ℕ} {m n past k i : ℕ} where
  begins_at : WalkReady s w m n past k i → (k ≡ 0 → ⊥) → Turning s w m n past k i (first_at s (past - k)) i
  unfolding many projections
  begins_at h e =
      let more : 0 < k = omega arith in
      let u = unfolded s past k more in
      record {
        ready = h;
        more = more;
        high = omega (arith, h.some (past - k) (omega (arith, h.before)) (omega (arith, h.before)));
        room = rw u at h.room;
        rest = λ r f. rw u f;
      }

  -- the link's row as the code reads it
  pub begins : {r : Row} → WalkReady s w m n past k i → (k ≡ 0 → ⊥) → r ≡ row_at s (past - k) → Turning s w m n past k i r.first i
  begins h n e = rw e (begins_at h n)

  pub over_in : {p next o : ℕ} {r : Row} → r ≡ row_at s (past - k) → o ≡ r.over → Turning s w m n past k i p next → o < side
  over_in e ho t = rw (ho, e) (t.ready.ready.over (past - k) (omega (arith, t.more, t.ready.before, t.ready.rows)))

  pub last_fits : {p next : ℕ} → Turning s w m n past k i p next → second_at s (past - k) ≤ farthest
  last_fits t = t.ready.short (past - k) (omega (arith, t.more, t.ready.before)) (omega arith)

  module _ {p next : ℕ} (t : Turning s w m n past k i p next) (l : p ≤ second_at s (past - k)) where
    here : past - k < past
    here = omega (arith, t.more, t.ready.before)

    one_less : suc (second_at s (past - k)) - p ≡ suc (suc (second_at s (past - k)) - suc p)
    one_less = omega arith

    long : p ≤ farthest
    long = omega (arith, t.ready.short (past - k) here (omega arith))

    chosen : SheetReady s (set w (over_at s (past - k)) p) m n
    chosen =
        let r = t.ready.ready in
        record {
          wide = length-set w (over_at s (past - k)) p ∙ r.wide;
          rows = r.rows;
          few = r.few;
          from = r.from;
          to = r.to;
          over = r.over;
          first = r.first;
          second = r.second;
          durations = durations;
        }
      where
        durations : (C : ℕ) → by (set w (over_at s (past - k)) p) C ≤ farthest
        durations C = elim (ℕ_discrete C (over_at s (past - k))) [
          | yes e ↦ rw (e, get_or-set_same w (over_at s (past - k)) p 0 (omega (arith, t.ready.ready.wide, t.ready.ready.over (past - k) (omega (arith, here, t.ready.rows))))) long
          | no e ↦ rw (get_or-set_other w (over_at s (past - k)) C p 0 e) (t.ready.ready.durations C)
        ]

    may_go : WalkReady s (set w (over_at s (past - k)) p) m n past (k - 1) next
    may_go = record {
      ready = chosen;
      before = omega (arith, t.ready.before);
      rows = t.ready.rows;
      some = λ q h h'. t.ready.some q h (omega arith);
      short = λ q h h'. t.ready.short q h (omega arith);
      room = room;
    }
      where
        room : next + many (spans_in s past (k - 1)) ≤ most_projections
        room = let r = rw (one_less, suc-mul) at t.room in omega arith

    -- what is found of the projections that have the duration p
    abbrev Here : Answer → Type 0
    Here a = Found (λ w. SheetEdge s w m) next (projections (spans_in s past (k - 1)) (set w (over_at s (past - k)) p)) a

    left : {r : Answer} → Found (λ w. SheetEdge s w m) next (projections (spans_in s past (k - 1)) (set w (over_at s (past - k)) p) ++ spread (projections (spans_in s past (k - 1))) (over_at s (past - k)) (suc p) (suc (second_at s (past - k)) - suc p) w) r → Walked s w m past k i r
    unfolding spread
    left {r} f = t.rest r (rw one_less f)

    goes_on_lem : {j : ℕ} → Here (answer.Yes j) → Turning s w m n past k i (p + 1) j
    goes_on_lem {j} f =
        let c : j ≡ next + length (projections (spans_in s past (k - 1)) (set w (over_at s (past - k)) p)) = counted (λ w. SheetEdge s w m) f in
        rw (add-one p)
        (record {
          ready = t.ready;
          more = t.more;
          high = omega arith;
          room = let r = rw (one_less, suc-mul) at t.room in omega (arith, as_many (spans_in s past (k - 1)) (set w (over_at s (past - k)) p));
          rest = λ r g. left (follow (λ w. SheetEdge s w m) _ f g);
        })

    -- an answer that is no yes
    stops : (a : Answer) → ((j : ℕ) → a ≡ answer.Yes j → ⊥) → Here a → Walked s w m past k i a
    stops a no_yes f = left (follow (λ w. SheetEdge s w m) _ f (go a no_yes))
      where
        go : (a : Answer) → ((j : ℕ) → a ≡ answer.Yes j → ⊥) → Onward (λ w. SheetEdge s w m) (spread (projections (spans_in s past (k - 1))) (over_at s (past - k)) (suc p) (suc (second_at s (past - k)) - suc p) w) a a
        go (answer.Refused x y) h = refl
        go (answer.Yes j) h = absurd (h j refl)
        go (answer.Cycle x) h = refl
        go (answer.Pair x y z) h = refl

  -- the same, as the code has the row and the durations
  module _ {p next o : ℕ} {r : Row} {w' : List ℕ} (t : Turning s w m n past k i p next) (e : r ≡ row_at s (past - k)) (l : p ≤ r.second) (ho : o ≡ r.over) (hw : w' ≡ set w o p) where
    low : p ≤ second_at s (past - k)
    low = rw e at l

    pub may_walk : WalkReady s w' m n past (k - 1) next
    may_walk = rw (hw, ho, e) (may_go t low)

    pub walked_on : {j : ℕ} {a : Answer} → a ≡ answer.Yes j → Walked s w' m past (k - 1) next a → Turning s w m n past k i (p + 1) j
    walked_on y f = goes_on_lem t low (rw (hw, ho, e, y) at f)

    pub walked_off : (a : Answer) → ((j : ℕ) → a ≡ answer.Yes j → ⊥) → Walked s w' m past (k - 1) next a → Walked s w m past k i a
    walked_off a h f = stops t low a h (rw (hw, ho, e) at f)

  pub ends : {p next : ℕ} {r : Row} → r ≡ row_at s (past - k) → Turning s w m n past k i p next → r.second < p → Walked s w m past k i (answer.Yes next)
  unfolding spread
  ends {p} {next} e t l =
      let h : second_at s (past - k) < p = rw e at l in
      let z : suc (second_at s (past - k)) - p ≡ 0 = omega arith in
      t.rest (answer.Yes next) (rw z all_good)
