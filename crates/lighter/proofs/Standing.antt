-- What is promised of the lighter plan: it passes, it has the same distances, none of its ordinary records could still go, and the
-- same minutes keep it. Fewer records never shorten a distance and never add a way, so what could not go before cannot go later.
-- Assumes nothing.
use mathlib.Core.Path.{◌≡◌, refl, sym, ap, subst, ◌∙◌}
use mathlib.Core.List.{List, [], ◌∷◌, ◌++◌, append-nil}
use Prim.Native.Nat.{ℕ, min, ◌+◌, ◌≤◌}
use native.Mathlib.Omega.{arith}
use native.Mathlib.Decide.{ℕ_discrete}
use lib.ListN.{length, get_or, drop, length-append}
use lib.Seq.{append_snoc}
use borrow.Author.Tests.{eqb-true}
use Rattle.plan.specs.APlan.{blank}
use Rattle.records.specs.declared.Record.{Record}
use Rattle.network.specs.Projection.{InBounds, Edge, ordinary, there, back, wait}
use Rattle.network.specs.Walks.{Walk, nil, step}
use Rattle.network.specs.Passing.{Good, Passes}
use Rattle.vee.specs.PlanTest.{net_of}
use Rattle.lighter.specs.Lighter.{MayGo, Goes, ends, drops, keeps}
use Rattle.lighter.specs.Promises.{KeptBy, Stands}
use Rattle.lighter.proofs.Skips.{edge_more}
use Rattle.lighter.proofs.Covering.{Edges, Covers, covers_edges, covers_trans, covers_same, same_covers, between}
use Rattle.lighter.proofs.Sparing.{bounds_less, bounds_more}
use Rattle.lighter.proofs.Keeping.{Stays, goes_stays, stays_others, all_back, all_rising, stays_edges, stays_bounds, bounds_stay}

-- ---- it passes and has the same distances

-- qs, what is left of rs, passes, and for every walk over rs one over qs is no longer
pub record Left (rs qs : List Record) : Type 0 where
  pub passes : Passes (net_of qs)
  pub covers : (ω : ℕ → ℕ) → InBounds (net_of rs) ω → Covers (Edge (net_of rs) ω) (Edge (net_of qs) ω)

left_all : (rs : List Record) → Passes (net_of rs) → Left rs rs
left_all rs p = record { passes = p; covers = λ ω b. covers_edges (λ X Y u d e. record { up = u + 0; down = d + 0; walk = step e nil; short = omega arith }) }

-- one record less
left_less : (ks : List Record) (r : Record) (more : List Record) {qs : List Record} → MayGo ks r more → Passes (net_of (ks ++ (r ∷ more))) → Left (ks ++ more) qs → Left (ks ++ (r ∷ more)) qs
left_less ks r more m p l =
    record {
      passes = l.passes;
      covers = λ ω b. covers_trans (same_covers (p.each ω b) (m.same.each ω b)) (l.covers ω (bounds_less ks r more (eqb-true r.kind 3 m.ordinary) b));
    }

pub goes_left : {ks rs qs : List Record} {i : ℕ} {ds : List ℕ} → Goes ks i rs qs ds → Passes (net_of (ks ++ rs)) → Left (ks ++ rs) qs
goes_left {ks} ends p = subst (λ (l : List Record). Left l ks) (sym (append-nil ks)) (left_all ks (subst (λ (l : List Record). Passes (net_of l)) (append-nil ks) p))
goes_left {ks} (drops {more = more} {r = r} m g) p = left_less ks r more m p (goes_left g m.passes)
goes_left {ks} {qs = qs} (keeps {more = more} {r = r} n g) p =
    subst (λ (l : List Record). Left l qs) (append_snoc ks r more) (goes_left g (subst (λ (l : List Record). Passes (net_of l)) (sym (append_snoc ks r more)) p))

-- ---- none could still go

-- a record that may go from what is left of the records after it may go from all of them
still_may : {ks more ts : List Record} {r : Record} {i : ℕ} {ds : List ℕ} → Stays i more ts ds → Left (ks ++ (r ∷ more)) (ks ++ (r ∷ ts)) → MayGo ks r ts → MayGo ks r more
still_may {ks} {more} {ts} {r} s l m =
    record {
      ordinary = m.ordinary;
      passes = record { each = λ ω b. (squeezed ω b).0 };
      same = record { each = λ ω b. covers_same (edge_more ks r more) (squeezed ω (bounds_less ks r more kind b)).1 };
    }
  where
    kind : r.kind ≡ 3
    kind = eqb-true r.kind 3 m.ordinary

    squeezed : (ω : ℕ → ℕ) → InBounds (net_of (ks ++ more)) ω → Good (Edge (net_of (ks ++ more)) ω) × Covers (Edge (net_of (ks ++ (r ∷ more))) ω) (Edge (net_of (ks ++ more)) ω)
    squeezed ω b =
        let b' = bounds_stay s ks b in
        let b'' = bounds_more ks r ts kind b' in
        let c = covers_trans (l.covers ω (bounds_more ks r more kind b)) (same_covers (l.passes.each ω b'') (m.same.each ω b'')) in
        between (stays_edges s ks) (edge_more ks r more) c (m.passes.each ω b')

-- a list cut at the same place twice
split_same : (js ks : List Record) {x r : Record} {bs ts : List Record} → length js ≡ length ks → js ++ (x ∷ bs) ≡ ks ++ (r ∷ ts) → (js ≡ ks) × (x ≡ r) × (bs ≡ ts)
split_same [] [] n e = (refl, ap (λ (l : List Record). get_or l 0 blank) e, ap (λ (l : List Record). drop 1 l) e)
split_same [] (k ∷ ks) n e = absurd (omega arith)
split_same (a ∷ js) [] n e = absurd (omega arith)
split_same (a ∷ js) (k ∷ ks) n e =
    let h : a ≡ k = ap (λ (l : List Record). get_or l 0 blank) e in
    let s = split_same js ks (omega arith) (ap (λ (l : List Record). drop 1 l) e) in
    (rw (h, s.0) refl, s.1, s.2)

-- of the records that were still to come, none that stays could still go
none_still : {ks rs qs : List Record} {i : ℕ} {ds : List ℕ} → Goes ks i rs qs ds → Passes (net_of (ks ++ rs)) → (js bs : List Record) (x : Record) → length ks ≤ length js → qs ≡ js ++ (x ∷ bs) → MayGo js x bs → ⊥
none_still {ks} ends p js bs x h e m = omega (arith, ap (λ (l : List Record). length l) e, length-append js (x ∷ bs))
none_still (drops m g) p js bs x h e may = none_still g m.passes js bs x h e may
none_still {ks} {qs = qs} (keeps {more = more} {r = r} n g) p js bs x h e may =
    go (ℕ_discrete (length js) (length ks)) (λ h'. none_still g later js bs x h' e may)
  where
    later : Passes (net_of ((ks ++ (r ∷ [])) ++ more))
    later = subst (λ (l : List Record). Passes (net_of l)) (sym (append_snoc ks r more)) p

    go : Dec (length js ≡ length ks) → (length (ks ++ (r ∷ [])) ≤ length js → ⊥) → ⊥
    go (no l) rec = rec (omega (arith, length-append ks (r ∷ [])))
    go (yes l) rec =
        let s = goes_stays g in
        let q : qs ≡ ks ++ (r ∷ s.0) = s.1 ∙ append_snoc ks r s.0 in
        let c = split_same js ks l (sym e ∙ q) in
        let left : Left (ks ++ (r ∷ more)) (ks ++ (r ∷ s.0)) =
        subst (λ (l : List Record). Left l (ks ++ (r ∷ s.0))) (append_snoc ks r more) (subst (λ (l : List Record). Left ((ks ++ (r ∷ [])) ++ more) l) q (goes_left g later)) in
        let may' : MayGo ks r s.0 = rw (c.0, c.1, c.2) at may in
        n (still_may s.2 left may')

-- ---- the same minutes keep both

-- g keeps each edge
abbrev Potential : Edges → (ℕ → ℕ) → Type 0
Potential E g = (X Y u d : ℕ) → E X Y u d → g Y + d ≤ g X + u

walked : {E : Edges} (g : ℕ → ℕ) → Potential E g → {X Y u d : ℕ} → Walk E X Y u d → g Y + d ≤ g X + u
walked g h nil = omega arith
walked g h (step e w) = omega (arith, h _ _ _ _ e, walked g h w)

covered : {E F : Edges} (g : ℕ → ℕ) → Covers E F → Potential F g → Potential E g
covered g c h X Y u d e = let k = c.by (step e nil) in omega (arith, k.short, walked g h k.walk)

module _ {rs : List Record} {ω g : ℕ → ℕ} where
  keeps_edges : KeptBy rs ω g → Potential (Edge (net_of rs) ω) g
  keeps_edges k X Y u d (ordinary o) = k.records o
  keeps_edges k X Y u d (there l) = omega (arith, k.links l)
  keeps_edges k X Y u d (back l) = omega (arith, k.links l)
  keeps_edges k X Y u d (wait l w) = omega (arith, k.waits l w)

  edges_keep : InBounds (net_of rs) ω → Potential (Edge (net_of rs) ω) g → KeptBy rs ω g
  edges_keep b h =
      record {
        within = b;
        records = λ o. h _ _ _ _ (ordinary o);
        links = λ {A} {x} {y} {C} l. omega (arith, h A C (ω C) 0 (there l), h C A 0 (ω C) (back l));
        waits = λ {A} {x} {y} {B} {C} {w} l k. omega (arith, h B A 0 (min w (ω C)) (wait l k));
      }

-- ---- all of it

-- What is left of the records of a plan that passes stands.
pub stands : {rs qs : List Record} {ds : List ℕ} → Goes [] 0 rs qs ds → Passes (net_of rs) → Stands rs qs ds
stands {rs} {qs} {ds} g p =
    let s = goes_stays g in
    let stays : Stays 0 rs qs ds = subst (λ (l : List Record). Stays 0 rs l ds) (sym s.1) s.2 in
    let l = goes_left g p in
    record {
      passes = l.passes;
      same = record { each = λ ω b. covers_same (stays_edges stays []) (l.covers ω b) };
      none_left = λ ks more r e m. none_still g p ks more r (omega arith) e m;
      untouched = stays_others stays;
      back = all_back stays;
      in_order = all_rising stays;
      kept = λ ω h k. let b = stays_bounds stays [] k.within in edges_keep b (covered h (l.covers ω b) (keeps_edges k));
      still_kept = λ ω h k. edges_keep (bounds_stay stays [] k.within) (λ X Y u d e. keeps_edges k X Y u d (stays_edges stays [] X Y u d e));
    }
