-- Records ks ++ r ∷ xs of which r is left out: what is so of them, and what the network has. Assumes nothing.
use mathlib.Core.Path.{◌≡◌, refl, sym, ap, ◌∙◌}
use mathlib.Core.Logic.{◌⊎◌, inl, inr}
use mathlib.Core.Bool.{Bool, true, false, ◌||◌}
use mathlib.Core.List.{List, [], ◌∷◌, ◌++◌, append-nil}
use Prim.Native.Nat.{ℕ, zero, suc, ◌+◌, ◌≤◌}
use native.Mathlib.Omega.{arith}
use Rattle.std.specs.Prelude.{if◌then◌else◌}
use Rattle.plan.specs.APlan.{Kind, link, is, one, how_many, some, first_that}
use Rattle.plan.specs.ReplyNumbers.{last_kind}
use Rattle.records.specs.declared.Record.{Record}
use Rattle.network.specs.Projection.{Edge, ordinary, there, back, wait}
use Rattle.vee.specs.PlanTest.{Has, OrdinaryIn, LinkIn, WaitIn, net_of, spans, in_front, span_of}

-- ---- what is so of them

module _ (so : Record → Bool) (r : Record) (xs : List Record) where
  pub many_skip : (ks : List Record) → how_many so (ks ++ (r ∷ xs)) ≡ one (so r) + how_many so (ks ++ xs)
  unfolding how_many
  many_skip [] = refl
  many_skip (k ∷ ks) = omega (arith, many_skip ks)

  -- one that is not so changes nothing
  pub some_skip : so r ≡ false → (ks : List Record) → some so (ks ++ (r ∷ xs)) ≡ some so (ks ++ xs)
  unfolding some
  some_skip e [] = rw e refl
  some_skip e (k ∷ ks) = ap (λ (b : Bool). so k || b) (some_skip e ks)

  pub first_skip : so r ≡ false → (ks : List Record) → first_that so (ks ++ (r ∷ xs)) ≡ first_that so (ks ++ xs)
  unfolding first_that
  first_skip e [] = rw e refl
  first_skip e (k ∷ ks) = ap (λ (x : Record). if so k then k else x) (first_skip e ks)

  -- and where none is, none of the rest is
  pub none_skip : (ks : List Record) → some so (ks ++ (r ∷ xs)) ≡ false → some so (ks ++ xs) ≡ false
  unfolding some
  none_skip [] e = go (so r) e
    where
      go : (b : Bool) → (b || some so xs) ≡ false → some so xs ≡ false
      go true e = absurd (let z : ◌≡◌ {A = ℕ} 0 1 = cc in omega arith)
      go false e = e
  none_skip (k ∷ ks) e = go (so k) e (none_skip ks)
    where
      go : (b : Bool) → (b || some so (ks ++ (r ∷ xs))) ≡ false → (some so (ks ++ (r ∷ xs)) ≡ false → some so (ks ++ xs) ≡ false) → (b || some so (ks ++ xs)) ≡ false
      go true e rec = absurd (let z : ◌≡◌ {A = ℕ} 0 1 = cc in omega arith)
      go false e rec = rec e

-- the last kind
last_append : (k : ℕ) (ks : List Record) (x : Record) (xs : List Record) → last_kind k (ks ++ (x ∷ xs)) ≡ last_kind x.kind xs
unfolding last_kind
last_append k [] x xs = refl
last_append k (y ∷ ks) x xs = last_append y.kind ks x xs

pub last_skip : (ks : List Record) (r : Record) (xs : List Record) → last_kind 0 ks ≤ r.kind → last_kind 0 (ks ++ xs) ≤ last_kind 0 (ks ++ (r ∷ xs))
unfolding last_kind
last_skip ks r [] h = omega (arith, ap (last_kind 0) (append-nil ks), last_append 0 ks r [])
last_skip ks r (x ∷ xs) h = omega (arith, last_append 0 ks x xs, last_append 0 ks r (x ∷ xs))

-- the links
pub spans_skip : (ks : List Record) (r : Record) (xs : List Record) → is link r ≡ false → spans (ks ++ (r ∷ xs)) ≡ spans (ks ++ xs)
unfolding spans
spans_skip [] r xs e = rw e refl
spans_skip (k ∷ ks) r xs e = ap (λ ls. in_front (is link k) (span_of k) ls) (spans_skip ks r xs e)

-- ---- what the network has

-- one more in front
ahead : {k : Kind} {x y : Record} {rs : List Record} → Has rs k x → Has (y ∷ rs) k x
ahead h = record { place = suc h.place; listed = omega (arith, h.listed); here = h.here; kind = h.kind }

behind : {A : Type 0} {k : Kind} {x y : Record} {rs : List Record} → Has (y ∷ rs) k x → (y ≡ x → is k x ≡ true → A) → (Has rs k x → A) → A
behind {A} {k} {x} {y} {rs} h f g = go h.place refl
  where
    go : (p : ℕ) → h.place ≡ p → A
    go zero e = f (rw e at h.here) h.kind
    go (suc p) e = g (record { place = p; listed = omega (arith, h.listed); here = rw e at h.here; kind = h.kind })

module _ {k : Kind} {x : Record} (r : Record) (xs : List Record) where
  pub has_more : (ks : List Record) → Has (ks ++ xs) k x → Has (ks ++ (r ∷ xs)) k x
  has_more [] h = ahead h
  has_more (y ∷ ks) h = behind h (λ e i. record { place = 0; listed = omega arith; here = e; kind = i }) (λ g. ahead (has_more ks g))

  -- each of the records is r, or one of the rest
  pub has_less : (ks : List Record) → Has (ks ++ (r ∷ xs)) k x → (x ≡ r) ⊎ Has (ks ++ xs) k x
  has_less [] h = behind h (λ e i. inl (sym e)) inr
  has_less (y ∷ ks) h = behind h (λ e i. inr (record { place = 0; listed = omega arith; here = e; kind = i })) (λ g. go (has_less ks g))
    where
      go : (x ≡ r) ⊎ Has (ks ++ xs) k x → (x ≡ r) ⊎ Has (y ∷ (ks ++ xs)) k x
      go (inl e) = inl e
      go (inr h) = inr (ahead h)

module _ (ks : List Record) (r : Record) (xs : List Record) where
  pub has_it : (k : Kind) → is k r ≡ true → Has (ks ++ (r ∷ xs)) k r
  has_it k e = go ks
    where
      go : (ks : List Record) → Has (ks ++ (r ∷ xs)) k r
      go [] = record { place = 0; listed = omega arith; here = refl; kind = e }
      go (y ∷ ks) = ahead (go ks)

  pub link_more : {A x y C : ℕ} → LinkIn (ks ++ xs) A x y C → LinkIn (ks ++ (r ∷ xs)) A x y C
  link_more l = record { what = l.what; has = has_more r xs ks l.has; from = l.from; to = l.to; least = l.least; most = l.most }

  pub wait_more : {B C w : ℕ} → WaitIn (ks ++ xs) B C w → WaitIn (ks ++ (r ∷ xs)) B C w
  wait_more l = record { what = l.what; has = has_more r xs ks l.has; holds = l.holds; until = l.until; long = l.long }

  pub ordinary_more : {X u d Y : ℕ} → OrdinaryIn (ks ++ xs) X u d Y → OrdinaryIn (ks ++ (r ∷ xs)) X u d Y
  ordinary_more l = record { what = l.what; has = has_more r xs ks l.has; from = l.from; to = l.to; up = l.up; down = l.down }

  -- fewer records have fewer edges
  pub edge_more : {ω : ℕ → ℕ} → (X Y u d : ℕ) → Edge (net_of (ks ++ xs)) ω X Y u d → Edge (net_of (ks ++ (r ∷ xs))) ω X Y u d
  edge_more X Y u d (ordinary o) = ordinary (ordinary_more o)
  edge_more X Y u d (there l) = there (link_more l)
  edge_more X Y u d (back l) = back (link_more l)
  edge_more X Y u d (wait l w) = wait (link_more l) (wait_more w)

  -- where r is not of a kind, the rest has each record of it
  pub other : {k : Kind} → is k r ≡ false → {x : Record} → Has (ks ++ (r ∷ xs)) k x → Has (ks ++ xs) k x
  other {k} e {x} h = go (has_less r xs ks h)
    where
      go : (x ≡ r) ⊎ Has (ks ++ xs) k x → Has (ks ++ xs) k x
      go (inr g) = g
      go (inl q) = absurd (let z : true ≡ false = sym h.kind ∙ rw q e in let y : ◌≡◌ {A = ℕ} 0 1 = cc in omega arith)
