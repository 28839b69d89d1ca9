-- The made records are accepted after the plan's points: each is known, in order, within the limit, between points that are there,
-- of a pair that no earlier one has, and within its bounds. Assumes nothing.
use mathlib.Core.Path.{◌≡◌, refl, ap, ◌∙◌}
use mathlib.Core.Logic.{◌⊎◌, inl, inr}
use mathlib.Core.Bool.{Bool, true, false, ◌&&◌, ◌||◌}
use mathlib.Core.List.{List, [], ◌∷◌, ◌++◌, map, append_assoc, append-nil}
use Prim.Native.Nat.{ℕ, zero, suc, ◌+◌, ◌-◌, ◌*◌, ◌<◌, ◌≤◌}
use native.Mathlib.Omega.{arith}
use lib.Dec.{eqb, ltb, eqb-suc-zero}
use lib.IntN.{pos, neg_ℤ, sub_ℕ}
use lib.Signed.{le_z}
use lib.ListN.{length}
use lib.Seq.{append_snoc}
use borrow.Author.Tests.{ltb-true, ltb-false, lt-ltb, le-leb, ne_eqb}
use Rattle.plan.specs.Limits.{most_points, most_ordinary, farthest}
use Rattle.plan.specs.APlan.{point, ordinary, is, how_many, points, leads, from_to}
use Rattle.plan.specs.Haul.{an_ordinary}
use Rattle.plan.specs.ReplyNumbers.{last_kind, number_of, number_for_with, after, first_bad, first_bad_with}
use Rattle.plan.specs.Held.{plain}
use Rattle.plan.proofs.Records.{many_snoc, some_snoc, last_snoc}
use Rattle.records.specs.declared.Record.{Record}
use Rattle.tables.specs.Tables.{Table, bias, none}
use Rattle.vee.proofs.Rules.{clash}
use Rattle.vee.proofs.Yes.{Every, also}
use Rattle.vee.proofs.Yes.Every.{none as no_more}
use Rattle.closure.specs.Closing.{record_of, gathered, row_of, records_by, too_far}
use Rattle.closure.proofs.Making.{IsPoint, count_none, count_all, some_none, pairs, pairs_of}

-- what passes in front passes whatever follows
pub fronts : (pre xs ys zs : List Record) → (first_bad pre (map plain (xs ++ ys))).number ≡ 0 → first_bad pre (map plain (xs ++ zs)) ≡ first_bad (pre ++ xs) (map plain zs)
unfolding first_bad_with
fronts pre [] ys zs e = rw (append-nil pre) refl
fronts pre (x ∷ xs) ys zs e = go (number_of (after pre) x 0) refl (λ h. fronts (pre ++ (x ∷ [])) xs ys zs h)
  where
    go : (k : ℕ) → number_of (after pre) x 0 ≡ k
        → ((first_bad (pre ++ (x ∷ [])) (map plain (xs ++ ys))).number ≡ 0 → first_bad (pre ++ (x ∷ [])) (map plain (xs ++ zs)) ≡ first_bad (pre ++ (x ∷ []) ++ xs) (map plain zs))
        → first_bad pre (map plain ((x ∷ xs) ++ zs)) ≡ first_bad (pre ++ (x ∷ xs)) (map plain zs)
    go zero h rec = rw h (rec (rw h at e) ∙ ap (λ (l : List Record). first_bad l (map plain zs)) (append_snoc pre x xs))
    go (suc k) h rec = absurd (let z : suc k ≡ 0 = rw (h, eqb-suc-zero k) at e in omega arith)

-- within its bounds, a distance is one that a record may have
within : (m v : ℕ) → bias ≤ v + m → v ≤ bias + m → (le_z (neg_ℤ (pos m)) (sub_ℕ v bias) && le_z (sub_ℕ v bias) (pos m)) ≡ true
within m v l h = go (ltb v bias) refl m l h
  where
    go : (b : Bool) → ltb v bias ≡ b → (m : ℕ) → bias ≤ v + m → v ≤ bias + m → (le_z (neg_ℤ (pos m)) (sub_ℕ v bias) && le_z (sub_ℕ v bias) (pos m)) ≡ true
    go true e zero l h = absurd (omega (arith, ltb-true v bias e))
    go true e (suc m) l h = rw (e, le-leb (bias - suc v) m (omega arith)) refl
    go false e zero l h = rw (e, le-leb 0 (v - bias) (omega arith), le-leb (v - bias) 0 (omega arith)) refl
    go false e (suc m) l h = rw (e, le-leb (v - bias) (suc m) (omega (arith, ltb-false v bias e))) refl

pub not_far : (v : ℕ) → v < none → too_far v ≡ false → (bias ≤ v + farthest) × (v ≤ bias + farthest)
not_far v h e = go (ltb (v + farthest) bias) refl (ltb (bias + farthest) v) refl
  where
    go : (a : Bool) → ltb (v + farthest) bias ≡ a → (b : Bool) → ltb (bias + farthest) v ≡ b → (bias ≤ v + farthest) × (v ≤ bias + farthest)
    go true p b q = clash (rw (lt-ltb v none h, p) at e)
    go false p true q = clash (rw (lt-ltb v none h, p, q) at e)
    go false p false q = (ltb-false (v + farthest) bias p, ltb-false (bias + farthest) v q)

module _ (n : ℕ) (f : Table) (few : n ≤ most_points) (near : (X Y : ℕ) → X < n → Y < n → too_far (f X Y) ≡ false) where
  -- the records so far: n points, and ordinary records of pairs before (X, Y)
  record Sofar (X Y : ℕ) (pre : List Record) : Type 0 where
    last : last_kind 0 pre ≤ 3
    counts : points pre ≡ n
    room : how_many (is ordinary) pre ≤ X * 32 + Y
    free : (x y : ℕ) → (X < x) ⊎ ((X ≡ x) × (Y ≤ y)) → leads pre x y ≡ false

  -- the record of the next pair is accepted
  module _ (X Y : ℕ) (hx : X < n) (hy : Y < n) (pre : List Record) (s : Sofar X Y pre) where
    passes : (X ≡ Y → ⊥) → f X Y < none → number_of (after pre) (an_ordinary X (sub_ℕ (f X Y) bias) Y) 0 ≡ 0
    unfolding number_for_with
    passes x h =
        let a = not_far (f X Y) h (near X Y hx hy) in
        rw (le-leb (last_kind 0 pre) 3 s.last, lt-ltb (how_many (is ordinary) pre) most_ordinary (omega (arith, s.room)), s.counts, lt-ltb X n hx, lt-ltb Y n hy, ne_eqb X Y x, s.free X Y (inr (refl, omega arith)), within farthest (f X Y) a.0 a.1) refl

    more : Sofar X (suc Y) (pre ++ (an_ordinary X (sub_ℕ (f X Y) bias) Y ∷ []))
    more = record {
      last = omega (arith, last_snoc 0 pre (an_ordinary X (sub_ℕ (f X Y) bias) Y));
      counts = omega (arith, many_snoc (is point) pre (an_ordinary X (sub_ℕ (f X Y) bias) Y), s.counts);
      room = omega (arith, many_snoc (is ordinary) pre (an_ordinary X (sub_ℕ (f X Y) bias) Y), s.room);
      free = λ x y h. rw (some_snoc (from_to x y) pre (an_ordinary X (sub_ℕ (f X Y) bias) Y)) (other x y h);
    }
      where
        other : (x y : ℕ) → (X < x) ⊎ ((X ≡ x) × (suc Y ≤ y)) → (from_to x y (an_ordinary X (sub_ℕ (f X Y) bias) Y) || leads pre x y) ≡ false
        other x y (inl l) = rw (ne_eqb x X (λ e. omega arith)) (s.free x y (inl l))
        other x y (inr l) = rw (ne_eqb y Y (λ e. omega (arith, l.1)), s.free x y (inr (l.0, omega (arith, l.1)))) (false_and (eqb x X))
          where
            false_and : (b : Bool) → (b && false || false) ≡ false
            false_and true = refl
            false_and false = refl

    skip : Sofar X (suc Y) pre
    skip = record { last = s.last; counts = s.counts; room = omega (arith, s.room); free = λ x y h. s.free x y (before x y h) }
      where
        before : (x y : ℕ) → (X < x) ⊎ ((X ≡ x) × (suc Y ≤ y)) → (X < x) ⊎ ((X ≡ x) × (Y ≤ y))
        before x y (inl l) = inl l
        before x y (inr l) = inr (l.0, omega (arith, l.1))

  -- the rest is accepted where it is after all of them
  abbrev Goes : List Record → List Record → Type 0
  Goes pre rs = (first_bad pre (map plain rs)).number ≡ 0

  pair : (X Y : ℕ) → X < n → Y < n → (pre rest : List Record) → Sofar X Y pre → ((pre' : List Record) → Sofar X (suc Y) pre' → Goes pre' rest) → Goes pre (record_of X Y (f X Y) ++ rest)
  unfolding first_bad_with
  pair X Y hx hy pre rest s on = go (pairs X Y (f X Y)) refl
    where
      go : (b : Bool) → pairs X Y (f X Y) ≡ b → Goes pre (record_of X Y (f X Y) ++ rest)
      go true e =
          let a = pairs_of X Y (f X Y) e in
          rw (e, passes X Y hx hy pre s a.0 a.1) (on (pre ++ (an_ordinary X (sub_ℕ (f X Y) bias) Y ∷ [])) (more X Y hx hy pre s))
      go false e = rw e (on pre (skip X Y hx hy pre s))

  row : (X : ℕ) → X < n → (Y k : ℕ) → Y + k ≡ n → (pre rest : List Record) → Sofar X Y pre → ((pre' : List Record) → Sofar X n pre' → Goes pre' rest)
      → Goes pre (gathered Y k (λ y. record_of X y (f X y)) ++ rest)
  unfolding gathered
  row X hx Y zero e pre rest s on = on pre (let z : Y ≡ n = omega arith in rw z at s)
  row X hx Y (suc k) e pre rest s on =
      rw (append_assoc (record_of X Y (f X Y)) (gathered (suc Y) k (λ y. record_of X y (f X y))) rest)
      (pair X Y hx (omega arith) pre (gathered (suc Y) k (λ y. record_of X y (f X y)) ++ rest) s (λ pre' s'. row X hx (suc Y) k (omega arith) pre' rest s' on))

  rows : (X k : ℕ) → X + k ≡ n → (pre : List Record) → Sofar X 0 pre → Goes pre (gathered X k (row_of n f))
  unfolding gathered first_bad_with
  rows X zero e pre s = refl
  rows X (suc k) e pre s =
      row X (omega arith) 0 n (omega arith) pre (gathered (suc X) k (row_of n f)) s
      (λ pre' s'. rows (suc X) k (omega arith) pre' (record {
        last = s'.last;
        counts = s'.counts;
        room = omega (arith, s'.room);
        free = λ x y h. s'.free x y (inl (after_row x y h));
      }))
    where
      after_row : (x y : ℕ) → (suc X < x) ⊎ ((suc X ≡ x) × (0 ≤ y)) → X < x
      after_row x y (inl l) = omega arith
      after_row x y (inr l) = omega (arith, l.0)

  -- The made records are accepted after n points.
  pub rest_accepted : (pts : List Record) → Every IsPoint pts → length pts ≡ n → (first_bad pts (map plain (records_by n f))).number ≡ 0
  unfolding last_kind
  rest_accepted pts are e = rows 0 n (omega arith) pts (record {
    last = lasts 0 are (omega arith);
    counts = count_all (is point) (λ r e. rw e refl) are ∙ e;
    room = omega (arith, count_none (is ordinary) (λ r e. rw e refl) are);
    free = λ x y h. some_none (from_to x y) (λ r e. rw e refl) are;
  })
    where
      lasts : (k : ℕ) {xs : List Record} → Every IsPoint xs → k ≤ 3 → last_kind k xs ≤ 3
      lasts k no_more h = h
      lasts k (also {x} p e) h = lasts x.kind e (omega arith)
