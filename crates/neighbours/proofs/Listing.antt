-- Lists of the records by a key: building them from the last record to the first, and what a walk along one finds.
-- Assumes nothing.
use mathlib.Core.Path.{◌≡◌, refl, ◌∙◌, sym, ap}
use mathlib.Core.Bool.{Bool, true, false}
use mathlib.Core.List.{List, ◌∷◌}
use Prim.Native.Nat.{ℕ, zero, suc, ◌+◌, ◌-◌, ◌%◌, ◌<◌, ◌≤◌}
use native.Mathlib.Omega.{arith}
use native.Mathlib.Decide.{ℕ_discrete}
use borrow.Author.Tests.{lt-ltb, eq-eqb, ne_eqb, eqb-true}
use lib.Dec.{eqb, ltb}
use lib.ListN.{length, get_or, set, replicate, length-set, length-replicate, get_or-replicate}
use lib.Seq.{get_or-set_same, get_or-set_other}
use Rattle.std.specs.Prelude.{if◌then◌else◌}
use Rattle.plan.specs.Limits.{most_points, most_records}
use Rattle.neighbours.specs.Lists.{buckets, list_room, key_of, first_key, places_of, Indexed, chain, entries_of}
use Rattle.neighbours.proofs.Walking.{chain_end}

-- ---- building

-- every row has a list
key_small : (least kind point : ℕ) → key_of least kind point < buckets
key_small least kind point = go (ltb kind least)
  where
    go : (so : Bool) → (if so then most_points else point % buckets) < buckets
    go true = omega arith
    go false = omega arith

pub listed : (least kind point i k : ℕ) → i ≡ point % buckets → k ≡ (if ltb kind least then most_points else i) → (k ≡ key_of least kind point) × (k < buckets)
listed least kind point i k e f = let g : k ≡ key_of least kind point = rw e at f in (g, omega (arith, g, key_small least kind point))

-- the n records from i on are in their lists
pub record Built (key : ℕ → ℕ) (count i n : ℕ) (list : List ℕ) : Type 0 where
  pub parts : i + n ≡ count
  pub long : length list ≡ list_room
  pub firsts : (z : ℕ) → z < buckets → get_or list z 0 ≡ first_key key z i n
  pub nexts : (j : ℕ) → i ≤ j → j < count → get_or list (buckets + j) 0 ≡ first_key key (key j) (suc j) (count - suc j)
  pub rest : (j : ℕ) → count ≤ j → j < most_records → get_or list (buckets + j) 0 ≡ most_records

pub built_start : (key : ℕ → ℕ) (count : ℕ) (list : List ℕ) → list ≡ replicate list_room most_records → Built key count count 0 list
unfolding first_key
built_start key count list p =
    record {
      parts = omega arith;
      long = rw p (length-replicate list_room most_records);
      firsts = λ z h. rw p (get_or-replicate list_room z most_records 0 (omega arith));
      nexts = λ j a b. absurd (omega arith);
      rest = λ j a b. rw p (get_or-replicate list_room (buckets + j) most_records 0 (omega arith));
    }

module _ (key : ℕ → ℕ) (count : ℕ) (few : count ≤ most_records) (i n : ℕ) (list : List ℕ) (t : Built key count i n list) (j : ℕ) (e : i ≡ suc j) (k : ℕ) (here : k ≡ key j) (small : k < buckets) where
  -- a record more in front of its list
  pub built_turn : Built key count j (suc n) (set (set list (buckets + j) (get_or list k 0)) k j)
  unfolding first_key
  built_turn =
      record {
        parts = omega (arith, t.parts);
        long = simp length-set t.long;
        firsts = λ z h. put z h (ℕ_discrete z k);
        nexts = λ m a b. on m a b (ℕ_discrete m j);
        rest = λ m a b. get_or-set_other (set list (buckets + j) (get_or list k 0)) k (buckets + m) j 0 (λ u. omega arith) ∙ (get_or-set_other list (buckets + j) (buckets + m) (get_or list k 0) 0 (λ u. omega (arith, t.parts)) ∙ t.rest m a b);
      }
    where
      put : (z : ℕ) → z < buckets → Dec (z ≡ k) → get_or (set (set list (buckets + j) (get_or list k 0)) k j) z 0 ≡ (if eqb (key j) z then j else first_key key z (suc j) n)
      put z h (yes u) = rw (u, ← here, eq-eqb k k refl) (get_or-set_same (set list (buckets + j) (get_or list k 0)) k j 0 (simp length-set (omega (arith, t.long))))
      put z h (no d) =
          rw (get_or-set_other (set list (buckets + j) (get_or list k 0)) k z j 0 d, get_or-set_other list (buckets + j) z (get_or list k 0) 0 (λ u. omega arith), ← here, ne_eqb k z (λ u. d (sym u)), ← e)
          (t.firsts z h)

      left : count - suc j ≡ n
      left = omega (arith, t.parts)

      on : (m : ℕ) → j ≤ m → m < count → Dec (m ≡ j) → get_or (set (set list (buckets + j) (get_or list k 0)) k j) (buckets + m) 0 ≡ first_key key (key m) (suc m) (count - suc m)
      on m a b (yes u) =
          rw (u, get_or-set_other (set list (buckets + j) (get_or list k 0)) k (buckets + j) j 0 (λ v. omega arith), get_or-set_same list (buckets + j) (get_or list k 0) 0 (omega (arith, t.long, t.parts)), ← here, left, ← e)
          (t.firsts k small)
      on m a b (no d) =
          get_or-set_other (set list (buckets + j) (get_or list k 0)) k (buckets + m) j 0 (λ v. omega arith)
          ∙ (get_or-set_other list (buckets + j) (buckets + m) (get_or list k 0) 0 (λ v. d (omega arith)) ∙ t.nexts m (omega arith) b)

pub built_end : (key : ℕ → ℕ) (count i n : ℕ) (list : List ℕ) → i ≡ 0 → Built key count i n list → Indexed key count list
built_end key count i n list e t =
    let m : n ≡ count = omega (arith, t.parts) in
    record {
      long = t.long;
      firsts = λ z h. rw (e, m) at (t.firsts z h);
      nexts = λ j h. t.nexts j (omega arith) h;
      rest = t.rest;
    }

-- ---- a walk along a list finds each place with its key, once and in order

along : (list : List ℕ) (key : ℕ → ℕ) (z f i n : ℕ) → i + n ≤ most_records → n ≤ f
    → ((k : ℕ) → k < n → get_or list (buckets + (i + k)) 0 ≡ first_key key (key (i + k)) (suc (i + k)) (n - suc k))
    → chain f list (first_key key z i n) ≡ places_of key z i n
unfolding first_key places_of chain
along list key z f i zero fits fuel on = chain_end f list most_records (omega arith)
along list key z zero i (suc n) fits fuel on = absurd (omega arith)
along list key z (suc f) i (suc n) fits fuel on =
    go (eqb (key i) z) refl (along list key z f (suc i) n (omega arith) (omega arith) later) (along list key z (suc f) (suc i) n (omega arith) (omega arith) later)
  where
    later : (m : ℕ) → m < n → get_or list (buckets + (suc i + m)) 0 ≡ first_key key (key (suc i + m)) (suc (suc i + m)) (n - suc m)
    later m h =
        let e : i + suc m ≡ suc i + m = omega arith in
        let d : suc n - suc (suc m) ≡ n - suc m = omega arith in
        rw (e, d) at (on (suc m) (omega arith))

    go : (so : Bool) → eqb (key i) z ≡ so → chain f list (first_key key z (suc i) n) ≡ places_of key z (suc i) n → chain (suc f) list (first_key key z (suc i) n) ≡ places_of key z (suc i) n
        → chain (suc f) list (if so then i else first_key key z (suc i) n) ≡ (if so then i ∷ places_of key z (suc i) n else places_of key z (suc i) n)
    go true h it past =
        let e : i + 0 ≡ i = omega arith in
        let d : suc n - suc 0 ≡ n = omega arith in
        let m = rw (e, d, eqb-true (key i) z h) at (on 0 (omega arith)) in
        rw (lt-ltb i most_records (omega arith), m) (ap (λ (l : List ℕ). i ∷ l) it)
    go false h it past = past

-- 'the entries of z are exactly the records with key z, each once, in file order'
pub entries : (key : ℕ → ℕ) (count : ℕ) (list : List ℕ) → count ≤ most_records → Indexed key count list → (z : ℕ) → z < buckets → entries_of list z ≡ places_of key z 0 count
entries key count list few x z h =
    let s : z % buckets ≡ z = omega arith in
    rw (s, x.firsts z h)
    (along list key z most_records 0 count (omega arith) (omega arith)
    (λ k b. let e : 0 + k ≡ k = omega arith in rw e (x.nexts k b)))
