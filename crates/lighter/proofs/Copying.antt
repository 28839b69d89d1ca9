-- A list that is filled from the front, and the plan of a plan's records but one. Assumes nothing.
use mathlib.Core.Path.{◌≡◌, refl, sym, ap, ◌∙◌}
use mathlib.Core.List.{List, [], ◌∷◌, ◌++◌}
use Prim.Native.Nat.{ℕ, suc, ◌+◌, ◌-◌, ◌<◌, ◌≤◌}
use native.Mathlib.Omega.{arith}
use native.Mathlib.Decide.{dec_lt}
use native.Mathlib.Numerals.{add-one}
use lib.Dec.{ltb, leb}
use lib.ListN.{length, get_or, set, take, drop, replicate, length-append, length-take, length-drop, length-set, length-replicate, get_or-append}
use lib.Seq.{set_at, append_snoc, take-suc, take_all, get_or-take, get_or-drop, get_or-append-add}
use borrow.Author.Tests.{lt-ltb, le-ltb, le-leb, lt-leb}
use Rattle.plan.specs.Limits.{most_records}
use Rattle.plan.specs.APlan.{one, blank, records_of, plan_of}
use Rattle.records.specs.declared.Record.{Record}
use Rattle.plan.specs.declared.Plan.{Plan}
use Rattle.lighter.specs.Inside.{but}

-- the next place is stored
pub stored : {A : Type 0} (xs : List A) (i m : ℕ) (v z : A) → length xs ≡ i → i < m → set (xs ++ replicate (m - i) z) i v ≡ (xs ++ (v ∷ [])) ++ replicate (m - (i + 1)) z
stored xs i m v z n h =
    let e : m - i ≡ suc (m - (i + 1)) = omega arith in
    rw e (set_at xs z (replicate (m - (i + 1)) z) v i n ∙ sym (append_snoc xs v (replicate (m - (i + 1)) z)))

-- what is there already is stored
pub stored_again : {A : Type 0} (xs : List A) (i m : ℕ) (z : A) → length xs ≡ i → i < m → set (xs ++ replicate (m - i) z) i z ≡ xs ++ replicate (m - i) z
stored_again xs i m z n h =
    let e : m - i ≡ suc (m - (i + 1)) = omega arith in
    rw e (set_at xs z (replicate (m - (i + 1)) z) z i n)

module _ (p : Plan) (k : ℕ) (long : length p.records ≡ most_records) (few : p.count ≤ most_records) where
  abbrev rs : List Record
  rs = records_of p

  all_of : length (records_of p) ≡ p.count
  all_of = omega (arith, length-take p.count p.records)

  -- one fewer where the place is there
  pub fewer : length (but k (records_of p)) ≡ p.count - one (ltb k p.count)
  fewer =
      let a = length-append (take k rs) (drop (suc k) rs) in
      let b = length-take k rs in
      let c = length-drop (suc k) rs in
      elim (dec_lt k p.count) [
        | yes h ↦ rw (lt-ltb k p.count h) (omega (arith, a, b, c, all_of))
        | no h ↦ rw (le-ltb k p.count (omega arith)) (omega (arith, a, b, c, all_of))
      ]

  -- each by its place in the plan
  pub element : (i : ℕ) → i < length (but k (records_of p)) → get_or (but k (records_of p)) i blank ≡ get_or p.records (i + one (leb k i)) blank
  element i h =
      elim (dec_lt i k) [
        | yes l ↦
            let z : i + 0 ≡ i = omega arith in
            let t = length-take k rs in
            rw (lt-leb k i l, z)
            (get_or-append (take k rs) (drop (suc k) rs) blank i (omega (arith, t, all_of, fewer))
            ∙ get_or-take k rs i blank l
            ∙ get_or-take p.count p.records i blank (omega (arith, fewer)))
        | no l ↦
            let t : length (take k rs) ≡ k = omega (arith, length-take k rs, length-append (take k rs) (drop (suc k) rs), length-drop (suc k) rs, all_of) in
            let q : i ≡ length (take k rs) + (i - k) = omega (arith, t) in
            let s : suc k + (i - k) ≡ i + 1 = omega arith in
            rw (le-leb k i (omega arith))
            (ap (λ (j : ℕ). get_or (but k rs) j blank) q
            ∙ get_or-append-add (take k rs) (drop (suc k) rs) (i - k) blank
            ∙ get_or-drop (suc k) rs (i - k) blank
            ∙ ap (λ (j : ℕ). get_or rs j blank) s
            ∙ get_or-take p.count p.records (i + 1) blank (omega (arith, length-append (take k rs) (drop (suc k) rs), length-drop (suc k) rs, t, all_of)))
      ]

-- ---- the loop

-- the first i are copied
pub record Copied (p : Plan) (k n : ℕ) (records : List Record) (i : ℕ) : Type 0 where
  pub long : length p.records ≡ most_records
  pub few : p.count ≤ most_records
  pub room : length records ≡ most_records
  pub many : n ≡ p.count - one (ltb k p.count)
  pub within : i ≤ n
  pub so_far : records ≡ take i (but k (records_of p)) ++ replicate (most_records - i) blank

pub one_below : (k c : ℕ) → one (ltb k c) ≤ c
one_below k c = elim (dec_lt k c) [
  | yes h ↦ rw (lt-ltb k c h) (omega arith)
  | no h ↦ rw (le-ltb k c (omega arith)) (omega arith)
]

-- a record that is read is there
pub in_plan : (k c i n : ℕ) → n ≡ c - one (ltb k c) → i < n → i + one (leb k i) < c
in_plan k c i n e h =
    elim (dec_lt i k) [
      | yes l ↦ rw (lt-leb k i l) (omega arith)
      | no l ↦ let z : one (ltb k c) ≡ 1 = rw (lt-ltb k c (omega arith)) refl in rw (le-leb k i (omega arith)) (omega arith)
    ]

pub copied_none : {p : Plan} {k n : ℕ} {records : List Record} → length p.records ≡ most_records → p.count ≤ most_records → n ≡ p.count - one (ltb k p.count) → records ≡ replicate most_records blank → Copied p k n records 0
copied_none long few e er = record { long = long; few = few; room = rw er (length-replicate most_records blank); many = e; within = omega arith; so_far = er }

module _ {p : Plan} {k n : ℕ} {records : List Record} {i : ℕ} (f : Copied p k n records i) where
  abbrev left : List Record
  left = but k (records_of p)

  many_left : length (but k (records_of p)) ≡ n
  many_left = fewer p k f.long f.few ∙ sym f.many

  pub copied_more : i < n → {o : ℕ} → o ≡ one (leb k i) → Copied p k n (set records i (get_or p.records (i + o) blank)) (i + 1)
  copied_more l {o} eo =
      let m : i < length left = omega (arith, many_left) in
      let z : take (i + 1) left ≡ take i left ++ (get_or p.records (i + o) blank ∷ []) = rw (add-one i, take-suc left i blank m, element p k f.long f.few i m, ← eo) refl in
      record {
        long = f.long;
        few = f.few;
        room = simp length-set f.room;
        many = f.many;
        within = omega arith;
        so_far = rw (f.so_far, z) (stored (take i left) i most_records (get_or p.records (i + o) blank) blank (omega (arith, length-take i left)) (omega (arith, f.many, f.few)));
      }

  pub copied_all : n ≤ i → ◌≡◌ {A = Plan} (record { count = n; records = records }) (plan_of (but k (records_of p)))
  copied_all h =
      let e : i ≡ length left = omega (arith, f.within, many_left) in
      rw (f.so_far, e, ← many_left, take_all (length left) left (omega arith)) refl
