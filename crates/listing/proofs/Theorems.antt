-- What is promised of a packed listing holds. Assumes nothing.
use mathlib.Core.Path.{◌≡◌, refl, sym, ap, ◌∙◌}
use mathlib.Core.Bool.{Bool, true, false, not}
use mathlib.Core.List.{List, [], ◌∷◌, map}
use Prim.Native.Nat.{ℕ, zero, suc, ◌+◌, ◌-◌, ◌≤◌, ◌<◌}
use native.Mathlib.Omega.{arith}
use lib.Dec.{eqb}
use lib.ListN.{length, get_or}
use borrow.Author.Tests.{ne_eqb}
use Rattle.std.specs.Prelude.{Ok, Err, if◌then◌else◌}
use Rattle.sayings.specs.Sayings.{kind_of, expected, first_wrong, said_by, row_of}
use Rattle.sayings.specs.declared.Said.{Said}
use Rattle.sayings.specs.declared.Said.TheVariants.{Nothing}
use Rattle.listing.specs.Listing.{lines_of, words_of, Row, bad, good, line_row, Outcome, refused, listed, in_front, behind, outcome, outcome_of, is_short, packed, written, a_set}
use Rattle.listing.specs.declared.Refused.{Refused}
use Rattle.listing.proofs.Going.{outcome_by, outcome_end, ok_not_err, err_is}
use Rattle.listing.specs.Promised.{worded, Packs, OneForEachLine, NothingUnlessGood, IsGood, Stops, FirstBadLine}

pub no : {A : Type 0} → ◌≡◌ {A = ℕ} 0 1 → A
no e = absurd (omega arith)

-- ---- what a good line says

-- a line that has words says something
abbrev Says : List Said → Said → Type 0
Says ys x = in_front x ys ≡ x ∷ ys

choice : (ys : List Said) (b : Bool) (x y : Said) → Says ys x → Says ys y → Says ys (if b then x else y)
choice ys true x y p q = p
choice ys false x y p q = q

front_said : (k : ℕ) (fs : List (List ℕ)) (ys : List Said) → Says ys (said_by k fs)
unfolding said_by
front_said k fs ys =
    choice ys (eqb k 1) _ _ refl (choice ys (eqb k 2) _ _ refl (choice ys (eqb k 3) _ _ refl (choice ys (eqb k 4) _ _ refl (choice ys (eqb k 5) _ _ refl refl))))

unfoldable pub row_code : Row → ℕ
row_code (bad n) = 0
row_code (good x) = 1

unfoldable pub row_said : Row → Said
row_said (bad n) = Nothing
row_said (good x) = x

said_is : (f : List ℕ) (fs : List (List ℕ)) (x : Said) → row_of (f ∷ fs) ≡ good x → x ≡ said_by (kind_of f) fs
unfolding row_of row_code row_said
said_is f fs x e = go (eqb (kind_of f) 0) (eqb (length fs) (length (expected (kind_of f)))) (eqb (first_wrong (expected (kind_of f)) fs) 0) e
  where
    go : (a b c : Bool)
        → (if a then bad 1 else (if not b then bad 2 else (if c then good (said_by (kind_of f) fs) else bad (first_wrong (expected (kind_of f)) fs)))) ≡ good x → x ≡ said_by (kind_of f) fs
    go true b c h = no (ap row_code h)
    go false false c h = no (ap row_code h)
    go false true true h = sym (ap row_said h)
    go false true false h = no (ap row_code h)

empty_is : (x : Said) → row_of [] ≡ good x → x ≡ Nothing
unfolding row_of row_said
empty_is x e = sym (ap row_said e)

-- ---- the records, line by line

outcome_code_lem : Outcome → ℕ
outcome_code_lem (refused k n) = 0
outcome_code_lem (listed xs) = 1

items : Outcome → List Said
items (refused k n) = []
items (listed xs) = xs

worded_end : worded [] ≡ []
unfolding worded
worded_end = refl

worded_by : (l : List ℕ) (ls : List (List ℕ)) → worded (l ∷ ls) ≡ (if eqb (length (words_of l)) 0 then worded ls else l ∷ worded ls)
unfolding worded
worded_by l ls = refl

-- a good line in front
one_line : (l : List ℕ) (ls : List (List ℕ)) (x : Said) (ys : List Said) → line_row l ≡ good x → map line_row (worded ls) ≡ map good ys
    → map line_row (worded (l ∷ ls)) ≡ map good (in_front x ys)
one_line l ls x ys e r = go (words_of l) refl
  where
    go : (ws : List (List ℕ)) → words_of l ≡ ws → map line_row (worded (l ∷ ls)) ≡ map good (in_front x ys)
    go [] w =
        let n : x ≡ Nothing = empty_is x (ap row_of (sym w) ∙ e) in
        rw (worded_by l ls, w, n) r
    go (f ∷ fs) w =
        let n : x ≡ said_by (kind_of f) fs = said_is f fs x (ap row_of (sym w) ∙ e) in
        let z : eqb (length (words_of l)) 0 ≡ false = rw w (ne_eqb (suc (length fs)) 0 (λ y. omega arith)) in
        let i : in_front x ys ≡ x ∷ ys = rw n (front_said (kind_of f) fs ys) in
        let h : map line_row (l ∷ worded ls) ≡ map good (x ∷ ys) = λ j. e j ∷ r j in
        rw (worded_by l ls, z, i) h

outcome_listed : (n : ℕ) (ls : List (List ℕ)) (xs : List Said) → outcome n ls ≡ listed xs → map line_row (worded ls) ≡ map good xs
unfolding items outcome_code_lem
outcome_listed n [] xs e =
    let z : [] ≡ xs = ap items (sym (outcome_end n) ∙ e) in
    rw (worded_end, ← z)
outcome_listed n (l ∷ ls) xs e =
    go (line_row l) refl (outcome (suc n) ls) refl (sym (outcome_by n l ls) ∙ e) (λ ys q. outcome_listed (suc n) ls ys q)
  where
    go : (r : Row) → line_row l ≡ r → (o : Outcome) → outcome (suc n) ls ≡ o → behind n r o ≡ listed xs
        → ((ys : List Said) → outcome (suc n) ls ≡ listed ys → map line_row (worded ls) ≡ map good ys) → map line_row (worded (l ∷ ls)) ≡ map good xs
    go (bad k) p o q h f = no (ap outcome_code_lem h)
    go (good x) p (refused k m) q h f = no (ap outcome_code_lem h)
    go (good x) p (listed ys) q h f =
        let z : in_front x ys ≡ xs = ap items h in
        one_line l ls x ys p (f ys q) ∙ ap (map good) z

-- ---- the first bad line

record Bad (n : ℕ) (ls : List (List ℕ)) (k m : ℕ) : Type 0 where
  j : ℕ
  place : m ≡ n + j
  within : j < length ls
  here : line_row (get_or ls j []) ≡ bad k
  before : (i : ℕ) → i < j → IsGood (line_row (get_or ls i []))

number_of : Outcome → ℕ
number_of (refused k m) = k
number_of (listed xs) = 0

line_of : Outcome → ℕ
line_of (refused k m) = m
line_of (listed xs) = 0

outcome_refused : (n : ℕ) (ls : List (List ℕ)) (k m : ℕ) → outcome n ls ≡ refused k m → Bad n ls k m
unfolding outcome_code_lem number_of line_of
outcome_refused n [] k m e = no (sym (ap outcome_code_lem (sym (outcome_end n) ∙ e)))
outcome_refused n (l ∷ ls) k m e =
    go (line_row l) refl (outcome (suc n) ls) refl (sym (outcome_by n l ls) ∙ e) (λ q. outcome_refused (suc n) ls k m q)
  where
    go : (r : Row) → line_row l ≡ r → (o : Outcome) → outcome (suc n) ls ≡ o → behind n r o ≡ refused k m → (outcome (suc n) ls ≡ refused k m → Bad (suc n) ls k m)
        → Bad n (l ∷ ls) k m
    go (bad i) p o q h f =
        let a : i ≡ k = ap number_of h in
        let b : n ≡ m = ap line_of h in
        record { j = 0; place = omega arith; within = omega arith; here = p ∙ ap bad a; before = λ i c. absurd (omega arith) }
    go (good x) p (listed ys) q h f = no (sym (ap outcome_code_lem h))
    go (good x) p (refused a b) q h f =
        let r = f (q ∙ h) in
        let pl = r.place in
        let wi = r.within in
        record { j = suc r.j; place = omega arith; within = omega arith; here = r.here; before = first r }
      where
        first : (r : Bad (suc n) ls k m) → (i : ℕ) → i < suc r.j → IsGood (line_row (get_or (l ∷ ls) i []))
        first r zero c = record { says = x; is = p }
        first r (suc i) c = r.before i (omega arith)

-- ---- the theorems

pub one_for_each_line : OneForEachLine
one_for_each_line text out n z = go (outcome_of text) refl z
  where
    go : (o : Outcome) → outcome_of text ≡ o → packed (length out) o ≡ Ok n → Packs text out
    go (refused k m) e q = absurd (ok_not_err (sym q))
    go (listed xs) e q = short (is_short (length out) xs) refl q
      where
        short : (t : Bool) → is_short (length out) xs ≡ t → packed (length out) (listed xs) ≡ Ok n → Packs text out
        short true s h = absurd (ok_not_err (sym (rw s at h)))
        short false s h =
            record {
              said = xs;
              each = outcome_listed 1 (lines_of text) xs e;
              long = rw (e, s);
              bytes = rw (e, s);
            }

pub nothing_unless_good : NothingUnlessGood
nothing_unless_good text out r n = go (outcome_of text) n
  where
    go : (o : Outcome) → packed (length out) o ≡ Err r → written out o ≡ out
    go (refused k m) h = refl
    go (listed xs) h = short (is_short (length out) xs) refl
      where
        short : (t : Bool) → is_short (length out) xs ≡ t → written out (listed xs) ≡ out
        short true s = rw s
        short false s = absurd (ok_not_err (rw s at h))

pub first_bad_line : FirstBadLine
first_bad_line text out r n high = go (outcome_of text) refl n
  where
    go : (o : Outcome) → outcome_of text ≡ o → packed (length out) o ≡ Err r → Stops text r.number r.line
    go (refused k m) e q = rw (← err_is q) (stops k m (outcome_refused 1 (lines_of text) k m e))
      where
        stops : (k m : ℕ) → Bad 1 (lines_of text) k m → Stops text k m
        stops k m r =
            let p = r.place in
            let w = r.within in
            let i : m - 1 ≡ r.j = omega arith in
            record { from = omega arith; to = omega arith; here = rw i r.here; before = λ x h. r.before x (omega arith) }
    go (listed xs) e q = short (is_short (length out) xs) refl q
      where
        short : (t : Bool) → is_short (length out) xs ≡ t → packed (length out) (listed xs) ≡ Err r → Stops text r.number r.line
        short true s y = absurd (let z : 8 ≤ a_set = rw (← ap (λ (x : Refused). x.number) (err_is (rw s at y))) at high in omega arith)
        short false s y = absurd (ok_not_err (rw s at y))
