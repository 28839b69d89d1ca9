-- What a line says fits its place in the record, so its bytes are read as it. Assumes nothing.
use mathlib.Core.Path.{◌≡◌, refl, sym, ap, ◌∙◌}
use mathlib.Core.Bool.{Bool, true, false, not, ◌||◌}
use mathlib.Core.List.{List, [], ◌∷◌, append-nil}
use Prim.Native.Nat.{ℕ, ◌^◌, ◌<◌}
use native.Mathlib.Omega.{arith}
use lib.Dec.{eqb, ltb}
use lib.ListN.{length}
use lib.Signed.{mag}
use borrow.Author.Tests.{eqb-true, ltb-true}
use Rattle.std.specs.Prelude.{if◌then◌else◌}
use Rattle.numbers.proofs.Words.{word_back}
use Rattle.records.specs.Bytes.{record_in, bytes_of}
use Rattle.records.specs.Held.{Held}
use Rattle.records.proofs.Bytes.{record_back}
use Rattle.values.specs.Values.{is_empty, all_digits}
use Rattle.values.proofs.Tests.{both}
use Rattle.values.proofs.Fit.{number_fits}
use Rattle.points.specs.Sets.{with_of}
use Rattle.points.proofs.Laws.{with_fits}
use Rattle.phrases.specs.Phrases.{is_comma, cut, is_none, set_from}
use Rattle.sayings.specs.Sayings.{a_point, a_number, a_count, a_point_or_none, a_set, expected, holds, first_wrong, point_record, link_record, ordinary_record, wait_record, word, said_by, row_of}
use Rattle.sayings.specs.Sayings.{bad, good, kind_of, is_below, value_of, number_of, point_or_none, set_of}
use Rattle.sayings.specs.declared.Said.{Said}
use Rattle.sayings.specs.declared.Said.TheVariants.{Nothing, Plan, Mark, Event}
use Rattle.sayings.proofs.Telling.{Each, each_holds, few}
use Rattle.listing.specs.Listing.{words_of}
use Rattle.listing.proofs.Theorems.{no, row_code, row_said}
use Rattle.listing.specs.Promised.{ReadAsTyped, NoOtherRecord, EventAsTyped}

-- ---- one word

below : (n : ℕ) (f : List ℕ) → is_below n f ≡ true → value_of f < n
below n f e = ltb-true (value_of f) n (both (all_digits f) (ltb (value_of f) n) (both (not (is_empty f)) _ e).1).1

point_fits : (f : List ℕ) → holds a_point f ≡ true → value_of f < 256
unfolding holds
point_fits f e = below 256 f e

count_fits : (f : List ℕ) → holds a_count f ≡ true → value_of f < 2 ^ 32
unfolding holds
count_fits f e = below (2 ^ 32) f e

number_held : (f : List ℕ) → holds a_number f ≡ true → mag (number_of f) < 2 ^ 31
unfolding holds
number_held f e = number_fits f e

none_fits : (f : List ℕ) → holds a_point_or_none f ≡ true → point_or_none f < 256
unfolding holds
none_fits f e = go (is_none f) e
  where
    go : (t : Bool) → (t || is_below 255 f) ≡ true → (if t then 255 else value_of f) < 256
    go true q = omega arith
    go false q = let b = below 255 f q in omega arith

set_from_fits : (s : ℕ) (fs : List (List ℕ)) → s < 2 ^ 32 → set_from s fs < 2 ^ 32
unfolding set_from
set_from_fits s [] h = h
set_from_fits s (f ∷ fs) h = set_from_fits (with_of s (value_of f)) fs (with_fits s (value_of f) h)

set_fits : (f : List ℕ) → set_of f < 2 ^ 32
set_fits f = go (is_none f)
  where
    go : (t : Bool) → (if t then 0 else set_from 0 (cut is_comma f)) < 2 ^ 32
    go true = omega arith
    go false = set_from_fits 0 (cut is_comma f) (omega arith)

-- ---- what a kind says

-- a record of a plan fits its fields
abbrev HeldSaid : Said → Type 0
HeldSaid Nothing = Unit {0}
HeldSaid (Plan r) = Held r
HeldSaid Mark = Unit {0}
HeldSaid (Event m p s) = (m < 2 ^ 32) × (p < 256) × (s < 2 ^ 32)

-- where the words are what is expected
abbrev Fits : List (List ℕ) → List ℕ → Said → Type 0
Fits gs ns x = length gs ≡ length ns → Each ns gs → HeldSaid x

choice : (gs : List (List ℕ)) (b : Bool) (ns ms : List ℕ) (x y : Said) → Fits gs ns x → Fits gs ms y → Fits gs (if b then ns else ms) (if b then x else y)
choice gs true ns ms x y p q = p
choice gs false ns ms x y p q = q

point_held : (gs : List (List ℕ)) → Fits gs (a_point ∷ a_count ∷ []) (Plan (point_record (value_of (word 0 gs)) (value_of (word 1 gs))))
point_held (f ∷ g ∷ []) l e =
    record { kind = omega arith; a = point_fits f e.0; b = omega arith; first = omega arith; second = omega arith; code = count_fits g e.1.0 }
point_held [] l e = absurd (omega arith)
point_held (f ∷ []) l e = absurd (omega arith)
point_held (f ∷ g ∷ x ∷ gs) l e = absurd (omega arith)

link_held : (gs : List (List ℕ))
    → Fits gs (a_point ∷ a_number ∷ a_number ∷ a_point ∷ []) (Plan (link_record (value_of (word 0 gs)) (number_of (word 1 gs)) (number_of (word 2 gs)) (value_of (word 3 gs))))
link_held (f ∷ g ∷ x ∷ y ∷ []) l e =
    record {
      kind = omega arith;
      a = point_fits f e.0;
      b = point_fits y e.1.1.1.0;
      first = number_held g e.1.0;
      second = number_held x e.1.1.0;
      code = omega arith;
    }
link_held [] l e = absurd (omega arith)
link_held (f ∷ []) l e = absurd (omega arith)
link_held (f ∷ g ∷ []) l e = absurd (omega arith)
link_held (f ∷ g ∷ x ∷ []) l e = absurd (omega arith)
link_held (f ∷ g ∷ x ∷ y ∷ z ∷ gs) l e = absurd (omega arith)

ordinary_held : (gs : List (List ℕ))
    → Fits gs (a_point ∷ a_number ∷ a_point ∷ []) (Plan (ordinary_record (value_of (word 0 gs)) (number_of (word 1 gs)) (value_of (word 2 gs))))
ordinary_held (f ∷ g ∷ x ∷ []) l e =
    record {
      kind = omega arith;
      a = point_fits f e.0;
      b = point_fits x e.1.1.0;
      first = number_held g e.1.0;
      second = omega arith;
      code = omega arith;
    }
ordinary_held [] l e = absurd (omega arith)
ordinary_held (f ∷ []) l e = absurd (omega arith)
ordinary_held (f ∷ g ∷ []) l e = absurd (omega arith)
ordinary_held (f ∷ g ∷ x ∷ y ∷ gs) l e = absurd (omega arith)

wait_held : (gs : List (List ℕ))
    → Fits gs (a_point ∷ a_point ∷ a_number ∷ []) (Plan (wait_record (value_of (word 0 gs)) (value_of (word 1 gs)) (number_of (word 2 gs))))
wait_held (f ∷ g ∷ x ∷ []) l e =
    record {
      kind = omega arith;
      a = point_fits f e.0;
      b = point_fits g e.1.0;
      first = number_held x e.1.1.0;
      second = omega arith;
      code = omega arith;
    }
wait_held [] l e = absurd (omega arith)
wait_held (f ∷ []) l e = absurd (omega arith)
wait_held (f ∷ g ∷ []) l e = absurd (omega arith)
wait_held (f ∷ g ∷ x ∷ y ∷ gs) l e = absurd (omega arith)

event_held : (gs : List (List ℕ)) → Fits gs (a_count ∷ a_point_or_none ∷ a_set ∷ []) (Event (value_of (word 0 gs)) (point_or_none (word 1 gs)) (set_of (word 2 gs)))
event_held (f ∷ g ∷ x ∷ []) l e = (count_fits f e.0, none_fits g e.1.0, set_fits x)
event_held [] l e = absurd (omega arith)
event_held (f ∷ []) l e = absurd (omega arith)
event_held (f ∷ g ∷ []) l e = absurd (omega arith)
event_held (f ∷ g ∷ x ∷ y ∷ gs) l e = absurd (omega arith)

kind_held : (k : ℕ) (gs : List (List ℕ)) → Fits gs (expected k) (said_by k gs)
unfolding expected said_by
kind_held k gs =
    choice gs (eqb k 1) _ _ _ _ (point_held gs)
    (choice gs (eqb k 2) _ _ _ _ (link_held gs)
    (choice gs (eqb k 3) _ _ _ _ (ordinary_held gs) (choice gs (eqb k 4) _ _ _ _ (wait_held gs) (choice gs (eqb k 5) _ _ _ _ (λ l e. tt) (event_held gs)))))

-- ---- a line

row_held : (fs : List (List ℕ)) (x : Said) → row_of fs ≡ good x → HeldSaid x
unfolding row_of row_code row_said
row_held [] x e = let z : Nothing ≡ x = ap row_said e in rw (← z) tt
row_held (f ∷ fs) x e = go (eqb (kind_of f) 0) (eqb (length fs) (length (expected (kind_of f)))) refl (eqb (first_wrong (expected (kind_of f)) fs) 0) refl e
  where
    go : (a b : Bool) → eqb (length fs) (length (expected (kind_of f))) ≡ b → (c : Bool) → eqb (first_wrong (expected (kind_of f)) fs) 0 ≡ c
        → (if a then bad 1 else (if not b then bad 2 else (if c then good (said_by (kind_of f) fs) else bad (first_wrong (expected (kind_of f)) fs)))) ≡ good x → HeldSaid x
    go true b p c q h = no (ap row_code h)
    go false false p c q h = no (ap row_code h)
    go false true p false q h = no (ap row_code h)
    go false true p true q h =
        let z : said_by (kind_of f) fs ≡ x = ap row_said h in
        rw (← z)
        (kind_held (kind_of f) fs (eqb-true (length fs) (length (expected (kind_of f))) p)
        (each_holds (expected (kind_of f)) (few (kind_of f)).1 fs (eqb-true (first_wrong (expected (kind_of f)) fs) 0 q)))

pub read_as_typed : ReadAsTyped
read_as_typed l r e = rw (append-nil (bytes_of r)) at (record_back r (row_held (words_of l) (Plan r) e) [])

pub no_other_record : NoOtherRecord
no_other_record l m r q e f h = sym (read_as_typed l r e) ∙ ap record_in h ∙ read_as_typed m q f

pub event_as_typed : EventAsTyped
event_as_typed l m p s e =
    let h = row_held (words_of l) (Event m p s) e in
    let hm : m < 2 ^ 32 = h.0 in
    let hp : p < 256 = h.1 in
    let hs : s < 2 ^ 32 = h.2 in
    record {
      at_0 = word_back m hm [];
      at_4 = omega arith;
      at_5 = omega arith;
      at_6 = omega arith;
      at_7 = omega arith;
      at_8 = word_back s hs [];
      at_12 = refl;
    }
