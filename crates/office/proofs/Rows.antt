-- A line by what is kept of its columns is the line. Assumes nothing.
use mathlib.Core.Path.{◌≡◌, refl, sym, ap}
use mathlib.Core.Bool.{Bool, true, false, ◌&&◌, not}
use mathlib.Core.List.{List, [], ◌∷◌, ◌++◌, map, map-append}
use Prim.Native.Nat.{ℕ, ◌+◌, ◌-◌, ◌%◌, ◌≤◌, min}
use native.Mathlib.Omega.{arith}
use lib.ListN.{length, replicate, length-map, length-append}
use borrow.Author.Tests.{ne_eqb}
use Rattle.std.specs.Prelude.{if◌then◌else◌}
use Rattle.numbers.specs.Fits.{All, IsByte}
use Rattle.values.specs.Inside.{fresh, with_all}
use Rattle.values.specs.declared.Seen.{Seen}
use Rattle.values.proofs.Tests.{both}
use Rattle.values.proofs.Tells.{tells_all}
use Rattle.values.proofs.Says.{says_kind, says_point, says_point_value, says_number, says_value, says_code, says_pond}
use Rattle.fields.specs.Quoting.{columns}
use Rattle.office.specs.Sheets.{bad, good, readable, record_of, row_of, is_kind, is_point, is_number, is_code}
use Rattle.office.specs.Inside.{as_line, readable_in, record_in, line_by}
use Rattle.office.specs.Feeding.{cells_with}
use Rattle.std.specs.Prelude.{Ok, Err}
use Rattle.office.proofs.Filling.{fill}

-- what is kept of a field
abbrev pub seen_of : List ℕ → Seen
seen_of f = with_all fresh f

-- six columns
module _ (k a b x y p : List ℕ) (hk : All IsByte k) (ha : All IsByte a) (hb : All IsByte b) (hx : All IsByte x) (hy : All IsByte y) (hp : All IsByte p) where
  abbrev six : List (List ℕ)
  six = k ∷ a ∷ b ∷ x ∷ y ∷ p ∷ []

  six_readable : readable_in (map seen_of six) ≡ readable six
  unfolding readable_in readable
  six_readable =
      rw (
        says_kind k (seen_of k) (tells_all k hk) hk,
        says_point a (seen_of a) (tells_all a ha) ha,
        says_point b (seen_of b) (tells_all b hb) hb,
        says_number x (seen_of x) (tells_all x hx) hx,
        says_number y (seen_of y) (tells_all y hy) hy,
      )

  six_record : readable six ≡ true → is_code p ≡ true → record_in (map seen_of six) ≡ record_of six
  unfolding record_in record_of readable
  six_record e c =
      let q = (both (is_kind k) _ e).1 in
      let points = both (is_point a) (is_point b) (both (is_point a && is_point b) _ q).0 in
      let numbers = both (is_number x) (is_number y) (both (is_point a && is_point b) _ q).1 in
      rw (
        says_kind k (seen_of k) (tells_all k hk) hk,
        says_point_value a (seen_of a) (tells_all a ha) ha points.0,
        says_point_value b (seen_of b) (tells_all b hb) hb points.1,
        says_value x (seen_of x) (tells_all x hx) hx numbers.0,
        says_value y (seen_of y) (tells_all y hy) hy numbers.1,
        says_pond p (seen_of p) (tells_all p hp) hp c,
      )

  six_line : line_by 5 (map seen_of six) ≡ as_line (row_of (columns six))
  unfolding line_by row_of
  six_line = rw (six_readable, says_code p (seen_of p) (tells_all p hp) hp) (go (readable six) refl (is_code p) refl)
    where
      go : (t : Bool) → readable six ≡ t → (u : Bool) → is_code p ≡ u
          → (if not t then Err 42 else (if not u then Err 43 else Ok (record_in (map seen_of six)))) ≡ as_line (if not t then bad 42 else (if not u then bad 43 else good (record_of six)))
      go false e u c = refl
      go true e false c = refl
      go true e true c = ap Ok (six_record e c)

-- the cells of the columns so far, as far as there is room
abbrev pub Cells : List (List ℕ) → List Seen → Type 0
Cells fs cells = length fs ≤ 6 → cells ≡ map seen_of fs ++ replicate (6 - length fs) fresh

-- any number of columns: those before a comma, and the last
pub line_by_lem : (fs : List (List ℕ)) (g : List ℕ) → All (All IsByte) fs → All IsByte g → (cells : List Seen) → Cells fs cells
    → line_by (min (length fs) 6) (cells_with (min (length fs) 6) cells (seen_of g)) ≡ as_line (row_of (columns (fs ++ (g ∷ []))))
unfolding line_by row_of
line_by_lem (k ∷ a ∷ b ∷ x ∷ y ∷ []) g h hg cells e =
    rw (e (omega arith)) (six_line k a b x y g h.0 h.1.0 h.1.1.0 h.1.1.1.0 h.1.1.1.1.0 hg)
line_by_lem [] g h hg cells e = refl
line_by_lem (k ∷ []) g h hg cells e = refl
line_by_lem (k ∷ a ∷ []) g h hg cells e = refl
line_by_lem (k ∷ a ∷ b ∷ []) g h hg cells e = refl
line_by_lem (k ∷ a ∷ b ∷ x ∷ []) g h hg cells e = refl
line_by_lem (k ∷ a ∷ b ∷ x ∷ y ∷ p ∷ fs) g h hg cells e =
    let z = length-append fs (g ∷ []) in
    let m : min (length (k ∷ a ∷ b ∷ x ∷ y ∷ p ∷ fs)) 6 ≡ 6 = omega arith in
    rw (m, ne_eqb (length (k ∷ a ∷ b ∷ x ∷ y ∷ p ∷ (fs ++ (g ∷ [])))) 6 (λ q. omega arith))

-- a column more, past the room at any place
pub store : (fs : List (List ℕ)) (g : List ℕ) (cells : List Seen) → Cells fs cells → Cells (fs ++ (g ∷ [])) (cells_with (min (length fs) 6) cells (seen_of g))
store fs g cells e h =
    let z = length-append fs (g ∷ []) in
    let n : length (fs ++ (g ∷ [])) ≡ length fs + 1 = omega arith in
    let m : min (length fs) 6 % 6 ≡ length fs = omega arith in
    rw (n, m, map-append seen_of fs (g ∷ []))
    (fill (map seen_of fs) (length fs) 6 cells (seen_of g) fresh (sym (length-map fs seen_of)) (omega arith) (e (omega arith)))
