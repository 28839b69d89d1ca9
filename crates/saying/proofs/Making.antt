-- Text behind text in a room. Assumes nothing.
use Rattle.std.proofs.Common.{◌≡◌, ℕ, ◌+◌, ◌-◌, ◌<◌, ◌≤◌, min, true, leb, List, [], ◌∷◌, ◌++◌, length, take, drop, sym, refl, ap, ◌∙◌, append_assoc, append-nil, arith, length-append, length-take, length-take-le, take_all, drop-drop, le-leb}
use mathlib.Core.Logic.{by_cases}
use native.Mathlib.Decide.{dec_lt}
use lib.Seq.{paste, take-paste, drop-paste, length-paste, take-length}
use Rattle.lines.specs.Text.{room}
use Rattle.lines.specs.Inside.{text_in}
use Rattle.lines.specs.declared.Line.{Line}
use Rattle.stream.specs.Buffers.{end_of, appended}
use Rattle.saying.specs.Makes.{Made}

-- nothing is made
pub made_none : (lines : List ℕ) (at : ℕ) → Made lines at [] lines at
made_none lines at = record { place = omega arith; front = sym (append-nil (take at lines)); rest = refl; long = refl }

-- one text behind another
pub made_more : {l₀ : List ℕ} {at : ℕ} {t : List ℕ} {l₁ : List ℕ} {r : ℕ} {u : List ℕ} {l₂ : List ℕ} {q : ℕ} → Made l₀ at t l₁ r → Made l₁ r u l₂ q → Made l₀ at (t ++ u) l₂ q
made_more {l₀} {at} {t} {l₁} {r} {u} {l₂} {q} m n =
    let e : r + (q - r) ≡ q = omega (arith, n.place) in
    let d : drop q l₁ ≡ drop q l₀ =
    ap (λ (k : ℕ). drop k l₁) (sym e) ∙ sym (drop-drop (q - r) r l₁) ∙ ap (drop (q - r)) m.rest ∙ drop-drop (q - r) r l₀ ∙ ap (λ (k : ℕ). drop k l₀) e in
    record {
      place = omega (arith, m.place, n.place, length-append t u);
      front = n.front ∙ ap (λ (xs : List ℕ). xs ++ u) m.front ∙ append_assoc (take at l₀) t u;
      rest = n.rest ∙ d;
      long = n.long ∙ m.long;
    }

-- so many of a line's bytes as it has
take_min : (n : ℕ) (xs : List ℕ) → take (min n (length xs)) xs ≡ take n xs
take_min n xs = by_cases (dec_lt n (length xs)) (λ h. short h) (λ h. long (omega arith))
  where
    short : n < length xs → take (min n (length xs)) xs ≡ take n xs
    short h = let m : min n (length xs) ≡ n = omega arith in rw m

    long : length xs ≤ n → take (min n (length xs)) xs ≡ take n xs
    long h = let m : min n (length xs) ≡ length xs = omega arith in rw m (take-length xs ∙ sym (take_all n xs h))

-- a line that fits is made
pub made_line : (lines lines' : List ℕ) (at : ℕ) (line : Line) {r : ℕ} → length line.bytes ≡ room → at + room ≤ length lines
    → r ≡ end_of lines at (take (min line.len (length line.bytes)) line.bytes)
    → lines' ≡ appended lines at (take (min line.len (length line.bytes)) line.bytes)
    → Made lines at (text_in line) lines' r × (r ≤ at + room)
made_line lines lines' at line {r} l h e f =
    let t = text_in line in
    let m = take_min line.len line.bytes in
    let few : length t ≤ room = omega (arith, length-take line.len line.bytes) in
    let fits : leb (at + length t) (length lines) ≡ true = le-leb (at + length t) (length lines) (omega arith) in
    let e' : r ≡ at + length t = rw (m, fits) at e in
    let f' : lines' ≡ paste lines at t (length t) = rw (m, fits) at f in (
      record {
        place = e';
        front = rw (e', f') (take-paste lines at t (length t) (omega arith) (omega arith) ∙ ap (λ (xs : List ℕ). take at lines ++ xs) (take-length t));
        rest = rw (e', f') (drop-paste lines at t (length t) (omega arith) (omega arith));
        long = rw f' (length-paste lines at t (length t) (omega arith) (omega arith));
      },
      omega arith,
    )
