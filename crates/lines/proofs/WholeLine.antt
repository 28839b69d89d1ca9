-- A whole line: text by text until nothing is left, and how long it can be. Assumes nothing.
use mathlib.Core.Path.{◌≡◌, refl, ◌∙◌}
use mathlib.Core.List.{List, [], ◌∷◌, ◌++◌}
use Prim.Native.Nat.{ℕ, ◌+◌, ◌*◌, ◌^◌, ◌≤◌, ◌<◌}
use native.Mathlib.Omega.{arith}
use lib.ListN.{length, length-append}
use Rattle.lines.specs.Text.{room, line_of, piece_text, more_text, text_of}
use Rattle.lines.specs.Inside.{with, RoomFor}
use Rattle.lines.specs.declared.Line.{Line}
use Rattle.lines.specs.declared.Piece.{Piece}
use Rattle.lines.specs.declared.Piece.TheVariants.{Name, Number}
use Rattle.lines.proofs.Adding.{fits_on, room_first, room_after, with_with, few_letters, ten_digits, few_characters, more_pieces, few_more}

-- the line l, with the text that is left, is the whole line
pub record Left (l : Line) (left whole : List ℕ) : Type 0 where
  pub fits : RoomFor l left
  pub same : with l left ≡ line_of whole

pub all_left : (l : Line) (ts : List ℕ) → l ≡ line_of [] → length ts ≤ room → Left l ts ts
all_left l ts e h = rw e (record { fits = fits_on [] ts (omega arith); same = refl })

module _ (l : Line) (ts us whole : List ℕ) (g : Left l (ts ++ us) whole) where
  pub fits_next : RoomFor l ts
  fits_next = room_first l ts us g.fits

  pub less_left : (k : Line) → k ≡ with l ts → Left k us whole
  less_left k e = rw e (record { fits = room_after l ts us g.fits; same = with_with l ts us ∙ g.same })

pub none_left : (l k : Line) (ts whole : List ℕ) → Left l ts whole → k ≡ with l ts → k ≡ line_of whole
none_left l k ts whole g e = e ∙ g.same

text_long : (p : Piece) (ps : List Piece) (k n : ℕ) → length (piece_text p) ≤ k → length (more_text ps) ≤ n → length (text_of p ps) ≤ k + n + 1
text_long p ps k n h m = omega (arith, length-append (piece_text p) (more_text ps ++ (10 ∷ [])), length-append (more_text ps) (10 ∷ []))

-- five pieces fit
pub five_fit : (p : Piece) (ps : List Piece) → length ps ≤ 4 → length (text_of p ps) ≤ room
five_fit p ps h = omega (arith, text_long p ps 21 (22 * length ps) (few_characters p) (few_more ps))

-- so do nine, of which three are words and three are numbers of thirty-two bits
module _ (word a b what n kind : ℕ) (x y z : Piece) where
  pub nine_fit : a < 2 ^ 32 → b < 2 ^ 32 → n < 2 ^ 32
      → length (text_of (Name word) (Number a ∷ Number b ∷ Name what ∷ Number n ∷ Name kind ∷ x ∷ y ∷ z ∷ [])) ≤ room
  nine_fit fa fb fn =
      let three = few_more (x ∷ y ∷ z ∷ []) in
      let five = more_pieces (Number n) _ 10 _ (ten_digits n fn) (more_pieces (Name kind) _ 8 66 (few_letters kind) three) in
      let eight = more_pieces (Number a) _ 10 _ (ten_digits a fa) (more_pieces (Number b) _ 10 _ (ten_digits b fb) (more_pieces (Name what) _ 8 _ (few_letters what) five)) in
      omega (arith, text_long (Name word) (Number a ∷ Number b ∷ Name what ∷ Number n ∷ Name kind ∷ x ∷ y ∷ z ∷ []) 8 117 (few_letters word) eight)
