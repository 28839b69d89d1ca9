-- Some points marked, one after the other. Assumes nothing.
use mathlib.Core.Path.{◌≡◌, refl}
use mathlib.Core.List.{List, [], ◌∷◌, ◌++◌}
use Prim.Native.Nat.{ℕ, ◌≤◌}
use lib.ListN.{length, set}
use lib.Seq.{set_out}
use Rattle.points.specs.Sets.{with_of}
use Rattle.points.proofs.Laws.{with_past}
use Rattle.taking.specs.Steps.{marked_by}
use Rattle.taking.specs.declared.Marks.{Marks}

abbrev marked : ℕ → ℕ → ℕ → Marks → Marks
marked t n p m = record { done = with_of m.done p; minutes = set m.minutes p t; calls = set m.calls p n }

module _ (t n : ℕ) where
  pub marks_more : {p : ℕ} {left rest : List ℕ} → left ≡ p ∷ rest → (m : Marks) → marked_by t n rest (marked t n p m) ≡ marked_by t n left m
  marks_more e m = rw e

  pub marks_none : {left : List ℕ} → left ≡ [] → (m : Marks) → m ≡ marked_by t n left m
  marks_none e m = rw e

  pub marks_append : (ps qs : List ℕ) (m : Marks) → marked_by t n qs (marked_by t n ps m) ≡ marked_by t n (ps ++ qs) m
  marks_append [] qs m = refl
  marks_append (p ∷ ps) qs m = marks_append ps qs (marked t n p m)

  pub mark_past : (p : ℕ) (m : Marks) → length m.minutes ≤ p → length m.calls ≤ p → 32 ≤ p → m ≡ marked_by t n (p ∷ []) m
  mark_past p m h k l = rw (with_past m.done p l, set_out m.minutes p t h, set_out m.calls p n k)
