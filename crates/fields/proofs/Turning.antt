-- The walk over a piece, a byte at a time. Assumes nothing.
use mathlib.Core.Path.{◌≡◌, refl, sym, ap, ◌∙◌}
use mathlib.Core.List.{List}
use native.Mathlib.Numerals.{add-one}
use lib.ListN.{length, drop, get_or, drop_of_length-le}
use lib.Seq.{drop-cons}
use Prim.Native.Nat.{ℕ, suc, ◌+◌, ◌≤◌, ◌<◌}
use Rattle.fields.specs.Inside.{step_of, walk_to, walked, walk_from}
use Rattle.fields.specs.declared.Spot.{Spot}
use Rattle.fields.specs.declared.Step.{Step}
use Rattle.fields.specs.declared.Step.TheVariants.{On, Comma, Ends, Broken}

-- the walk, one byte further
module _ (s : Spot) (piece : List ℕ) (i : ℕ) where
  pub walk_end : length piece ≤ i → walk_to s (On s) i ≡ walk_from s i (drop i piece)
  unfolding walk_from
  walk_end h = rw (drop_of_length-le piece h)

  module _ (h : i < length piece) where
    here : walk_from s i (drop i piece) ≡ walked (step_of s (get_or piece i 0)) s i (λ q. walk_from q (suc i) (drop (suc i) piece))
    unfolding walk_from
    here = rw (drop-cons piece i 0 h)

    pub walk_on : (q : Spot) → step_of s (get_or piece i 0) ≡ On q → walk_from q (i + 1) (drop (i + 1) piece) ≡ walk_from s i (drop i piece)
    walk_on q e = rw (add-one i) (sym (here ∙ ap (λ (t : Step). walked t s i (λ q. walk_from q (suc i) (drop (suc i) piece))) e))

    pub walk_stop : (t : Step) → step_of s (get_or piece i 0) ≡ t → ((q : Spot) → t ≡ On q → ⊥) → walk_to s t (i + 1) ≡ walk_from s i (drop i piece)
    walk_stop t e n = go t n ∙ sym (here ∙ ap (λ (t : Step). walked t s i (λ q. walk_from q (suc i) (drop (suc i) piece))) e)
      where
        go : (t : Step) → ((q : Spot) → t ≡ On q → ⊥) → walk_to s t (i + 1) ≡ walked t s i (λ q. walk_from q (suc i) (drop (suc i) piece))
        go (On q) n = absurd (n q refl)
        go Comma n = refl
        go Ends n = refl
        go Broken n = refl
