-- What the windows say of a board: whether something is open, and whether every open Low is above H. Assumes nothing.
use mathlib.Core.Path.{◌≡◌, refl, sym, ap, ◌∙◌}
use mathlib.Core.Bool.{Bool, true, false, not, cond, ◌&&◌, ◌||◌}
use mathlib.Core.List.{List, ◌∷◌}
use Prim.Native.Nat.{ℕ, zero, suc, ◌+◌, ◌≤◌, ◌<◌}
use native.Mathlib.Omega.{arith}
use borrow.Author.Tests.{eqb-true, eqb-false, not-true}
use lib.Dec.{lit<, eqb, ltb}
use lib.ListN.{get_or}
use Rattle.points.specs.Sets.{member, members_of, passing, from, every}
use Rattle.points.proofs.Laws.{member_empty, same_members}
use Rattle.std.specs.Prelude.{if◌then◌else◌}
use Rattle.plan.specs.Limits.{most_points, farthest}
use Rattle.plan.specs.APlan.{some}
use Rattle.records.specs.declared.Record.{Record}
use Rattle.board.specs.Boards.{running}
use Rattle.board.specs.Windows.{is_open, low, H, some_open, all_above}
use Rattle.windows.specs.Inside.{stuck_from}
use Rattle.board.specs.Stuck.{stuck}
use Rattle.board.specs.InsideReplies.{WindowsOf}
use Rattle.board.proofs.Theorems.Each.{every_point, point_every}
use Rattle.board.specs.declared.Board.{Board}
use Rattle.windows.specs.declared.Windows.{Windows}

-- a test of those points that pass another
every_passing : (f g o h : ℕ → Bool) → ((q : ℕ) → q < most_points → f q ≡ o q) → ((q : ℕ) → q < most_points → g q ≡ h q) → (n p : ℕ) → p + n ≤ most_points
    → every g (passing f (from p n)) ≡ every (λ (q : ℕ). not (o q) || h q) (from p n)
unfolding every passing from
every_passing f g o h a b zero p l = refl
every_passing f g o h a b (suc n) p l =
    rw (a p (omega arith)) (go (o p) (b p (omega arith)) (every_passing f g o h a b n (suc p) (omega arith)))
  where
    rest : List ℕ
    rest = passing f (from (suc p) n)

    go : (t : Bool) → g p ≡ h p → every g rest ≡ every (λ (q : ℕ). not (o q) || h q) (from (suc p) n)
        → every g (cond t (p ∷ rest) rest) ≡ ((not t || h p) && every (λ (q : ℕ). not (o q) || h q) (from (suc p) n))
    go true e k = rw (e, k)
    go false e k = k

module _ (rs : List Record) (b : Board) (w : Windows) (have : WindowsOf rs b w) where
  pub nothing_open : w.opens ≡ 0 → some_open rs b ≡ false
  nothing_open e = ap not (point_every (λ (q : ℕ). not (is_open rs b q)) (λ q h. rw (← (have.opens q h), e, member_empty q)))

  pub something_open : (w.opens ≡ 0 → ⊥) → some_open rs b ≡ true
  something_open n = go (every (λ (q : ℕ). not (is_open rs b q)) (from 0 most_points)) refl
    where
      none : every (λ (q : ℕ). not (is_open rs b q)) (from 0 most_points) ≡ true → (q : ℕ) → q < 32 → member w.opens q ≡ member 0 q
      none e q h = have.opens q h ∙ not-true (is_open rs b q) (every_point (λ (q : ℕ). not (is_open rs b q)) e q h) ∙ sym (member_empty q)

      go : (t : Bool) → every (λ (q : ℕ). not (is_open rs b q)) (from 0 most_points) ≡ t → not t ≡ true
      go true e = absurd (n (same_members w.opens 0 have.fits (lit< tt) (none e)))
      go false e = refl

  pub above_here : every (λ (q : ℕ). ltb w.high (get_or w.lows q 0 + farthest)) (members_of w.opens) ≡ all_above rs b
  unfolding members_of
  above_here =
      every_passing (member w.opens) (λ (q : ℕ). ltb w.high (get_or w.lows q 0 + farthest)) (is_open rs b) (λ (q : ℕ). ltb (H rs b) (low rs b q + farthest))
      have.opens (λ q h. rw (have.high, have.lows q h)) 32 0 (omega arith)

  -- whether the board is stuck
  pub stuck_here : stuck_from rs b.done w ≡ stuck rs b
  stuck_here = go (eqb w.opens 0) refl
    where
      go : (k : Bool) → eqb w.opens 0 ≡ k
          → (if k then not (some (running b) rs) else every (λ (q : ℕ). ltb w.high (get_or w.lows q 0 + farthest)) (members_of w.opens)) ≡ stuck rs b
      go true e = rw (nothing_open (eqb-true w.opens 0 e))
      go false e = rw (something_open (eqb-false w.opens 0 e)) above_here
