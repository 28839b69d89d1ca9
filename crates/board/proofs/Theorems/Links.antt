-- The links of an accepted plan, each by its place among the records and by the point that it ends at. Assumes that the
-- records keep the rules of a plan.
use mathlib.Core.Path.{◌≡◌, refl}
use mathlib.Core.Bool.{true}
use mathlib.Core.List.{List}
use Prim.Native.Nat.{ℕ, ◌≤◌, ◌<◌}
use native.Mathlib.Omega.{arith}
use lib.ListN.{length, get_or}
use borrow.Author.Tests.{eq-eqb}
use Rattle.plan.specs.Limits.{most_points, farthest}
use Rattle.plan.specs.APlan.{point, link, is, watched, ends_at, link_to, blank}
use Rattle.records.specs.declared.Record.{Record}
use Rattle.plan.proofs.Accepted.{Accepted, get_d_some, not_a}
use Rattle.board.specs.Boards.{shortest, longest}
use Rattle.board.specs.declared.Board.{Board}
use Rattle.board.proofs.Theorems.Soundness.{Sound, SoundLink}

-- what an accepted plan says of its link l
pub record LinkOf (rs : List Record) (l : Record) : Type 0 where
  pub kind : is link l ≡ true
  pub from : l.a < most_points
  pub to : l.b < most_points
  pub short : shortest l < longest l
  pub long : longest l ≤ farthest
  pub watched : watched rs l.b ≡ true
  pub alone : link_to rs l.b ≡ l

module _ (rs : List Record) (ok : Accepted rs) where
  -- A record that is a link is one of the plan's links.
  pub link_at : (i : ℕ) → i < length rs → is link (get_or rs i blank) ≡ true → LinkOf rs (get_or rs i blank)
  link_at i h k =
      let r = get_or rs i blank in
      let w = ok.each i h in
      let n = w.names (not_a r link point (λ e. omega arith) k) in
      let few = ok.few in
      record {
        kind = k;
        from = omega arith;
        to = omega arith;
        short = (w.link_bounds k).1;
        long = (w.link_bounds k).2;
        watched = get_d_some (ends_at r.b) rs i h (rw k (eq-eqb r.b r.b refl));
        alone = w.link_alone k;
      }

  module _ (c : ℕ) (h : watched rs c ≡ true) where
    -- The link that ends at a watched point is one of them, and a sound board is sound for it.
    pub link_to_lem : LinkOf rs (link_to rs c)
    link_to_lem = let e = (ok.ends c h).2 in rw e.2 at (link_at e.0 e.1 (rw e.2 (ok.ends c h).0))

    pub sound_to_lem : (b : Board) → Sound rs b → SoundLink b (link_to rs c)
    sound_to_lem b w = let e = (ok.ends c h).2 in rw e.2 at (w.links e.0 e.1 (rw e.2 (ok.ends c h).0))
