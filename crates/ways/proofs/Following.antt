-- The steps that the search found, followed from the way's start: they lead to its end, and come to the distance. Assumes nothing.
use mathlib.Core.Path.{◌≡◌, refl, sym, ap, ◌∙◌}
use mathlib.Core.List.{List, [], ◌∷◌, ◌++◌}
use Prim.Native.Nat.{ℕ, suc, ◌+◌, ◌-◌, ◌<◌, ◌≤◌}
use native.Mathlib.Omega.{arith}
use lib.ListN.{length, get_or, set, replicate, length-append}
use Rattle.numbers.specs.Fits.{All}
use Rattle.network.specs.Walks.{nil}
use Rattle.tables.specs.Tables.{side}
use Rattle.tables.specs.Entries.{raw, middle}
use Rattle.tables.proofs.Widths.{wide_in, finite}
use Rattle.projection.proofs.Judges.{all_edges, all_consistent}
use lib.Seq.{set_at, append_snoc}
use Rattle.ways.specs.declared.steps.Step.{Step}
use Rattle.ways.specs.declared.steps.Way.{Way}
use Rattle.ways.specs.Steps.{Leads, ups, downs, no_step, no_steps, StepIn}
use Rattle.ways.specs.Toward.{Onward, Ordered, Reached, FollowAsks, Trail, Followed, WayAsks, WayOf}

-- the next place of a list that is filled from the front
pub stored : {A : Type 0} (xs : List A) (i m : ℕ) (v z : A) → length xs ≡ i → i < m → set (xs ++ replicate (m - i) z) i v ≡ (xs ++ (v ∷ [])) ++ replicate (m - (i + 1)) z
stored xs i m v z n h =
    let e : m - i ≡ suc (m - (i + 1)) = omega arith in
    rw e (set_at xs z (replicate (m - (i + 1)) z) v i n ∙ sym (append_snoc xs v (replicate (m - (i + 1)) z)))

trail_more : (o : List ℕ) (next es : List Step) (e : Step) (X Z : ℕ) → Trail o next es X Z → 1 < get_or o Z 0 → e ≡ get_or next Z no_step → Trail o next (es ++ (e ∷ [])) X e.to
unfolding Trail
trail_more o next [] e X Z t h k = (rw (← t) at h, rw (← t) at k, refl)
trail_more o next (f ∷ es) e X Z t h k = (t.0, t.1, trail_more o next es e f.to Z t.2 h k)

pub record Following (o : List ℕ) (next : List Step) (x : ℕ) (steps : List Step) (count here : ℕ) : Type 0 where
  pub asks : FollowAsks o next x
  pub so_far : List Step
  pub is : steps ≡ so_far ++ replicate (side - count) no_step
  pub long : length so_far ≡ count
  pub trail : Trail o next so_far x here
  pub there : here < side
  pub some : 0 < get_or o here 0
  pub left : count + get_or o here 0 ≤ side

pub following_none : {o : List ℕ} {next : List Step} {x : ℕ} {steps : List Step} → FollowAsks o next x → steps ≡ no_steps → Following o next x steps 0 x
unfolding Trail
following_none {o} {next} {x} a e =
    record { asks = a; so_far = []; is = e; long = refl; trail = refl; there = a.start; some = a.some; left = omega (arith, a.linked.most x) }

module _ {o : List ℕ} {next : List Step} {x : ℕ} {steps : List Step} {count here : ℕ} (f : Following o next x steps count here) where
  pub following_there : (here < length o) × (here < length next)
  following_there = (omega (arith, f.there, f.asks.linked.long), omega (arith, f.there, f.asks.linked.wide))

  module _ (more : 1 < get_or o here 0) where
    pub following_room : count < side
    following_room = omega (arith, f.left)

    pub following_less : {e : Step} → e ≡ get_or next here no_step → get_or o e.to 0 < get_or o here 0
    following_less e = rw e (f.asks.linked.before here more)

    pub following_more : {e : Step} {steps' : List Step} {count' : ℕ} → e ≡ get_or next here no_step → steps' ≡ set steps count e → count' ≡ count + 1 → Following o next x steps' count' e.to
    following_more {e} {steps'} {count'} ee es ec =
        record {
          asks = f.asks;
          so_far = f.so_far ++ (e ∷ []);
          is = filled;
          long = length-append f.so_far (e ∷ []) ∙ omega (arith, f.long, ec);
          trail = trail_more o next f.so_far e x here f.trail more ee;
          there = rw ee (f.asks.linked.to here more);
          some = rw ee (f.asks.linked.some here more);
          left = omega (arith, following_less ee, f.left, ec);
        }
      where
        filled : steps' ≡ (f.so_far ++ (e ∷ [])) ++ replicate (side - count') no_step
        filled = es ∙ rw (f.is, ec) (stored f.so_far count side e no_step f.long following_room)

  pub following_all : (1 < get_or o here 0 → ⊥) → Followed o next x (record { count = count; steps = steps })
  following_all h =
      record {
        steps = f.so_far;
        is = rw (f.is, ← f.long) refl;
        few = omega (arith, f.long, f.left, f.some);
        last = here;
        trail = f.trail;
        ends = omega (arith, f.some, h);
      }

-- ---- what is followed is a way

module _ {s w : List ℕ} {m : ℕ} {t : List ℕ} {y : ℕ} {o : List ℕ} {next : List Step} (r : Ordered s w m t y o next) where
  along : (es : List Step) (X Z : ℕ) → Trail o next es X Z → All (StepIn s w m) es × Leads es X Z × (raw t X y + downs es ≡ raw t Z y + ups es)
  unfolding Trail Leads ups downs
  along [] X Z h = (tt, h, rw h refl)
  along (e ∷ es) X Z h =
      let i = along es e.to Z h.2 in
      let k : Onward s w m t y X e = rw h.1 (r.each X h.0) in
      ((k.step, i.0), (k.from, i.1), omega (arith, k.tight, i.2))

module _ {s w : List ℕ} {m n : ℕ} {t : List ℕ} {x y : ℕ} (a : WayAsks s w m n t x y) where
  -- a point is at no distance from itself
  self : raw t y y ≡ middle
  self =
      let v = a.reach.filled.verdict in
      let d = all_edges v.0 in
      let l = d.least y y 0 0 a.reach.end nil in
      let b = d.real y y a.reach.end a.reach.end l.0 in
      omega (arith, l.1, b.weight, (all_consistent v.1).round b.walk, wide_in (raw t y y) (finite (raw t y y) l.0))

  module _ {o : List ℕ} {next : List Step} (r : Reached s w m n t y o next) where
    pub way_follows : FollowAsks o next x
    way_follows = record { linked = r.ordered.linked; start = omega (arith, a.start, a.reach.ready.few); some = r.all x a.start a.joined }

    pub way_is : {z : Way} → Followed o next x z → WayOf s w m (raw t x y) x y z
    way_is f =
        let g = along r.ordered f.steps x f.last f.trail in
        let e = r.ordered.only f.last f.ends in
        record { steps = f.steps; is = f.is; few = f.few; each = g.0; leads = rw e at g.1; sum = rw e at g.2 ∙ ap (λ (v : ℕ). v + ups f.steps) self }
