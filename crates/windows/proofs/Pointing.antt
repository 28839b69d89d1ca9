-- 28, 29 and 30 of a foreman's point, or else 0, by how far the tests come. Assumes nothing.
use mathlib.Core.Path.{◌≡◌}
use mathlib.Core.Bool.{true, false, not, ◌&&◌, ◌||◌}
use Prim.Native.Nat.{ℕ}
use lib.Dec.{eqb, ltb, leb}
use lib.ListN.{get_or}
use Rattle.points.specs.Sets.{member}
use Rattle.events.specs.Fields.{no_point}
use Rattle.windows.specs.Inside.{point_from}
use Rattle.windows.specs.declared.Windows.{Windows}

module _ (w : Windows) (m t p : ℕ) where
  pub not_open : not (eqb p no_point || member w.opens p) ≡ true → 28 ≡ point_from w m t p
  unfolding point_from
  not_open a = rw a

  module _ (a : not (eqb p no_point || member w.opens p) ≡ false) where
    pub too_early : not (eqb p no_point || leb (get_or w.lows p 0) t) ≡ true → 29 ≡ point_from w m t p
    unfolding point_from
    too_early e = rw (a, e)

    module _ (e : not (eqb p no_point || leb (get_or w.lows p 0) t) ≡ false) where
      pub too_late : (not (eqb w.opens 0) && ltb m t) ≡ true → 30 ≡ point_from w m t p
      unfolding point_from
      too_late l = rw (a, e, l)

      pub none_given : (not (eqb w.opens 0) && ltb m t) ≡ false → 0 ≡ point_from w m t p
      unfolding point_from
      none_given l = rw (a, e, l)
