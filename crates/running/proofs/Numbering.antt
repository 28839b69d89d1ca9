-- 24 to 27, by how far the tests come, where x, y and z are what the code has for the three walks. Assumes nothing.
use mathlib.Core.Path.{◌≡◌}
use mathlib.Core.Bool.{Bool, true, false}
use mathlib.Core.List.{List}
use Prim.Native.Nat.{ℕ, ◌<◌, ◌≤◌}
use borrow.Author.Tests.{lt-ltb, le-ltb}
use Rattle.points.specs.Sets.{members_of, every}
use Rattle.links.specs.Inside.{runs_at, timely_at}
use Rattle.links.specs.declared.Links.{Links}
use Rattle.running.specs.ByTable.{not_late_at, set_number_of}

module _ (l : Links) (clock done : ℕ) (minutes : List ℕ) (t set next : ℕ) where
  pub before_clock : t < clock → 24 ≡ set_number_of l clock done minutes t set next
  unfolding set_number_of
  before_clock h = rw (lt-ltb t clock h)

  module _ (h : clock ≤ t) (x : Bool) (runs : x ≡ every (runs_at done l) (members_of set)) where
    pub not_running : x ≡ false → 25 ≡ set_number_of l clock done minutes t set next
    unfolding set_number_of
    not_running e = rw (le-ltb t clock h, ← runs, e)

    module _ (e : x ≡ true) (y : Bool) (timely : y ≡ every (timely_at minutes l t) (members_of set)) where
      pub not_in_time : y ≡ false → 26 ≡ set_number_of l clock done minutes t set next
      unfolding set_number_of
      not_in_time f = rw (le-ltb t clock h, ← runs, e, ← timely, f)

      module _ (f : y ≡ true) (z : Bool) (late : z ≡ every (not_late_at l done minutes t set) (members_of l.watched)) where
        pub run_out : z ≡ false → 27 ≡ set_number_of l clock done minutes t set next
        unfolding set_number_of
        run_out g = rw (le-ltb t clock h, ← runs, e, ← timely, f, ← late, g)

        pub passes : z ≡ true → next ≡ set_number_of l clock done minutes t set next
        unfolding set_number_of
        passes g = rw (le-ltb t clock h, ← runs, e, ← timely, f, ← late, g)
