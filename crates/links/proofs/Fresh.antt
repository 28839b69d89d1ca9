-- What is kept of the link to a record's second point, by the test that the code makes: that record's own where it is a link and the
-- first to its point, and what was kept before where it is not. Assumes nothing.
use mathlib.Core.Path.{◌≡◌}
use mathlib.Core.Bool.{Bool, true, false, not, ◌&&◌}
use Prim.Native.Nat.{ℕ}
use lib.Dec.{ltb}
use Rattle.points.specs.Sets.{member}
use Rattle.plan.specs.Limits.{most_points}
use Rattle.plan.specs.APlan.{link, is}
use Rattle.numbers.specs.Numbers.{gap_of}
use Rattle.numbers.specs.declared.Gap.{Gap}
use Rattle.records.specs.declared.Record.{Record}
use Rattle.links.specs.Inside.{end_after}
use Rattle.links.specs.declared.End.{End}

-- `held` is what the code was told on whether the point is watched already, x and y what it made of the two numbers
module _ (r : Record) (s : ℕ) (e : End) (held : Bool) (h : held ≡ member s r.b) where
  abbrev fresh : Bool
  fresh = is link r && (ltb r.b most_points && not held)

  abbrev made : Gap → Gap → End
  made x y = record { from = r.a; shortest = x.up; longest = y.up }

  pub end_new : fresh ≡ true → (x y : Gap) → x ≡ gap_of r.first → y ≡ gap_of r.second → made x y ≡ end_after r s e
  end_new f x y p q = rw (rw h at f, p, q)

  pub end_old : fresh ≡ false → e ≡ end_after r s e
  end_old f = rw (rw h at f)
