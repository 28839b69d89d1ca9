-- Worked lines of document 02, §6, computed by the checker. Assumes nothing.
use mathlib.Core.Path.{◌≡◌, refl}
use Prim.Native.Nat.{ℕ}
use lib.IntN.{ℤ, pos, negsuc}
use Rattle.values.specs.Ascii.{ascii}
use Rattle.records.specs.declared.Record.{Record}
use Rattle.replies.specs.declared.Place.{Place}
use Rattle.replies.specs.declared.State.TheVariants.{Shut}
use Rattle.lines.specs.Text.{line_of, digits, spelled, more_text}
use Rattle.text.specs.Lines.{point_line, reply_line}

abbrev shut : ℕ → Place
shut n = record { state = Shut n }

-- a record of a kind with two points and a number
abbrev kept : ℕ → ℕ → ℕ → ℤ → Record
kept kind a b d = record { kind = kind; a = a; b = b; first = d; second = pos 0; code = 0 }

by_ordinary : point_line 1 41705 (shut 5) (kept 3 1 0 (negsuc 9)) ≡ line_of (ascii "point 1 41705 shut 5 ordinary 1 -10 0\n")
unfolding digits spelled more_text
by_ordinary = refl

by_wait : point_line 3 17 (shut 8) (kept 4 3 2 (pos 35)) ≡ line_of (ascii "point 3 17 shut 8 wait 3 2 35\n")
unfolding digits spelled more_text
by_wait = refl

by_none : point_line 3 17 (shut 0) (kept 4 3 2 (pos 35)) ≡ line_of (ascii "point 3 17 shut\n")
unfolding digits spelled more_text
by_none = refl

refused_by_lem : reply_line 3 28 5 ≡ line_of (ascii "event 3 28 5\n")
unfolding digits spelled more_text
refused_by_lem = refl

refused_by_none : reply_line 3 28 0 ≡ line_of (ascii "event 3 28\n")
unfolding digits spelled more_text
refused_by_none = refl
