-- What `windows` gives and asks on plain values, said of a board: on a sound board every minute is small, and the least
-- High of the open points is H. Assumes nothing.
use mathlib.Core.Path.{◌≡◌, refl, ◌∙◌}
use mathlib.Core.Bool.{Bool, true, false, cond}
use mathlib.Core.List.{List, ◌∷◌}
use Prim.Native.Nat.{ℕ, zero, suc, ◌+◌, ◌^◌, ◌≤◌, ◌<◌, min}
use native.Mathlib.Omega.{arith}
use lib.ListN.{get_or}
use Rattle.points.specs.Sets.{member, members_of, passing, from}
use Rattle.points.proofs.Laws.{count_le}
use Rattle.std.specs.Prelude.{if◌then◌else◌}
use Rattle.plan.specs.Limits.{most_points}
use Rattle.plan.specs.APlan.{records_of}
use Rattle.plan.specs.declared.Plan.{Plan}
use Rattle.records.specs.declared.Record.{Record}
use Rattle.links.specs.declared.Links.{Links}
use Rattle.lowhigh.specs.Inside.{Given}
use Rattle.windows.specs.Inside.{least_at}
use Rattle.windows.specs.Inside as windows
use Rattle.windows.specs.declared.Windows.{Windows}
use Rattle.board.specs.Windows.{is_open, high, least_high, H}
use Rattle.board.specs.InsideReplies.{Ready, WindowsOf}
use Rattle.board.proofs.Theorems.Soundness.{sound_means}
use Rattle.board.specs.declared.Board.{Board}

-- what the windows ask
pub given : (p : Plan) (b : Board) (l : Links) → b.done < 2 ^ 32 → Ready p b l → Given p l b.minutes
given p b l d r =
    let s = sound_means (records_of p) b r.sound in
    record { accepted = r.accepted; links = r.links; small = λ q h. omega (arith, s.past q h, s.few, count_le b.done d) }

-- H
module _ (rs : List Record) (b : Board) (highs : List ℕ) (by : (q : ℕ) → q < most_points → get_or highs q 0 ≡ high rs b q)
    (opens : ℕ) (here : (q : ℕ) → q < most_points → member opens q ≡ is_open rs b q) where
  high_from : (n p : ℕ) → p + n ≤ most_points → least_at highs (passing (member opens) (from p n)) ≡ least_high rs b (from p n)
  unfolding least_at passing from least_high
  high_from zero p h = refl
  high_from (suc n) p h =
      rw (here p (omega arith)) (go (is_open rs b p) (high_from n (suc p) (omega arith)))
    where
      go : (o : Bool) → least_at highs (passing (member opens) (from (suc p) n)) ≡ least_high rs b (from (suc p) n)
          → least_at highs (cond o (p ∷ passing (member opens) (from (suc p) n)) (passing (member opens) (from (suc p) n)))
          ≡ (if o then min (high rs b p) (least_high rs b (from (suc p) n)) else least_high rs b (from (suc p) n))
      go true e = rw (e, by p (omega arith))
      go false e = e

  high_here : least_at highs (members_of opens) ≡ H rs b
  unfolding members_of
  high_here = high_from 32 0 (omega arith)

-- what the windows give
pub windows_here : (rs : List Record) (b : Board) (w : Windows) → windows.WindowsOf rs b.clock b.done b.minutes w → WindowsOf rs b w
windows_here rs b w v =
    record {
      fits = v.fits;
      long = v.long;
      opens = v.opens;
      holders = v.holders;
      lows = v.lows;
      high = v.high ∙ high_here rs b v.highs v.high_by_lem w.opens v.opens;
    }
