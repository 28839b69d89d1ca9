-- "Haul to one pond" of document 01 as an instance: the test computed says yes, so the haul is accepted and passes, every
-- play of it runs to kept, and its worked day is a good sheet. Assumes nothing.
use mathlib.Core.Path.{◌≡◌, refl, subst}
use Prim.Native.Nat.{ℕ}
use native.Mathlib.Omega.{arith}
use Rattle.points.specs.Sets.{from, first_or}
use Rattle.plan.specs.Haul.{haul}
use Rattle.plan.specs.APlan.{how_many, some, first_that, records_of}
use Rattle.plan.specs.ReplyNumbers.{check_of, check_with, first_bad_with, number_for_with, last_kind}
use Rattle.board.specs.Boards.{each}
use Rattle.vee.specs.declared.Answer.{Answer}
use Rattle.vee.specs.declared.Answer.TheVariants as answer
use Rattle.vee.specs.PlanTest.{Tested, spans, spread, projections, many}
use Rattle.vee.specs.TestOf.{arcs, listed, at_once, passes, first_from, judge_of, test_from, test_of}
use Rattle.vee.proofs.Executable.{computed}
use Rattle.vee.proofs.Yes.{yes_passes}
use Rattle.promise.specs.Nets.{PassesPlan}
use Rattle.promise.specs.Plays.{Players, Finishes}
use Rattle.promise.specs.GoodSheets.{in_place, in_order, Near, GoodSheet, events_of, Gives}
use Rattle.promise.proofs.Day.{day}
use Rattle.promise.proofs.Keeping.{good_computed}
use Rattle.promise.proofs.GoodSheets.{good_given}
use Rattle.promise.proofs.TestYes.{yes_accepted, yes_finishes}

-- Worked case 1, computed; so the contract of the test permits yes.
says_yes : test_of haul ≡ answer.Yes 31
unfolding test_of test_from judge_of first_from passes at_once listed arcs spans spread projections many how_many some first_that check_with first_bad_with number_for_with last_kind
says_yes = refl

haul_yes : Tested haul (answer.Yes 31)
haul_yes = subst (λ (a : Answer). Tested haul a) says_yes (computed haul)

-- The haul is accepted.
pub haul_accepted : (check_of haul).number ≡ 0
haul_accepted = yes_accepted haul_yes

-- The haul passes.
pub haul_passes : PassesPlan haul
haul_passes = yes_passes haul_yes

-- Whatever haulage and the foreman decide, the haul runs to kept in at most four events.
pub haul_finishes : (x : Players haul) → Finishes haul x
haul_finishes x = yes_finishes haul_yes x

-- ---- a sheet

-- The worked day, its drive of 28 minutes, is a good sheet of the haul.
abbrev drive : ℕ → ℕ
drive C = 28

pub day_good : GoodSheet haul drive day
unfolding in_place in_order first_or Near each from how_many first_that
day_good = good_computed haul haul_accepted drive day refl (omega arith) (omega arith, (omega arith, (omega arith, (omega arith, tt))))

-- So its events give it; `Day` has them computed.
pub day_given : Gives haul (events_of (records_of haul) day) day
day_given = good_given haul haul_accepted haul_passes drive day day_good
