-- Document 02, §8, its two examples: the test computed says yes to two trucks in a chain, so all that is promised of plans
-- that pass holds of them, and their day is a good sheet; a ring of three links is reported as a cycle. Assumes nothing.
use mathlib.Core.Path.{◌≡◌, refl, subst}
use mathlib.Core.List.{[], ◌∷◌}
use Prim.Native.Nat.{ℕ, ◌<◌}
use native.Mathlib.Omega.{arith}
use lib.ListN.{length, get_or}
use Rattle.points.specs.Sets.{from, first_or}
use Rattle.plan.specs.Haul.{a_link}
use Rattle.plan.specs.APlan.{link, how_many, some, first_that, blank, records_of}
use Rattle.plan.specs.ReplyNumbers.{check_of, check_with, first_bad_with, number_for_with, last_kind}
use Rattle.board.specs.Boards.{each}
use Rattle.vee.specs.declared.Answer.{Answer}
use Rattle.vee.specs.declared.Answer.TheVariants as answer
use Rattle.vee.specs.PlanTest.{Tested, Has, LinkIn, spans, spread, projections, many}
use Rattle.vee.specs.TestOf.{arcs, listed, at_once, passes, first_from, judge_of, test_from, test_of}
use Rattle.vee.proofs.Executable.{computed}
use Rattle.vee.proofs.Yes.{yes_passes}
use Rattle.promise.specs.Nets.{PassesPlan}
use Rattle.promise.specs.Plays.{Players, Finishes}
use Rattle.promise.specs.GoodSheets.{in_place, in_order, Near, GoodSheet, events_of, Gives}
use Rattle.promise.specs.Chains.{Ring, one, more, trucks, three_round}
use Rattle.promise.proofs.AChain.{chain_day, ring_accepted}
use Rattle.promise.proofs.Keeping.{good_computed}
use Rattle.promise.proofs.GoodSheets.{good_given}
use Rattle.promise.proofs.TestYes.{yes_accepted, yes_finishes}
use Rattle.promise.proofs.Rings.{ring_reported}

-- ---- two trucks in a chain

says_yes : test_of trucks ≡ answer.Yes 66
unfolding test_of test_from judge_of first_from passes at_once listed arcs spans spread projections many how_many some first_that check_with first_bad_with number_for_with last_kind
says_yes = refl

trucks_yes : Tested trucks (answer.Yes 66)
trucks_yes = subst (λ (a : Answer). Tested trucks a) says_yes (computed trucks)

-- The trucks pass.
pub trucks_pass : PassesPlan trucks
trucks_pass = yes_passes trucks_yes

-- Whatever haulage and the foreman decide, they run to kept in at most five events.
pub trucks_finish : (x : Players trucks) → Finishes trucks x
trucks_finish x = yes_finishes trucks_yes x

-- drives of 25 and 12 minutes
abbrev drives : ℕ → ℕ
drives C = get_or (0 ∷ 0 ∷ 25 ∷ 12 ∷ []) C 0

-- Their day is a good sheet, and its events give it.
pub chain_day_good : GoodSheet trucks drives chain_day
unfolding in_place in_order first_or Near each from how_many first_that
chain_day_good =
    good_computed trucks (yes_accepted trucks_yes) drives chain_day refl (omega arith)
    (omega arith, (omega arith, (omega arith, (omega arith, (omega arith, tt)))))

pub chain_day_given : Gives trucks (events_of (records_of trucks) chain_day) chain_day
chain_day_given = good_given trucks (yes_accepted trucks_yes) trucks_pass drives chain_day chain_day_good

-- ---- a ring

-- a record that is a link is one of the plan's links
link_at : (A x y C i : ℕ) → i < length (records_of three_round) → get_or (records_of three_round) i blank ≡ a_link A x y C
    → LinkIn (records_of three_round) A x y C
link_at A x y C i h e =
    let has : Has (records_of three_round) link (a_link A x y C) = record { place = i; listed = h; here = e; kind = refl } in
    record { what = a_link A x y C; has = has; from = refl; to = refl; least = refl; most = refl }

three_ring : Ring (records_of three_round)
three_ring =
    record {
      at = 0;
      round =
          more (link_at 0 5 6 1 3 (omega arith) refl)
          (more (link_at 1 5 6 2 4 (omega arith) refl) (one (link_at 2 5 6 0 5 (omega arith) refl)));
    }

-- The ring is reported as a cycle at the first projection.
pub ring_answered : test_of three_round ≡ answer.Cycle 0
unfolding spans many
ring_answered = (ring_reported three_round ring_accepted three_ring).answered (omega arith)
