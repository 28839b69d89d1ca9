-- The number of a reply: it is refused exactly by the plan's own number or 20. Assumes nothing.
use mathlib.Core.Path.{◌≡◌, refl, ap, ◌∙◌}
use mathlib.Core.Bool.{Bool, true, false, not}
use mathlib.Core.List.{List}
use lib.Dec.{eqb}
use Rattle.std.specs.Prelude.{if◌then◌else◌}
use Rattle.plan.specs.APlan.{records_of}
use Rattle.plan.specs.ReplyNumbers.{check_of}
use Rattle.records.specs.declared.Record.{Record}
use Rattle.plan.specs.declared.Plan.{Plan}
use Rattle.board.specs.Boards.{sound}
use Rattle.board.specs.Windows.{some_open}
use Rattle.board.specs.Stuck.{finished, stuck}
use Rattle.board.specs.declared.Board.{Board}
use Rattle.replies.specs.Replies.{outcome_of, reply_for, sound_reply, bare, reply_of}
use Rattle.replies.specs.Numbers.{outcome_number, call_number}
use Rattle.replies.specs.declared.Outcome.TheVariants as outcome
use Rattle.replies.specs.declared.Reply.{Reply}

module _ (rs : List Record) (b : Board) where
  -- an outcome that fits is no refusal
  sound_number : outcome_number (sound_reply rs b).outcome ≡ 0
  unfolding outcome_of
  sound_number = go (finished rs b) (stuck rs b) (some_open rs b)
    where
      go : (f s o : Bool) → outcome_number (reply_for (if f then outcome.Finished else (if s then outcome.Stuck else (if not o then outcome.Waiting else outcome.Offers))) rs b).outcome ≡ 0
      go true s o = refl
      go false true o = refl
      go false false true = refl
      go false false false = refl

module _ (p : Plan) (b : Board) where
  -- The number of a reply is the plan's own, or 20, or 0.
  pub reply_number : outcome_number (reply_of p b).outcome ≡ call_number p b
  unfolding reply_of
  reply_number = go (eqb (check_of p).number 0) (sound (records_of p) b)
    where
      go : (k s : Bool)
          → outcome_number (if not k then bare (outcome.Refused (check_of p).number (check_of p).place) else (if not s then bare (outcome.Refused 20 0) else sound_reply (records_of p) b)).outcome
          ≡ (if not k then (check_of p).number else (if not s then 20 else 0))
      go true true = sound_number (records_of p) b
      go true false = refl
      go false s = refl

-- ---- with its number, as the contracts say it

pub reply_numbered : (p : Plan) (b : Board) {r : Reply} → r ≡ reply_of p b → (r ≡ reply_of p b) × (outcome_number r.outcome ≡ call_number p b)
reply_numbered p b e = (e, ap (λ (r : Reply). outcome_number r.outcome) e ∙ reply_number p b)
