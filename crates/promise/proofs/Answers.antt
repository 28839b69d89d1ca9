-- Demand 3 in the answers that people are given: each statement of specs/Answers. Assumes nothing.
use mathlib.Core.Path.{◌≡◌, refl, sym, ap, ◌∙◌}
use mathlib.Core.Bool.{Bool, true, false, not, true≢false}
use mathlib.Core.List.{List, [], ◌∷◌}
use Prim.Native.Nat.{ℕ, ◌+◌, ◌<◌}
use native.Mathlib.Omega.{arith}
use lib.Dec.{eqb}
use lib.ListN.{get_or}
use Rattle.std.specs.Prelude.{if◌then◌else◌}
use Rattle.plan.specs.Limits.{most_points}
use Rattle.plan.specs.APlan.{records_of}
use Rattle.plan.specs.ReplyNumbers.{check_of}
use Rattle.records.specs.declared.Record.{Record}
use Rattle.plan.specs.declared.Plan.{Plan}
use Rattle.board.specs.Boards.{sound}
use Rattle.board.specs.Windows.{some_open}
use Rattle.board.specs.Stuck.{finished, stuck}
use Rattle.board.specs.declared.Board.{Board}
use Rattle.replies.specs.Replies.{outcome_of, state_of, shut, bare, offer, reply_for, reply_of}
use Rattle.replies.specs.Numbers.{outcome_values, state_values}
use Rattle.replies.specs.declared.Place.{Place}
use Rattle.replies.specs.declared.Outcome.{Outcome}
use Rattle.replies.specs.declared.Outcome.TheVariants.{Refused, Finished, Stuck, Waiting, Offers}
use Rattle.replies.specs.declared.Reply.{Reply}
use Rattle.replies.proofs.Replying.{map_at}
use Rattle.verdict.specs.Numbers.{verdict_number, verdict_values}
use Rattle.verdict.specs.declared.Verdict.TheVariants as verdict
use Rattle.vee.specs.PlanTest.{answer_number, answer_values}
use Rattle.vee.proofs.Yes.{yes_exactly}
use Rattle.promise.specs.Answers.{AsReplied, ChoiceReplied, ReplyNumbered, VerdictNumbered, KeptNumbered, YesNumbered}
use Rattle.promise.proofs.Executor.{executor, outcome_is}

-- a reply that offers is an offer, whole
abbrev is_offer : Outcome → Bool
is_offer (Refused n i) = false
is_offer Finished = false
is_offer Stuck = false
is_offer Waiting = false
is_offer Offers = true

no_offer : {A : Type 0} (o : Outcome) → is_offer o ≡ false → o ≡ Offers → A
no_offer o n e = absurd (true≢false (sym (ap is_offer e) ∙ n))

whole : (p : Plan) (b : Board) → (reply_of p b).outcome ≡ Offers → reply_of p b ≡ offer (records_of p) b
unfolding reply_of
whole p b e = go (eqb (check_of p).number 0) (sound (records_of p) b) (outcome_of (records_of p) b) e
  where
    go : (x y : Bool) (o : Outcome)
        → (if not x then bare (Refused (check_of p).number (check_of p).place) else (if not y then bare (Refused 20 0) else reply_for o (records_of p) b)).outcome ≡ Offers
        → (if not x then bare (Refused (check_of p).number (check_of p).place) else (if not y then bare (Refused 20 0) else reply_for o (records_of p) b)) ≡ offer (records_of p) b
    go false y o e = no_offer _ refl e
    go true false o e = no_offer _ refl e
    go true true (Refused n i) e = no_offer _ refl e
    go true true Finished e = no_offer _ refl e
    go true true Stuck e = no_offer _ refl e
    go true true Waiting e = no_offer _ refl e
    go true true Offers e = refl

pub as_replied : AsReplied
as_replied p b e = (ap (λ (r : Reply). r.latest) (whole p b e), at)
  where
    at : (q : ℕ) → q < most_points → (get_or (reply_of p b).places q shut).state ≡ state_of (records_of p) b q
    at q h =
        let z : 0 + q ≡ q = omega arith in
        ap (λ (r : Reply). (get_or r.places q shut).state) (whole p b e)
        ∙ ap (λ (x : Place). x.state) (rw z at (map_at (λ (k : ℕ). record { state = state_of (records_of p) b k }) most_points 0 q h))

pub choice_replied : ChoiceReplied
choice_replied p b e c h =
    let r = as_replied p b e in
    (ap state_values (r.1 c.point h ∙ c.offered), c.window.0, rw r.0 c.window.1)

-- an outcome of the rules, which is no refusal, carries no value
no_values : (rs : List Record) (b : Board) → outcome_values (outcome_of rs b) ≡ []
unfolding outcome_of
no_values rs b = go (finished rs b) (stuck rs b) (some_open rs b)
  where
    go : (f s o : Bool) → outcome_values (if f then Finished else (if s then Stuck else (if not o then Waiting else Offers))) ≡ []
    go true s o = refl
    go false true o = refl
    go false false false = refl
    go false false true = refl

pub reply_numbered : ReplyNumbered
reply_numbered p w b k r =
    let m = executor p w.accepted w.passes r in
    (m.answered, ap outcome_values (outcome_is p w.accepted b m.sound) ∙ no_values (records_of p) b)

pub verdict_numbered : VerdictNumbered
verdict_numbered p x f = (ap verdict_number f.kept, ap verdict_values f.kept)

-- whether there are none
abbrev none : List ℕ → Bool
none [] = true
none (n ∷ ns) = false

pub kept_numbered : KeptNumbered
kept_numbered (verdict.Refused n i) e = absurd (true≢false (sym (ap none e)))
kept_numbered verdict.Kept e = refl
kept_numbered (verdict.Broken i) e = absurd (true≢false (sym (ap none e)))

pub yes_numbered : YesNumbered
yes_numbered p a e m t w = let y = (yes_exactly e m t).1 w in (ap answer_number y, ap answer_values y)
