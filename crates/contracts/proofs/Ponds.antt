-- The contracts of `ponds` that are relations permit a single answer, lent rooms included: they are the engine's and the lighter plan's own, with
-- links and replies as rooms of numbers. Assumes nothing.
use mathlib.Core.Path.{◌≡◌, refl, sym, ap, ◌∙◌}
use mathlib.Core.List.{List}
use Prim.Native.Nat.{ℕ}
use native.Mathlib.Decide.{ℕ_discrete}
use Rattle.plan.specs.APlan.{records_of}
use Rattle.plan.specs.ReplyNumbers.{read_of, number_in, plan_in as plan_read}
use Rattle.plan.specs.declared.Refusal.{Refusal}
use Rattle.lighter.specs.declared.Lighter.{Lighter}
use Rattle.lighter.proofs.Theorems.{one_lighter}
use Rattle.halves.specs.Answers.{answer_of}
use Rattle.hulls.specs.Rooms.{links_in, links_room, reply_room}
use Rattle.made_files.specs.Made.{filed_answer, file_left, plan_in, dropped_left, LighterWritten}
use Rattle.made_files.specs.Made.LighterWritten.{unread, refused, made}
use Rattle.day_rooms.specs.Days.{FilledFrom, BeginsFrom, TakesFrom, RepliesFrom}
use Rattle.contracts.proofs.Begins.{SameRooms, one_links, filled_same}
use Rattle.contracts.proofs.Rooms.{one_reply, one_taken, one_room}

pub one_lightened : (s out room : List ℕ) {r r' : ℕ} {o o' n n' : List ℕ} → LighterWritten s out room r o n → LighterWritten s out room r' o' n' → (r ≡ r') × (o ≡ o') × (n ≡ n')
one_lightened s out room (unread h) (unread k) = (refl, refl, refl)
one_lightened s out room (unread h) (refused e l) = absurd (h e)
one_lightened s out room (unread h) (made e l) = absurd (h e)
one_lightened s out room (refused e l) (unread h) = absurd (h e)
one_lightened s out room (refused {r = x} e l) (refused {r = y} e' l') =
    let q : x ≡ y = cc (one_lighter l l') in
    (ap (λ (w : Refusal). answer_of w.number w.place) q, refl, refl)
one_lightened s out room (refused e l) (made e' l') = absurd (cc (one_lighter l l'))
one_lightened s out room (made e l) (unread h) = absurd (h e)
one_lightened s out room (made e l) (refused e' l') = absurd (cc (one_lighter l l'))
one_lightened s out room (made {x = x} e l) (made {x = y} e' l') =
    let q : x ≡ y = cc (one_lighter l l') in
    (λ i. filed_answer (plan_in (q i)) out, λ i. file_left (plan_in (q i)) out, λ i. dropped_left (q i) out room)

pub one_take : (links rows into out ends kept s : List ℕ) (r r' : ℕ) (kept' kept'' : List ℕ) → TakesFrom links rows into out ends kept s r kept' → TakesFrom links rows into out ends kept s r' kept''
    → (r ≡ r') × (kept' ≡ kept'')
one_take links rows into out ends kept s r r' kept' kept'' x y =
    let f = one_taken kept rows out (links_in links) s into ends x.found y.found kept' kept'' x.takes y.takes in
    (x.answer ∙ ap (λ (w : Refusal). answer_of w.number w.place) f ∙ sym y.answer, one_room kept rows out (links_in links) s into ends x.found y.found kept' kept'' x.takes y.takes)

pub one_said : (links rows out kept room room' : List ℕ) → RepliesFrom links rows out kept room → RepliesFrom links rows out kept room' → room ≡ room'
one_said links rows out kept room room' x y =
    x.holds ∙ ap reply_room (one_reply kept rows out (links_in links) x.reply y.reply x.replies y.replies) ∙ sym y.holds

module _ (s links₀ rows₀ into₀ out₀ ends₀ kept₀ links rows into out ends kept links' rows' into' out' ends' kept' : List ℕ) (r r' : ℕ)
    (x : BeginsFrom s links₀ rows₀ into₀ out₀ ends₀ kept₀ r links rows into out ends kept) (y : BeginsFrom s links₀ rows₀ into₀ out₀ ends₀ kept₀ r' links' rows' into' out' ends' kept') where
  pub begun_same : (links ≡ links') × SameRooms rows into out ends kept rows' into' out' ends' kept'
  begun_same = go (ℕ_discrete (number_in (read_of s)) 0)
    where
      go : Dec (number_in (read_of s) ≡ 0) → (links ≡ links') × SameRooms rows into out ends kept rows' into' out' ends' kept'
      go (yes e) =
          let a = x.taken e in
          let b = y.taken e in (
            a.held ∙ ap links_room (one_links (records_of (plan_read (read_of s))) a.of b.of a.are b.are) ∙ sym b.held,
            filled_same (records_of (plan_read (read_of s))) rows into out ends kept rows' into' out' ends' kept' a.rooms b.rooms,
          )
      go (no n) =
          let a = x.refused n in
          let b = y.refused n in (
            a.0 ∙ sym b.0,
            record {
              rows_same = a.1 ∙ sym b.1;
              into_same = a.2 ∙ sym b.2;
              out_same = a.3 ∙ sym b.3;
              ends_same = a.4 ∙ sym b.4;
              kept_same = a.5 ∙ sym b.5;
            },
          )
