-- What the engine answers over lent rooms, where its links come from a room and go to one. Assumes nothing.
use mathlib.Core.Path.{◌≡◌, refl, sym, ap, ◌∙◌}
use mathlib.Core.List.{List}
use Prim.Native.Nat.{ℕ}
use Rattle.std.specs.Prelude.{Ok, Err}
use Rattle.plan.specs.Limits.{most_ordinary}
use Rattle.plan.specs.ReplyNumbers.{Reading, number_in, place_in, plan_in, read_of, check_of, accepted}
use Rattle.plan.specs.declared.Plan.{Plan}
use Rattle.plan.specs.declared.Refusal.{Refusal}
use Rattle.plan.proofs.Limited.{refused_number}
use Rattle.plan.proofs.RoundTrip.{read_is_checked}
use Rattle.links.specs.declared.Links.{Links}
use Rattle.replies.specs.declared.Reply.{Reply}
use Rattle.rooms.specs.Filling.{BeginsWith}
use Rattle.rooms.specs.declared.Started.{Started}
use Rattle.engine.specs.Takes.{TakesWith, RepliesWith}
use Rattle.halves.specs.Answers.{answer_of}
use Rattle.hulls.specs.Rooms.{links_in, links_room, reply_room}
use Rattle.day_rooms.specs.Days.{FilledFrom, BeginsFrom, TakesFrom, RepliesFrom}

pub replies_from : (links rows out kept : List ℕ) (l : Links) → l ≡ links_in links → (x : Reply) → RepliesWith l rows out kept x → (room : List ℕ) → room ≡ reply_room x
    → RepliesFrom links rows out kept room
replies_from links rows out kept l e x r room h = record { reply = x; replies = rw e at r; holds = h }

pub takes_from : (links rows into out ends kept s : List ℕ) (l : Links) → l ≡ links_in links → (x : Refusal) (kept' : List ℕ) → TakesWith l rows into out ends kept s x kept'
    → (r : ℕ) → r ≡ answer_of x.number x.place → TakesFrom links rows into out ends kept s r kept'
takes_from links rows into out ends kept s l e x kept' t r h = record { found = x; takes = rw e at t; answer = h }

module _ (s links₀ rows₀ into₀ out₀ ends₀ kept₀ : List ℕ) (r : ℕ) where
  pub begins_refused : (x : Refusal) → Err x ≡ read_of s → r ≡ answer_of x.number x.place → BeginsFrom s links₀ rows₀ into₀ out₀ ends₀ kept₀ r links₀ rows₀ into₀ out₀ ends₀ kept₀
  begins_refused x e a =
      record {
        answer = a ∙ ap (λ (y : Reading). answer_of (number_in y) (place_in y)) e;
        refused = λ n. (refl, refl, refl, refl, refl, refl);
        taken = λ z. absurd (refused_number most_ordinary s x e (ap number_in e ∙ z));
      }

  module _ (p : Plan) (e : Ok p ≡ read_of s) where
    -- a plan that was read is accepted
    checked : check_of p ≡ accepted
    checked = rw (ap plan_in e) (read_is_checked s (sym (ap number_in e)))

    pub begins_taken : (y : Started) (links rows into out ends kept : List ℕ) → BeginsWith p y rows₀ into₀ out₀ ends₀ kept₀ rows into out ends kept
        → links ≡ links_room y.links → r ≡ answer_of 0 0 → BeginsFrom s links₀ rows₀ into₀ out₀ ends₀ kept₀ r links rows into out ends kept
    begins_taken y links rows into out ends kept b l a =
        let plan_is : p ≡ plan_in (read_of s) = ap plan_in e in
        record {
          answer = a ∙ ap (λ (w : Reading). answer_of (number_in w) (place_in w)) e;
          refused = λ z. absurd (z (sym (ap number_in e)));
          taken =
              λ z. record {
                room = rw plan_is at b.room;
                of = y.links;
                are = rw plan_is at b.links;
                held = l;
                rooms = rw plan_is at (b.taken (ap (λ (w : Refusal). w.number) checked));
              };
        }
