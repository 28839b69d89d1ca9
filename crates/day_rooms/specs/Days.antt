-- What the engine that keeps counts answers over rooms that are lent, whatever they hold: begun from a plan file, an event taken, the reply.
-- Each is what the engine's own contract says, with the links as a room of numbers. Assumes nothing.
use Rattle.std.specs.Prelude.{◌≡◌, ◌≢◌, List, [], ◌∷◌, ℕ, length}
use Rattle.plan.specs.Limits.{most_records}
use Rattle.plan.specs.APlan.{records_of}
use Rattle.plan.specs.ReplyNumbers.{read_of, number_in, place_in, plan_in}
use Rattle.plan.specs.declared.Refusal.{Refusal}
use Rattle.links.specs.Inside.{LinksOf}
use Rattle.links.specs.declared.Links.{Links}
use Rattle.replies.specs.declared.Reply.{Reply}
use Rattle.rooms.specs.Filling.{Filled}
use Rattle.engine.specs.Takes.{TakesWith, RepliesWith}
use Rattle.halves.specs.Answers.{answer_of}
use Rattle.hulls.specs.Rooms.{links_in, links_room, reply_room}

-- the rooms of the plan of an accepted file s at the fresh board
pub record FilledFrom (s links rows into out ends kept : List ℕ) : Type 0 where
  pub room : length (plan_in (read_of s)).records ≡ most_records
  pub of : Links
  pub are : LinksOf (records_of (plan_in (read_of s))) of
  pub held : links ≡ links_room of
  pub rooms : Filled (records_of (plan_in (read_of s))) rows into out ends kept

-- the file's own refusal, and every room as it was; or 0, and the rooms are filled
pub record BeginsFrom (s links₀ rows₀ into₀ out₀ ends₀ kept₀ : List ℕ) (r : ℕ) (links rows into out ends kept : List ℕ) : Type 0 where
  pub answer : r ≡ answer_of (number_in (read_of s)) (place_in (read_of s))
  pub refused : number_in (read_of s) ≢ 0 → (links ≡ links₀) × (rows ≡ rows₀) × (into ≡ into₀) × (out ≡ out₀) × (ends ≡ ends₀) × (kept ≡ kept₀)
  pub taken : number_in (read_of s) ≡ 0 → FilledFrom s links rows into out ends kept

-- an event's number and the record beside it, and the room after it
pub record TakesFrom (links rows into out ends kept₀ s : List ℕ) (r : ℕ) (kept : List ℕ) : Type 0 where
  pub found : Refusal
  pub takes : TakesWith (links_in links) rows into out ends kept₀ s found kept
  pub answer : r ≡ answer_of found.number found.place

-- the reply in its room
pub record RepliesFrom (links rows out kept : List ℕ) (room : List ℕ) : Type 0 where
  pub reply : Reply
  pub replies : RepliesWith (links_in links) rows out kept reply
  pub holds : room ≡ reply_room reply

-- ---- a day

-- some events are taken one after the other, from what the room `kept` holds to what it holds then, and give these answers
pub data TakenAll (links rows into out ends : List ℕ) : List ℕ → List (List ℕ) → List ℕ → List ℕ → Type 0 where
  none : {kept : List ℕ} → TakenAll links rows into out ends kept [] [] kept
  next : {kept kept' kept'' s : List ℕ} {ss : List (List ℕ)} {r : ℕ} {rs : List ℕ} → TakesFrom links rows into out ends kept s r kept'
      → TakenAll links rows into out ends kept' ss rs kept'' → TakenAll links rows into out ends kept (s ∷ ss) (r ∷ rs) kept''

-- numbers and records as answers
unfoldable pub answers_in : List Refusal → List ℕ
answers_in [] = []
answers_in (x ∷ xs) = answer_of x.number x.place ∷ answers_in xs
