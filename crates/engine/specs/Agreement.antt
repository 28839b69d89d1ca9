-- Document 02, §5: the rooms agree with the plain engine. The plan p is accepted, the rooms are its rows and lists, the board b is sound,
-- and what is kept is what the whole plan gives at b. Assumes nothing.
use Rattle.std.specs.Prelude.{◌≡◌, true, List, [], ◌∷◌, ℕ, ◌^◌, ◌<◌, length}
use Rattle.plan.specs.Limits.{most_points, most_records}
use Rattle.plan.specs.APlan.{records_of}
use Rattle.plan.specs.ReplyNumbers.{check_of}
use Rattle.plan.specs.declared.Plan.{Plan}
use Rattle.plan.specs.declared.Refusal.{Refusal}
use Rattle.links.specs.Inside.{LinksOf}
use Rattle.links.specs.declared.Links.{Links}
use Rattle.board.specs.Boards.{sound}
use Rattle.board.specs.Events.{take_of}
use Rattle.board.specs.declared.Board.{Board}
use Rattle.keeping.specs.Keeps.{Listed, KeptOf}
use Rattle.engine.specs.Takes.{TakesWith}

pub record Agrees (p : Plan) (l : Links) (rows into out ends : List ℕ) (b : Board) (kept : List ℕ) : Type 0 where
  pub accepted : (check_of p).number ≡ 0
  pub room : length p.records ≡ most_records
  pub links : LinksOf (records_of p) l
  pub listed : Listed (records_of p) rows into out ends
  pub minutes : length b.minutes ≡ most_points
  pub calls : length b.calls ≡ most_points
  pub small : b.done < 2 ^ 32
  pub sound : sound (records_of p) b ≡ true
  pub counts : KeptOf (records_of p) b kept

-- the engine takes some events one after the other, from one room to another, and gives these numbers and records
pub data Runs (l : Links) (rows into out ends : List ℕ) : List ℕ → List (List ℕ) → List Refusal → List ℕ → Type 0 where
  ended : {kept : List ℕ} → Runs l rows into out ends kept [] [] kept
  went : {kept kept' kept'' s : List ℕ} {ss : List (List ℕ)} {r : Refusal} {rs : List Refusal} → TakesWith l rows into out ends kept s r kept' → Runs l rows into out ends kept' ss rs kept''
      → Runs l rows into out ends kept (s ∷ ss) (r ∷ rs) kept''

-- what the plain engine answers to each of some events
unfoldable pub answers_of : Plan → Board → List (List ℕ) → List Refusal
answers_of p b [] = []
answers_of p b (s ∷ ss) = record { number = (take_of p b s).number; place = (take_of p b s).place } ∷ answers_of p (take_of p b s).board ss
