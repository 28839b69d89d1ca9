-- What the rooms of an engine hold when it begins: the plan's rows, lists and counts at the fresh board, or what they held where the plan
-- is refused. Assumes nothing.
use Rattle.std.specs.Prelude.{◌≡◌, List, ℕ, length}
use Rattle.plan.specs.Limits.{most_records}
use Rattle.plan.specs.APlan.{records_of}
use Rattle.plan.specs.ReplyNumbers.{check_of}
use Rattle.plan.specs.declared.Plan.{Plan}
use Rattle.records.specs.declared.Record.{Record}
use Rattle.links.specs.Inside.{LinksOf}
use Rattle.kept.specs.Begins.{Begun}
use Rattle.keeping.specs.Keeps.{Listed}
use Rattle.rooms.specs.declared.Started.{Started}

-- the rooms of the records rs at the fresh board
pub record Filled (rs : List Record) (rows into out ends kept : List ℕ) : Type 0 where
  pub listed : Listed rs rows into out ends
  pub begun : Begun rows (length rs) kept

-- the rooms before and after, and what is answered
pub record BeginsWith (p : Plan) (s : Started) (rows₀ into₀ out₀ ends₀ kept₀ rows into out ends kept : List ℕ) : Type 0 where
  pub room : length p.records ≡ most_records
  pub number : s.number ≡ (check_of p).number
  pub place : s.place ≡ (check_of p).place
  pub links : LinksOf (records_of p) s.links
  pub refused : ((check_of p).number ≡ 0 → ⊥) → (rows ≡ rows₀) × (into ≡ into₀) × (out ≡ out₀) × (ends ≡ ends₀) × (kept ≡ kept₀)
  pub taken : (check_of p).number ≡ 0 → Filled (records_of p) rows into out ends kept
