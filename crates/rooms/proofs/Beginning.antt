-- The rooms of a plan that passes the check: how many records there are, and that the room of counts is what the whole plan gives at the
-- fresh board. Assumes nothing.
use mathlib.Core.Path.{◌≡◌, refl, ◌∙◌, sym, ap}
use mathlib.Core.List.{List}
use Prim.Native.Nat.{ℕ, ◌≤◌}
use native.Mathlib.Omega.{arith}
use mathlib.Core.Bool.{false}
use borrow.Author.Tests.{ltb-false}
use lib.Dec.{eqb, ltb}
use lib.ListN.{length, length-take}
use Rattle.plan.specs.Limits.{most_records}
use Rattle.plan.specs.APlan.{records_of}
use Rattle.plan.specs.ReplyNumbers.{check_of, check_with, refusal}
use Rattle.plan.specs.declared.Plan.{Plan}
use Rattle.plan.specs.declared.Refusal.{Refusal}
use Rattle.plan.proofs.Accepted.{accepted_plan}
use Rattle.plan.proofs.Entries.{past}
use Rattle.links.specs.Inside.{LinksOf}
use Rattle.links.specs.declared.Links.{Links}
use Rattle.rows.specs.Layout.{LaidOut}
use Rattle.neighbours.specs.Lists.{key_at, Indexed}
use Rattle.kept.specs.Begins.{Begun}
use Rattle.board.specs.Boards.{fresh}
use Rattle.keeping.specs.Keeps.{KeptOf}
use Rattle.keeping.proofs.Fresh.{kept_fresh}
use Rattle.rooms.specs.Filling.{Filled, BeginsWith}
use Rattle.rooms.specs.declared.Started.{Started}

-- a plan that passes the check has no more records than there is room for
pub few_records : (p : Plan) → (check_of p).number ≡ 0 → p.count ≤ most_records
unfolding check_with
few_records p e =
    let a = past (λ (x : Refusal). x.number) (eqb p.count 0) (refusal 1 0) _ (omega arith) e in
    ltb-false most_records p.count (past (λ (x : Refusal). x.number) (ltb most_records p.count) (refusal 3 0) _ (omega arith) a.1).0

-- and as many as its count says
pub all_records : (p : Plan) → p.count ≤ most_records → length p.records ≡ most_records → p.count ≡ length (records_of p)
all_records p few long = omega (arith, length-take p.count p.records)

-- ---- all rooms

-- the rooms that were filled one after the other
pub filled_by : (p : Plan) (rows into out ends kept : List ℕ) → p.count ≤ most_records → length p.records ≡ most_records → LaidOut (records_of p) rows
    → Indexed (key_at rows 3 2) p.count into → Indexed (key_at rows 3 1) p.count out → Indexed (key_at rows 4 5) p.count ends → Begun rows p.count kept
    → Filled (records_of p) rows into out ends kept
filled_by p rows into out ends kept few long l i o e b =
    let n = all_records p few long in
    record { listed = record { laid = l; into_is = rw n at i; out_is = rw n at o; ends_is = rw n at e }; begun = rw n at b }

-- ---- what is answered

module _ (p : Plan) (long : length p.records ≡ most_records) (x : Refusal) (ex : x ≡ check_of p) (l : Links) (links : LinksOf (records_of p) l) (rows₀ into₀ out₀ ends₀ kept₀ : List ℕ) where
  abbrev started : Started
  started = record { number = x.number; place = x.place; links = l }

  pub begins_refused : (x.number ≡ 0 → ⊥) → BeginsWith p started rows₀ into₀ out₀ ends₀ kept₀ rows₀ into₀ out₀ ends₀ kept₀
  begins_refused n =
      record {
        room = long;
        number = ap (λ (r : Refusal). r.number) ex;
        place = ap (λ (r : Refusal). r.place) ex;
        links = links;
        refused = λ h. (refl, refl, refl, refl, refl);
        taken = λ h. absurd (n (ap (λ (r : Refusal). r.number) ex ∙ h));
      }

  pub begins_taken : (rows into out ends kept : List ℕ) → x.number ≡ 0 → Filled (records_of p) rows into out ends kept
      → BeginsWith p started rows₀ into₀ out₀ ends₀ kept₀ rows into out ends kept
  begins_taken rows into out ends kept n f =
      record {
        room = long;
        number = ap (λ (r : Refusal). r.number) ex;
        place = ap (λ (r : Refusal). r.place) ex;
        links = links;
        refused = λ h. absurd (h (sym (ap (λ (r : Refusal). r.number) ex) ∙ n));
        taken = λ h. f;
      }

-- ---- the fresh board

-- what is kept when an engine begins is what the whole plan gives at the fresh board
pub fresh_kept : (p : Plan) → (check_of p).number ≡ 0 → length p.records ≡ most_records → (rows into out ends kept : List ℕ) → Filled (records_of p) rows into out ends kept
    → KeptOf (records_of p) fresh kept
fresh_kept p ok long rows into out ends kept f =
    let few = few_records p ok in
    kept_fresh (records_of p) (accepted_plan p ok) (omega (arith, all_records p few long)) rows f.listed.laid kept f.begun
