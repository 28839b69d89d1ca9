-- What is answered of a file, from what reading it answers. Assumes nothing.
use mathlib.Core.Path.{◌≡◌, sym, ap, ◌∙◌}
use mathlib.Core.List.{List}
use Prim.Native.Nat.{ℕ, ◌-◌, ◌≤◌}
use native.Mathlib.Omega.{arith}
use lib.ListN.{length, replicate, length-append, length-replicate}
use Rattle.std.specs.Prelude.{Ok}
use Rattle.plan.specs.ReplyNumbers.{number_in, plan_in, read_of, check_of}
use Rattle.plan.proofs.Limited.{records_in, parts, read_taken}
use Rattle.plan.proofs.RoundTrip.{read_is_checked, checked_count}
use Rattle.plan.specs.Limits.{most_points, most_ordinary, most_records}
use Rattle.plan.specs.APlan.{blank, plan_of, records_of}
use Rattle.plan.specs.declared.Plan.{Plan}
use Rattle.plan.specs.declared.Refusal.{Refusal}
use Rattle.records.specs.declared.Record.{Record}
use Rattle.links.specs.Inside.{LinksOf}
use Rattle.links.specs.declared.Links.{Links}
use Rattle.codes.specs.Ponds.{ForEach, pond_at}
use Rattle.calendar.specs.Inside.{SheetOf}
use Rattle.board.specs.declared.Board.{Board}
use Rattle.halves.specs.OfFile.{of_file}
use Rattle.halves.proofs.OfFile.{of_read}

-- a plan that was read is accepted
pub read_accepted : (s : List ℕ) (p : Plan) → Ok p ≡ read_of s → (check_of p).number ≡ 0
read_accepted s p e = rw (ap plan_in e) (ap (λ (r : Refusal). r.number) (read_is_checked s (sym (ap number_in e))))

-- and fills its room
read_full : (s : List ℕ) (p : Plan) → Ok p ≡ read_of s → length p.records ≡ most_records
read_full s p e =
    let rs : List Record = records_in (parts s) in
    let taken_is : p ≡ plan_of rs = ap plan_in (e ∙ read_taken most_ordinary s (sym (ap number_in e))) in
    let few : p.count ≤ most_records = (checked_count p (read_accepted s p e)).1 in
    let count : p.count ≡ length rs = ap (λ (q : Plan). q.count) taken_is in
    ap (λ (q : Plan). length q.records) taken_is
    ∙ length-append rs (replicate (most_records - length rs) blank)
    ∙ omega (arith, few, count, length-replicate (most_records - length rs) blank)

-- with its links and pond codes a calendar can be written
pub sheet_read : (s : List ℕ) (p : Plan) → Ok p ≡ read_of s → {l : Links} {ponds : List ℕ} → LinksOf (records_of p) l → ForEach (pond_at p) 0 most_points ponds → SheetOf p l ponds
sheet_read s p e l ponds = record { ok = read_accepted s p e; full = read_full s p e; links = l; ponds = ponds }

-- and what is said of the plan and a board b, which is the board k
pub by_board : {A : Type 0} (s : List ℕ) (f : Plan → Board → A) (g : ℕ → ℕ → A) (p : Plan) → Ok p ≡ read_of s → (b k : Board) → b ≡ k → (r : A) → r ≡ f p b → r ≡ of_file s (λ p. f p k) g
by_board s f g p e b k eb r er = er ∙ ap (f p) eb ∙ of_read s (λ p. f p k) g p e
