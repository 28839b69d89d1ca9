-- The listing of a plan file packs to the same bytes. Assumes nothing.
use mathlib.Core.Path.{◌≡◌, refl, sym, ap, ◌∙◌}
use mathlib.Core.List.{List, [], ◌∷◌, ◌++◌, map, append_assoc}
use Prim.Native.Nat.{ℕ, suc, ◌*◌, ◌≤◌}
use lib.ListN.{length, drop, length-map}
use borrow.Author.Tests.{le-ltb}
use Rattle.std.specs.Prelude.{Ok}
use Rattle.numbers.specs.Fits.{All, IsByte}
use Rattle.records.specs.Records as records
use Rattle.records.specs.Limits.{record_bytes}
use Rattle.records.specs.Bytes.{all_bytes}
use Rattle.records.specs.Held.{Held, plain}
use Rattle.records.specs.declared.Record.{Record}
use Rattle.rules.proofs.Passed.{passed}
use Rattle.plan.specs.APlan.{records_of}
use Rattle.plan.specs.ReplyNumbers.{after, number_of, first_bad, first_bad_with, check_of, read_of, number_in, plan_in}
use Rattle.plan.specs.declared.Refusal.{Refusal}
use Rattle.plan.proofs.Entries as Entries
use Rattle.plan.proofs.Accepted.{none_refused}
use Rattle.plan.proofs.RoundTrip.{records_held, length_records, read_is_checked, read_length, file_back, checked_count}
use Rattle.plan.proofs.Holding.{read_held}
use Rattle.sayings.specs.declared.Said.{Said}
use Rattle.sayings.specs.declared.Said.TheVariants.{Plan}
use Rattle.lines.specs.Text.{piece_text, more_text}
use Rattle.phrases.specs.Phrases.{cut, filled, uncommented, without_crs}
use Rattle.listing.specs.Listing.{outcome, outcome_of, lines_of, good, line_row, row_of, listed, all_said, packed, written, answer_of, buffer_of}
use Rattle.listed.specs.Listed.{record_text, listing_of, PacksBack}
use Rattle.listed.proofs.Typing.{words_typed, line_unbroken, line_first}
use Rattle.listed.proofs.Rowing.{Line, line_of}

-- a line and what stands behind it
ended : (f m s : List ℕ) → (f ++ (m ++ (10 ∷ []))) ++ s ≡ (f ++ m) ++ 10 ∷ s
ended f m s = append_assoc f (m ++ (10 ∷ [])) s ∙ ap (λ (t : List ℕ). f ++ t) (append_assoc m (10 ∷ []) s) ∙ sym (append_assoc f m (10 ∷ s))

-- the lines of the records, from line n on
rows_said : (rs : List Record) → All Line rs → (n : ℕ) → outcome n (lines_of (listing_of rs)) ≡ listed (map (λ (r : Record). Plan r) rs)
unfolding outcome listing_of cut filled uncommented without_crs row_of
rows_said [] a n = refl
rows_said (r ∷ rs) a n =
    let l = a.0 in
    let f = piece_text l.first in
    let m = more_text l.more in
    let t : lines_of (record_text r ++ listing_of rs) ≡ (f ++ m) ∷ lines_of (listing_of rs) =
    ap (λ (t : List ℕ). lines_of (t ++ listing_of rs)) l.text ∙ ap lines_of (ended f m (listing_of rs))
    ∙ line_first (f ++ m) (listing_of rs) (line_unbroken l.first l.more l.typed l.each) in
    let w : line_row (f ++ m) ≡ good (Plan r) = ap row_of (words_typed l.first l.more l.typed l.each) ∙ l.row in
    ap (outcome n) t ∙ rw (w, rows_said rs a.1 (suc n))

-- no record was refused
all_lines : (qs rs : List Record) → All Held rs → (first_bad qs (map plain rs)).number ≡ 0 → All Line rs
unfolding first_bad_with
all_lines qs [] h e = tt
all_lines qs (r ∷ rs) h e =
    let n : number_of (after qs) r 0 ≡ 0 = Entries.passed (λ (x : Refusal). x.number) _ _ _ refl e in
    let p = passed (records.kind_of r.kind) (after qs) r 0 n in
    (line_of r h.0 (records.kind_of r.kind) refl p.known p.nought, all_lines (qs ++ (r ∷ [])) rs h.1 (rw n at e))

said_bytes : (rs : List Record) → all_said (map (λ (r : Record). Plan r) rs) ≡ all_bytes rs
unfolding all_said all_bytes
said_bytes [] = refl
said_bytes (r ∷ rs) = rw (said_bytes rs)

module _ (s : List ℕ) (b : All IsByte s) (e : number_in (read_of s) ≡ 0) where
  abbrev rs : List Record
  rs = records_of (plan_in (read_of s))

  abbrev xs : List Said
  xs = map (λ (r : Record). Plan r) rs

  sound : (check_of (plan_in (read_of s))).number ≡ 0
  sound = rw (read_is_checked s e)

  says : outcome_of (listing_of rs) ≡ listed xs
  says = rows_said rs (all_lines [] rs (records_held (plan_in (read_of s)) (read_held s b)) (none_refused (plan_in (read_of s)) sound)) 1

  long : record_bytes * length xs ≡ length s
  long =
      rw (length-map, length_records (plan_in (read_of s)) (read_held s b) (checked_count (plan_in (read_of s)) sound).1)
      (read_length s e)

  module _ (out : List ℕ) (room : length s ≤ length out) where
    answers : answer_of (listing_of rs) out ≡ Ok (length s)
    answers = ap (packed (length out)) says ∙ rw (long, le-ltb (length out) (length s) room)

    writes : buffer_of (listing_of rs) out ≡ s ++ drop (length s) out
    writes = ap (written out) says ∙ rw (long, le-ltb (length out) (length s) room, said_bytes rs, file_back s b e)

pub packs_back : PacksBack
packs_back s out b e room = (answers s b e out room, writes s b e out room)
