-- Document 02, §2: with a raised limit of ordinary records old files read as before and are written as before, and a reader with
-- the old limit refuses a larger file with 3 or 6. Assumes of a written file only that its bytes are bytes.
use mathlib.Core.Path.{◌≡◌, refl, sym, ap, ◌∙◌}
use mathlib.Core.Bool.{Bool, true, false, not, true≢false}
use mathlib.Core.List.{List, [], ◌∷◌, ◌++◌, append-nil}
use mathlib.Core.Logic.{◌⊎◌, inl, inr}
use Prim.Native.Nat.{ℕ, ◌+◌, ◌/◌, ◌≤◌, ◌<◌}
use native.Mathlib.Omega.{arith}
use lib.Dec.{ltb}
use lib.ListN.{length, take, get_or, length-append}
use lib.Seq.{append_snoc, take-append_seam, get_or-append_seam}
use borrow.Author.Tests.{ltb-true, ltb-false, lt-ltb, eqb-true, eq-eqb, ne_eqb}
use Rattle.std.specs.Prelude.{if◌then◌else◌}
use Rattle.plan.specs.Limits.{most_ordinary, records_with, record_bytes}
use Rattle.plan.specs.APlan.{Kind, point, link, ordinary, wait, unknown, kind_of, is, one, how_many, blank}
use Rattle.plan.specs.PlanFile.{Entry}
use Rattle.plan.specs.ReplyNumbers.{Before, after, is_known, in_order, room_for_with, number_for_with, number_with, first_bad_with, refusal, read_with, write_with, written_with, number_in, plan_in}
use Rattle.old_files.specs.OldFiles.{old_ordinary, Larger, RefusedBefore, three, six, OldFiles}
use Rattle.records.specs.declared.Record.{Record}
use Rattle.plan.specs.declared.Refusal.{Refusal}
use Rattle.plan.proofs.Entries.{passed}
use Rattle.plan.proofs.Records.{many_snoc}
use Rattle.plan.proofs.Limited.{records_in, parts, Good, whole, found, read_good, read_whole, read_taken, read_records, read_is_checked, write_back}
use Rattle.rules.proofs.Shows.{kind_byte}

-- ---- one record, with one limit and with another

-- the rules up to 6, where 6 is kept or not, and what the others say
abbrev upto_6 : (known order room : Bool) → ℕ → ℕ
upto_6 known order room rest = if not known then 4 else (if not order then 5 else (if not room then 6 else rest))

-- a record that is accepted is accepted where there is room at least where there was
more : (a o c d : Bool) (x : ℕ) → (c ≡ true → d ≡ true) → upto_6 a o c x ≡ 0 → upto_6 a o d x ≡ 0
more true true true d x h e = rw (h refl) e
more true true false d x h e = absurd (omega arith)
more true false c d x h e = absurd (omega arith)
more false o c d x h e = absurd (omega arith)

-- one that is accepted with one room is accepted with another, or is refused with 6
fewer : (a o c d : Bool) (x : ℕ) → upto_6 a o d x ≡ 0 → ((c ≡ true) × (upto_6 a o c x ≡ 0)) ⊎ ((c ≡ false) × (d ≡ true) × (upto_6 a o c x ≡ 6))
fewer true true true true x e = inl (refl, e)
fewer true true false true x e = inr (refl, refl, refl)
fewer true true c false x e = absurd (omega arith)
fewer true false c d x e = absurd (omega arith)
fewer false o c d x e = absurd (omega arith)

module _ (m m' : ℕ) (h : m ≤ m') (b : Before) where
  room_more : (k : Kind) → room_for_with m b k ≡ true → room_for_with m' b k ≡ true
  room_more point e = e
  room_more link e = e
  room_more ordinary e = lt-ltb (b.many ordinary) m' (omega (arith, ltb-true (b.many ordinary) m e))
  room_more wait e = e
  room_more unknown e = e

  number_more : (k : Kind) (r : Record) (z : ℕ) → number_for_with m k b r z ≡ 0 → number_for_with m' k b r z ≡ 0
  unfolding number_for_with
  number_more k r z e = more (is_known k) (in_order b r) (room_for_with m b k) (room_for_with m' b k) _ (room_more k) e

module _ (m m' : ℕ) (b : Before) where
  number_fewer : (k : Kind) (r : Record) (z : ℕ) → number_for_with m' k b r z ≡ 0
      → ((room_for_with m b k ≡ true) × (number_for_with m k b r z ≡ 0)) ⊎ ((room_for_with m b k ≡ false) × (room_for_with m' b k ≡ true) × (number_for_with m k b r z ≡ 6))
  unfolding number_for_with
  number_fewer k r z e = fewer (is_known k) (in_order b r) (room_for_with m b k) (room_for_with m' b k) _ e

  -- only of ordinary records can one limit have room where another has none
  only_ordinary : (k : Kind) → room_for_with m b k ≡ false → room_for_with m' b k ≡ true → (k ≡ ordinary) × (m ≤ b.many ordinary)
  only_ordinary point e f = absurd (true≢false (sym f ∙ e))
  only_ordinary link e f = absurd (true≢false (sym f ∙ e))
  only_ordinary ordinary e f = (refl, ltb-false (b.many ordinary) m e)
  only_ordinary wait e f = absurd (true≢false (sym f ∙ e))
  only_ordinary unknown e f = absurd (true≢false (sym f ∙ e))

-- ---- all records

-- what is accepted with a limit is accepted with a higher one
all_more : (m m' : ℕ) → m ≤ m' → (rs : List Record) (es : List Entry) → (first_bad_with m rs es).number ≡ 0 → (first_bad_with m' rs es).number ≡ 0
unfolding first_bad_with
all_more m m' h rs [] e = refl
all_more m m' h rs (x ∷ es) e =
    let n : number_with m (after rs) x.what x.reserved ≡ 0 = passed (λ (x : Refusal). x.number) _ _ _ refl e in
    let n' = number_more m m' h (after rs) (kind_of x.what.kind) x.what x.reserved n in
    rw n' (all_more m m' h (rs ++ (x.what ∷ [])) es (rw n at e))

-- the first ordinary record past the limit m among the records rs gives 6
record Past (m : ℕ) (rs : List Record) (x : Refusal) : Type 0 where
  place : ℕ
  listed : place < length rs
  kind : is ordinary (get_or rs place blank) ≡ true
  before : how_many (is ordinary) (take place rs) ≡ m
  six : x ≡ refusal 6 place

-- with a record more that has room there are no more ordinary ones than the limit
still : (m : ℕ) (rs : List Record) (r : Record) → how_many (is ordinary) rs ≤ m → room_for_with m (after rs) (kind_of r.kind) ≡ true
    → how_many (is ordinary) (rs ++ (r ∷ [])) ≤ m
still m rs r h e = rw (many_snoc (is ordinary) rs r) (go (is ordinary r) refl)
  where
    go : (b : Bool) → is ordinary r ≡ b → how_many (is ordinary) rs + one b ≤ m
    go false f = omega arith
    go true f =
        let k : r.kind ≡ 3 = eqb-true r.kind 3 f in
        omega (arith, ltb-true (how_many (is ordinary) rs) m (rw k at e))

none_yet : how_many (is ordinary) [] ≡ 0
unfolding how_many
none_yet = refl

past_limit : (m m' : ℕ) (rs : List Record) (es : List Entry) → how_many (is ordinary) rs ≤ m → m < how_many (is ordinary) (rs ++ records_in es)
    → (first_bad_with m' rs es).number ≡ 0 → Past m (rs ++ records_in es) (first_bad_with m rs es)
unfolding first_bad_with
past_limit m m' rs [] h l e = absurd (omega (arith, rw (append-nil rs) at l))
past_limit m m' rs (x ∷ es) h l e =
    let n : number_with m' (after rs) x.what x.reserved ≡ 0 = passed (λ (x : Refusal). x.number) _ _ _ refl e in
    let a = append_snoc rs x.what (records_in es) in
    elim (number_fewer m m' (after rs) (kind_of x.what.kind) x.what x.reserved n) [
      | inl g ↦
          rw g.1
          (rw a at (past_limit m m' (rs ++ (x.what ∷ [])) es (still m rs x.what h g.0) (rw a l) (rw n at e)))
      | inr g ↦
          let o = only_ordinary m m' (after rs) (kind_of x.what.kind) g.0 g.1 in
          let k = kind_byte x.what.kind ordinary refl o.0 in
          rw g.2
          (record {
            place = length rs;
            listed = omega (arith, length-append rs (x.what ∷ records_in es));
            kind = rw (get_or-append_seam rs x.what (records_in es) blank) (eq-eqb x.what.kind 3 k);
            before = rw (take-append_seam rs (x.what ∷ records_in es)) (omega (arith, o.1));
            six = refl;
          })
    ]

-- ---- files

module _ (m m' : ℕ) (h : m ≤ m') (s : List ℕ) (e : number_in (read_with m s) ≡ 0) where
  -- Old files read as before: as the same plan.
  pub reads_same : read_with m' s ≡ read_with m s
  reads_same =
      let g = found m s e in
      let g' : Good m' (length s / record_bytes) (parts s) = record { some = g.some; few = omega (arith, g.few); none = all_more m m' h [] (parts s) g.none } in
      read_good m' s (whole m s e) g' ∙ sym (read_taken m s e)

  accepted_still : number_in (read_with m' s) ≡ 0
  accepted_still = ap number_in reads_same ∙ e

  same_answer : (out : List ℕ) → write_with m' (plan_in (read_with m' s)) out ≡ write_with m (plan_in (read_with m s)) out
  unfolding write_with
  same_answer out = rw (read_is_checked m' s accepted_still, read_is_checked m s e, reads_same)

  same_bytes : (out : List ℕ) → written_with m' (plan_in (read_with m' s)) out ≡ written_with m (plan_in (read_with m s)) out
  unfolding written_with
  same_bytes out = rw (same_answer out, reads_same)

module _ (m m' : ℕ) (s : List ℕ) (l : Larger m m' s) where
  -- A reader with the lower limit refuses a larger file with 3 or 6.
  refuses : RefusedBefore m m' s
  refuses = go (ltb (records_with m) (length s / record_bytes)) refl
    where
      go : (b : Bool) → ltb (records_with m) (length s / record_bytes) ≡ b → RefusedBefore m m' s
      go true t =
          let w = whole m' s l.accepted in
          let some = (found m' s l.accepted).some in
          three (ltb-true _ _ t) (rw (read_whole m _ s w, ne_eqb (length s / record_bytes) 0 (λ z. omega arith), t))
      go false t =
          let w = whole m' s l.accepted in
          let some = (found m' s l.accepted).some in
          let r = read_records m' s l.accepted in
          let more = rw r at l.more in
          let p = past_limit m m' [] (parts s) (omega (arith, none_yet)) (omega (arith, more)) (found m' s l.accepted).none in
          six p.place (ltb-false _ _ t) (rw r p.listed) (rw r p.kind) (rw r p.before)
          (rw (read_whole m _ s w, ne_eqb (length s / record_bytes) 0 (λ z. omega arith), t, p.six))

-- With a limit that is not lower, old files read and are written as before, and a reader with the lower one refuses what is larger.
pub old_files : (m m' : ℕ) → m ≤ m' → OldFiles m m'
old_files m m' h =
    record {
      read = λ s e. record { accepted = accepted_still m m' h s e; same = rw (reads_same m m' h s e) (refl, refl) };
      written = λ s b e out.
          record {
            answer = same_answer m m' h s e out;
            bytes = same_bytes m m' h s e out;
            file = λ l. (write_back m' s (accepted_still m m' h s e) b out l).1;
          };
      larger = λ s l. refuses m m' s l;
    }

-- So it was with §2.
pub raised : OldFiles old_ordinary most_ordinary
raised = old_files old_ordinary most_ordinary (omega arith)
