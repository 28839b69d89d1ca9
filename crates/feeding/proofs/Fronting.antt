-- The plan part, record by record. Assumes nothing.
use Rattle.std.proofs.Common.{◌≡◌, ℕ, suc, ◌+◌, ◌*◌, ◌/◌, ◌%◌, ◌^◌, ◌<◌, ◌≤◌, Bool, true, false, leb, List, [], ◌∷◌, ◌++◌, length, take, drop, sym, refl, ap, ◌∙◌, add-one, arith, leb-true}
use lib.Seq.{paste, length-paste}
use Rattle.std.specs.Prelude.{if◌then◌else◌}
use Rattle.plan.specs.Limits.{record_bytes}
use Rattle.board.specs.Streams.{events_in}
use Rattle.board.proofs.Theorems.Each.{clash}
use Rattle.stream.specs.Buffers.{appended}
use Rattle.stream.specs.Sheets.{is_mark}
use Rattle.printed.specs.Texts.{until_mark}
use Rattle.printed.proofs.Records.{length_events, events_more, until_more}
use Rattle.feeding.specs.Parts.{Fronted, none, more, PlanKept}
use Rattle.feeding.specs.declared.front.Part.{Part}

-- bytes put behind others leave a room as long as it was
pub length_appended : (room : List ℕ) (n : ℕ) (s : List ℕ) → length (appended room n s) ≡ length room
length_appended room n s = go (leb (n + length s) (length room)) refl
  where
    go : (t : Bool) → leb (n + length s) (length room) ≡ t → length (if t then paste room n s (length s) else room) ≡ length room
    go true e = length-paste room n s (length s) (leb-true (n + length s) (length room) e) (omega arith)
    go false e = refl

pub record Kept (front₀ : List ℕ) (n₀ : ℕ) (input : List ℕ) (n : ℕ) (front : List ℕ) (now i : ℕ) : Type 0 where
  pub many : n ≡ length input / record_bytes
  pub small : length input < 2 ^ 63
  pub upto : i ≤ n
  pub number : now ≡ (n₀ + record_bytes * i) % 2 ^ 64
  pub unmarked : until_mark (events_in i input) ≡ i
  pub kept : Fronted front₀ n₀ (events_in i input) front
  pub long : length front ≡ length front₀

module _ (front₀ : List ℕ) (n₀ : ℕ) (input : List ℕ) (n : ℕ) where
  pub kept_none : n ≡ length input / record_bytes → length input < 2 ^ 63 → n₀ < 2 ^ 64 → Kept front₀ n₀ input n front₀ n₀ 0
  unfolding events_in until_mark
  kept_none e h f = record { many = e; small = h; upto = omega arith; number = omega arith; unmarked = refl; kept = none; long = refl }

  -- a record that is not the mark
  pub kept_more : {front : List ℕ} {now i : ℕ} {s front' : List ℕ} {now' : ℕ} → Kept front₀ n₀ input n front now i → i < n → s ≡ take record_bytes (drop (record_bytes * i) input)
      → {t : Bool} → t ≡ is_mark s → t ≡ false → front' ≡ appended front now s → now' ≡ (now + record_bytes) % 2 ^ 64 → Kept front₀ n₀ input n front' now' (i + 1)
  kept_more {front} {now} {i} {s} {front'} {now'} k h e {t} m q₀ f g =
      let r : events_in (i + 1) input ≡ events_in i input ++ (s ∷ []) = ap (λ (x : ℕ). events_in x input) (add-one i) ∙ events_more i input ∙ ap (λ (x : List ℕ). events_in i input ++ (x ∷ [])) (sym e) in
      let l = length_events i input in
      let q : now ≡ (n₀ + record_bytes * length (events_in i input)) % 2 ^ 64 = rw l k.number in
      record {
        many = k.many;
        small = k.small;
        upto = omega arith;
        number = omega (arith, k.number);
        unmarked = rw r (until_more (events_in i input) s (k.unmarked ∙ sym l) (sym m ∙ q₀) ∙ rw l (sym (add-one i)));
        kept = rw (r, f, q) (more s k.kept);
        long = ap length f ∙ length_appended front now s ∙ k.long;
      }

  -- the mark
  pub kept_mark : {front : List ℕ} {now i : ℕ} {s : List ℕ} {u : ℕ} → Kept front₀ n₀ input n front now i → i < n → s ≡ take record_bytes (drop (record_bytes * i) input)
      → {t : Bool} → t ≡ is_mark s → t ≡ true → u ≡ record_bytes * i + record_bytes → PlanKept front₀ n₀ input front (record { length = now; used = u; marked = true })
  kept_mark {front} {now} {i} {s} {u} k h e {t} m so f =
      record {
        count = i;
        within = omega (arith, k.many);
        unmarked = k.unmarked;
        kept = k.kept;
        long = k.number;
        marked = λ z. (omega (arith, k.many), ap is_mark (sym e) ∙ sym m ∙ so, f);
        all = λ z. clash z;
      }

  -- none
  pub kept_all : {front : List ℕ} {now i u : ℕ} → Kept front₀ n₀ input n front now i → n ≤ i → u ≡ record_bytes * i → PlanKept front₀ n₀ input front (record { length = now; used = u; marked = false })
  kept_all {front} {now} {i} {u} k h f =
      record {
        count = i;
        within = omega (arith, k.many, k.upto);
        unmarked = k.unmarked;
        kept = k.kept;
        long = k.number;
        marked = λ z. clash (sym z);
        all = λ z. (omega (arith, k.many, k.upto), f);
      }
