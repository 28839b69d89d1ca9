-- The turns of the loop are a run: whatever a read brings, where the machine stands is what the calls so far make of it. Assumes nothing.
use mathlib.Core.Path.{◌≡◌, refl, sym, ap, ◌∙◌, subst}
use mathlib.Core.Bool.{Bool, true, false}
use mathlib.Core.List.{List, [], ◌++◌, append_assoc, append-nil}
use Prim.Native.Nat.{ℕ, zero, suc, ◌+◌, ◌-◌, ◌*◌, ◌<◌, ◌≤◌}
use native.Mathlib.Omega.{arith}
use lib.ListN.{length, take, drop}
use lib.Seq.{take-add, take-take, take-length, length-take-le}
use Rattle.plan.specs.ReplyNumbers.{plan_in}
use Rattle.plan.specs.Limits.{most_records, record_bytes}
use Rattle.board.proofs.Theorems.Each.{clash}
use Rattle.lines.specs.Inside.{text_in}
use Rattle.text.specs.Lines.{end_line}
use Rattle.stream.specs.Sheets.{read_front}
use Rattle.saying.specs.Makes.{Made}
use Rattle.feeding.specs.Parts.{PlanBegun, tail_text, LastPut}
use Rattle.feeding.specs.declared.begun.Begun.{Begun}
use Rattle.machine.specs.Feeds.{Feeds, plan_on, plan_read, events, refused, Finishes, rest_refused, rest_read, events_over_lem, refused_over}
use Rattle.machine.specs.declared.Stage.{Stage}
use Rattle.machine.proofs.Stages.{feeds_within}
use Rattle.fed.specs.Runs as runs
use Rattle.fed.specs.Runs.{PlanPieces, PlanPart, EventPieces, Prints}
use Rattle.fed.specs.Loops.{ReadOn, CarriedOn, Turns, none, turn, Loops, over, SheetLoops, OffersLoops}
use Rattle.fed.proofs.Whole.{sheet_prints}
use Rattle.fed.proofs.WholeFull.{offers_prints}

-- ---- where the machine stands

-- these bytes were used, and this text was written
data Stands (full : Bool) (front₀ : List ℕ) (s : Stage) (front rows into out ends kept bytes text : List ℕ) : Type 0 where
  in_plan : s.begun ≡ false → PlanPieces front₀ s.part bytes front → text ≡ [] → Stands full front₀ s front rows into out ends kept bytes text
  in_events : {rows₀ into₀ out₀ ends₀ kept₀ lines₀ kept₁ lines₁ part es told : List ℕ} {b : Begun} → s.begun ≡ true → s.number ≡ 0 → PlanPart front₀ true s.part part front
      → PlanBegun full s.part front rows₀ into₀ out₀ ends₀ kept₀ lines₀ rows into out ends kept₁ lines₁ b → b.number ≡ 0 → s.links ≡ b.links → s.ponds ≡ b.ponds
      → EventPieces full b.links b.ponds rows into out ends kept₁ s.events es kept told → bytes ≡ part ++ es → text ≡ take b.end lines₁ ++ told
      → Stands full front₀ s front rows into out ends kept bytes text
  in_vain : {rows₀ into₀ out₀ ends₀ kept₀ lines₀ rows₁ into₁ out₁ ends₁ kept₁ lines₁ part : List ℕ} {b : Begun} (more : List ℕ) → s.begun ≡ true → (s.number ≡ 0 → ⊥) → PlanPart front₀ true s.part part front
      → PlanBegun full s.part front rows₀ into₀ out₀ ends₀ kept₀ lines₀ rows₁ into₁ out₁ ends₁ kept₁ lines₁ b → (b.number ≡ 0 → ⊥) → bytes ≡ part ++ more → text ≡ take b.end lines₁
      → Stands full front₀ s front rows into out ends kept bytes text

-- nothing is written
nothing_more_lem : (text lines : List ℕ) → text ++ take 0 lines ≡ text
nothing_more_lem text lines = append-nil text

behind : {a : List ℕ} (b c d : List ℕ) → a ≡ b ++ c → a ++ d ≡ b ++ (c ++ d)
behind b c d e = ap (λ (x : List ℕ). x ++ d) e ∙ append_assoc b c d

-- a piece more
stands_fed : {full : Bool} {front₀ : List ℕ} {s s' : Stage} {front rows into out ends kept : List ℕ} {bytes text : List ℕ} (input : List ℕ) {lines₀ front' rows' into' out' ends' kept' lines : List ℕ}
    → Stands full front₀ s front rows into out ends kept bytes text → Feeds full s front rows into out ends kept input lines₀ front' rows' into' out' ends' kept' lines s'
    → Stands full front₀ s' front' rows' into' out' ends' kept' (bytes ++ take s'.used input) (text ++ take s'.end lines)
stands_fed {text = text} input {lines = lines} (in_plan o p e) (plan_on o' k m) = in_plan refl (runs.piece p k m) (nothing_more_lem text lines ∙ e)
stands_fed {full} {front₀} {bytes = bytes} {text} input (in_plan o p e) (plan_read {front} {rows} {into} {out} {ends} {kept} {lines} {part} {b} o' k m g) = go b.number refl
  where
    told : text ++ take b.end lines ≡ take b.end lines
    told = ap (λ (x : List ℕ). x ++ take b.end lines) e

    go : (n : ℕ) → b.number ≡ n → Stands full front₀ (record { begun = true; number = b.number; part = part.length; events = 0; links = b.links; ponds = b.ponds; used = part.used; end = b.end }) front rows into out ends kept (bytes ++ take part.used input) (text ++ take b.end lines)
    go zero z = in_events refl z (runs.to_mark p k m) g z refl refl runs.none (sym (append-nil (bytes ++ take part.used input))) (told ∙ sym (append-nil (take b.end lines)))
    go (suc n) z = in_vain [] refl (λ h. omega (arith, z, h)) (runs.to_mark p k m) g (λ h. omega (arith, z, h)) (sym (append-nil (bytes ++ take part.used input))) told
stands_fed input (in_plan o p e) (events o' z x) = clash (sym o' ∙ o)
stands_fed input (in_plan o p e) (refused o' z) = clash (sym o' ∙ o)
stands_fed input (in_events o z p g q l d r e f) (plan_on o' k m) = clash (sym o ∙ o')
stands_fed input (in_events o z p g q l d r e f) (plan_read o' k m h) = clash (sym o ∙ o')
stands_fed input {lines = lines} (in_events {lines₁ = lines₁} {part} {es} {told} {b} o z p g q l d r e f) (events {said = said} o' z' x) =
    in_events refl refl p g q l d (runs.piece r (rw (l, d) at x)) (behind part es (take said.used input) e) (behind (take b.end lines₁) told (take said.end lines) f)
stands_fed input (in_events o z p g q l d r e f) (refused o' z') = absurd (z' z)
stands_fed input (in_vain more o z p g q e f) (plan_on o' k m) = clash (sym o ∙ o')
stands_fed input (in_vain more o z p g q e f) (plan_read o' k m h) = clash (sym o ∙ o')
stands_fed input (in_vain more o z p g q e f) (events o' z' x) = absurd (z z')
stands_fed {text = text} input {lines = lines} (in_vain {part = part} more o z p g q e f) (refused o' z') = in_vain (more ++ take (length input) input) refl z p g q (behind part more (take (length input) input) e) (nothing_more_lem text lines ∙ f)

-- ---- the turns of the loop

record Reached (full : Bool) (front₀ : List ℕ) (s : Stage) (front rows into out ends kept chunk : List ℕ) (at : ℕ) (came text : List ℕ) : Type 0 where
  bytes : List ℕ
  stands : Stands full front₀ s front rows into out ends kept bytes text
  left : came ≡ bytes ++ take at chunk

-- what was carried, with what a read brings behind it, is what is fed; what is not used of it is carried
carried_read : (bytes came chunk chunk₁ chunk₂ : List ℕ) (at n used at' : ℕ) → came ≡ bytes ++ take at chunk → ReadOn chunk at chunk₁ n → used ≤ n → CarriedOn chunk₁ used n chunk₂ at'
    → came ++ take (n - at) (drop at chunk₁) ≡ (bytes ++ take used (take n chunk₁)) ++ take at' chunk₂
carried_read bytes came chunk chunk₁ chunk₂ at n used at' e r u c =
    let a : at + (n - at) ≡ n = omega (arith, r.more) in
    let b : used + (n - used) ≡ n = omega arith in
    let fed : take at chunk ++ take (n - at) (drop at chunk₁) ≡ take n chunk₁ =
    ap (λ (x : List ℕ). x ++ take (n - at) (drop at chunk₁)) (sym r.front) ∙ sym (take-add at (n - at) chunk₁) ∙ ap (λ (k : ℕ). take k chunk₁) a in
    let back : take at' chunk₂ ≡ take (n - used) (drop used chunk₁) = c.bytes ∙ ap (λ (k : ℕ). take k (drop used chunk₁)) c.many in
    let cut : take n chunk₁ ≡ take used (take n chunk₁) ++ take at' chunk₂ =
    ap (λ (k : ℕ). take k chunk₁) (sym b) ∙ take-add used (n - used) chunk₁ ∙ (λ i. sym (take-take used n chunk₁ u) i ++ sym back i) in
    behind bytes (take at chunk) (take (n - at) (drop at chunk₁)) e ∙ ap (λ (x : List ℕ). bytes ++ x) (fed ∙ cut) ∙ sym (append_assoc bytes (take used (take n chunk₁)) (take at' chunk₂))

reached : {full : Bool} {front₀ : List ℕ} {s : Stage} {front rows into out ends kept chunk : List ℕ} {at : ℕ} {came text : List ℕ} → Turns full front₀ s front rows into out ends kept chunk at came text
    → Reached full front₀ s front rows into out ends kept chunk at came text
reached (none o z) = record { bytes = []; stands = in_plan o (rw z runs.none) refl; left = refl }
reached (turn {s' = s'} {chunk = chunk} {chunk₁} {chunk₂} {came} {at = at} {n} {at'} t r f c) =
    let h = reached t in
    let u : s'.used ≤ n = omega (arith, feeds_within (take n chunk₁) f, length-take-le n chunk₁ r.room) in
    record {
      bytes = h.bytes ++ take s'.used (take n chunk₁);
      stands = stands_fed (take n chunk₁) h.stands f;
      left = carried_read h.bytes came chunk chunk₁ chunk₂ at n s'.used at' h.left r u c;
    }

-- ---- the end

prints_is : {full : Bool} {b b' t t' : List ℕ} → b ≡ b' → t ≡ t' → Prints full b t → Prints full b' t'
prints_is {full} {b} {b'} {t} {t'} e f p = subst (λ (x : List ℕ). Prints full b' x) f (subst (λ (x : List ℕ). Prints full x t) e p)

-- a text in a room of its own
alone : (text : List ℕ) → Made text 0 text text (length text)
alone text = record { place = omega arith; front = take-length text; rest = refl; long = refl }

-- what the last lines are, in a room of their own
last_alone : {n : ℕ} {front kept lines₀ : List ℕ} {left at : ℕ} {lines : List ℕ} {e : ℕ} (l : LastPut n front kept left lines₀ at lines e)
    → LastPut n front kept left (tail_text left ++ text_in (end_line (plan_in (read_front n front)) l.board)) 0 (tail_text left ++ text_in (end_line (plan_in (read_front n front)) l.board)) (length (tail_text left ++ text_in (end_line (plan_in (read_front n front)) l.board)))
last_alone {n} {front} {left = left} l = record { board = l.board; holds = l.holds; made = alone (tail_text left ++ text_in (end_line (plan_in (read_front n front)) l.board)) }

finished : {full : Bool} {front₀ : List ℕ} {s : Stage} {front rows into out ends kept bytes text : List ℕ} (rest : List ℕ) {lines₀ lines : List ℕ} {end : ℕ} → record_bytes * (most_records + 2) ≤ length front₀ → length rest < record_bytes
    → Stands full front₀ s front rows into out ends kept bytes text → Finishes full s front rows into out ends kept rest lines₀ lines end → Prints full (bytes ++ rest) (text ++ take end lines)
finished {bytes = bytes} rest {lines = lines} {end = end} room few (in_plan o p e) (rest_refused o' g bad) =
    prints_is (append-nil (bytes ++ rest)) (sym (ap (λ (x : List ℕ). x ++ take end lines) e)) (runs.refused [] room (runs.to_end rest p few) (λ h. refl) g bad)
finished {bytes = bytes} rest {lines = lines} {end = end} room few (in_plan o p e) (rest_read {lines₁ = lines₁} {b = b} o' g z l) =
    let last = l.made.front in
    prints_is (append-nil (bytes ++ rest)) (ap (λ (x : List ℕ). take b.end lines₁ ++ x) (take-length _) ∙ sym last ∙ sym (ap (λ (x : List ℕ). x ++ take end lines) e))
    (runs.read [] room (runs.to_end rest p few) (λ h. refl) g z runs.none (omega arith) (last_alone l))
finished rest room few (in_plan o p e) (events_over_lem o' z l) = clash (sym o' ∙ o)
finished rest room few (in_plan o p e) (refused_over o' z) = clash (sym o' ∙ o)
finished rest room few (in_events o z p g q l d r e f) (rest_refused o' h bad) = clash (sym o ∙ o')
finished rest room few (in_events o z p g q l d r e f) (rest_read o' h z' k) = clash (sym o ∙ o')
finished rest {lines = lines} {end = end} room few (in_events {lines₁ = lines₁} {part} {es} {told} {b} o z p g q l d r e f) (events_over_lem o' z' k) =
    prints_is (sym (behind part es rest e)) (sym (behind (take b.end lines₁) told (take end lines) f)) (runs.read rest room p (λ h. clash h) g q r few k)
finished rest room few (in_events o z p g q l d r e f) (refused_over o' z') = absurd (z' z)
finished rest room few (in_vain more o z p g q e f) (rest_refused o' h bad) = clash (sym o ∙ o')
finished rest room few (in_vain more o z p g q e f) (rest_read o' h z' k) = clash (sym o ∙ o')
finished rest room few (in_vain more o z p g q e f) (events_over_lem o' z' k) = absurd (z z')
finished {text = text} rest {lines = lines} room few (in_vain {part = part} more o z p g q e f) (refused_over o' z') =
    prints_is (sym (behind part more rest e)) (sym (nothing_more_lem text lines ∙ f)) (runs.refused (more ++ rest) room p (λ h. clash h) g q)

-- THE LOOP IS A RUN
pub loops_print : (full : Bool) (bytes text : List ℕ) → Loops full bytes text → Prints full bytes text
loops_print full bytes text (over {chunk = chunk} {chunk₁} {at = at} room t r few f) =
    let h = reached t in
    let same : h.bytes ++ take at chunk₁ ≡ bytes = ap (λ (x : List ℕ). h.bytes ++ x) r.front ∙ sym h.left in
    prints_is same refl (finished (take at chunk₁) room (omega (arith, length-take-le at chunk₁ r.room)) h.stands f)

pub sheet_loops : SheetLoops
sheet_loops bytes text h l = sheet_prints bytes text h (loops_print false bytes text l)

pub offers_loops : OffersLoops
offers_loops bytes text bs h l = offers_prints bytes text bs h (loops_print true bytes text l)
