-- However the input is cut into pieces, what the program that prints every reply writes is the definition's text. Assumes nothing.
use mathlib.Core.Path.{◌≡◌, refl, sym, ap, ◌∙◌}
use mathlib.Core.Bool.{Bool, true, false}
use mathlib.Core.List.{List, [], ◌++◌, append_assoc}
use Prim.Native.Nat.{ℕ, ◌+◌, ◌*◌, ◌^◌, ◌≤◌, ◌<◌}
use native.Mathlib.Omega.{arith}
use lib.Dec.{ltb}
use lib.ListN.{length, take, length-append}
use Rattle.records.proofs.Entries.{all_take}
use Rattle.std.specs.Prelude.{if◌then◌else◌}
use Rattle.plan.specs.Limits.{most_records, record_bytes}
use Rattle.plan.specs.Held.{All, IsByte, HeldPlan}
use Rattle.plan.specs.ReplyNumbers.{read_of, Reading, number_in, plan_in}
use Rattle.plan.proofs.Holding.{read_held}
use Rattle.board.specs.Boards.{fresh}
use Rattle.vee.specs.TestOf.{test_of}
use Rattle.lines.specs.Inside.{text_in}
use Rattle.text.specs.Lines.{test_line}
use Rattle.stream.specs.Sheets.{read_front}
use Rattle.printed.specs.Texts.{whole_in, until_mark, plan_part, event_part, texts_of, board_lines, answer_lines, end_lines, offers_of, read_lines, offers_text}
use Rattle.saying.proofs.Listing.{texts_more}
use Rattle.feeding.specs.Parts.{PlanBegun, LastPut}
use Rattle.feeding.specs.declared.begun.Begun.{Begun}
use Rattle.fed.specs.Runs.{refused, read, PlanPart, EventPieces}
use Rattle.fed.specs.Whole.{OffersPrints}
use Rattle.fed.proofs.Joining.{whole_rest}
use Rattle.fed.proofs.Fronts.{part_reads}
use Rattle.fed.proofs.Days as days
use Rattle.fed.proofs.Days.{written}
use Rattle.fed.proofs.Lists.{board_lines_lem}
use Rattle.fed.proofs.Answers.{no_answers, answers_behind, one_answer}
use Rattle.fed.proofs.Whole.{refused_lines, read_lines_lem, begun_agrees, end_text}

part_bytes : (bytes : List ℕ) → All IsByte bytes → All IsByte (plan_part bytes)
part_bytes bytes h = go (ltb (until_mark (whole_in bytes)) (length (whole_in bytes)))
  where
    go : (t : Bool) → All IsByte (if t then take (record_bytes * until_mark (whole_in bytes)) bytes else bytes)
    go true = all_take IsByte (record_bytes * until_mark (whole_in bytes)) bytes h
    go false = h

offers_refused : (front₀ front bytes rows₀ into₀ out₀ ends₀ kept₀ lines₀ rows into out ends kept lines : List ℕ) (t : Bool) (n : ℕ) (b : Begun) (more : List ℕ)
    → record_bytes * (most_records + 2) ≤ length front₀ → PlanPart front₀ t n bytes front → (t ≡ false → more ≡ [])
    → PlanBegun true n front rows₀ into₀ out₀ ends₀ kept₀ lines₀ rows into out ends kept lines b → (b.number ≡ 0 → ⊥) → length bytes < 2 ^ 64
    → take b.end lines ≡ offers_text (bytes ++ more)
offers_refused front₀ front bytes rows₀ into₀ out₀ ends₀ kept₀ lines₀ rows into out ends kept lines t n b more room part q g bad h =
    let two = part_reads front₀ t n bytes front part room h more q in
    let worse : number_in (read_front n front) ≡ 0 → ⊥ = λ z. bad (g.number ∙ z) in
    written lines₀ _ lines b.end (g.refused bad) ∙ sym (refused_lines offers_of (read_front n front) (event_part (bytes ++ more)) worse)
    ∙ ap (λ (x : Reading). texts_of (read_lines offers_of x (event_part (bytes ++ more)))) two.0

offers_read : (front₀ front bytes rows₀ into₀ out₀ ends₀ kept₀ lines₀ rows into out ends kept lines events kept' text lines₁ lines₂ : List ℕ) (t : Bool) (n k e : ℕ) (b : Begun) (rest : List ℕ)
    → record_bytes * (most_records + 2) ≤ length front₀ → PlanPart front₀ t n bytes front → (t ≡ false → events ++ rest ≡ [])
    → PlanBegun true n front rows₀ into₀ out₀ ends₀ kept₀ lines₀ rows into out ends kept lines b → b.number ≡ 0
    → EventPieces true b.links b.ponds rows into out ends kept k events kept' text → length rest < record_bytes
    → LastPut n front kept' (length rest) lines₁ 0 lines₂ e → length bytes < 2 ^ 64 → length events < 2 ^ 64 → All IsByte (bytes ++ (events ++ rest))
    → take b.end lines ++ (text ++ take e lines₂) ≡ offers_text (bytes ++ (events ++ rest))
unfolding texts_of
offers_read front₀ front bytes rows₀ into₀ out₀ ends₀ kept₀ lines₀ rows into out ends kept lines events kept' text lines₁ lines₂ t n k e b rest room part q g z run few last h f bs =
    let two = part_reads front₀ t n bytes front part room h (events ++ rest) q in
    let p = plan_in (read_front n front) in
    let a = begun_agrees true n front rows₀ into₀ out₀ ends₀ kept₀ lines₀ rows into out ends kept lines b g z (plan_part (bytes ++ (events ++ rest))) two.0 in
    let back : read_of (plan_part (bytes ++ (events ++ rest))) ≡ read_front n front = sym two.0 in
    let held : HeldPlan p = rw back at (read_held (plan_part (bytes ++ (events ++ rest))) (part_bytes (bytes ++ (events ++ rest)) bs)) in
    let s = days.pieces_hold true p b.links b.ponds rows into out ends (answer_lines p) (λ x y. no_answers p x y) (answers_behind p) (one_answer p b.links b.ponds rows into out ends held g.ponds) kept a k events kept' text run f in
    let w = (g.read z).first in
    let first : take b.end lines ≡ text_in (test_line (test_of p)) ++ texts_of (board_lines p fresh) =
    written lines₀ _ lines b.end (g.read z).made ∙ w.2 ∙ ap (λ (x : List ℕ). text_in (test_line (test_of p)) ++ x) (board_lines_lem p b.links b.ponds rows into out ends fresh kept a held g.ponds w.0 w.1) in
    let v = whole_rest s.count events rest s.whole few in
    let end = end_text p b.links rows into out ends events kept' s.count rest s.whole few s.agrees n front lines₁ lines₂ e refl last in
    let ok : number_in (read_front n front) ≡ 0 = sym g.number ∙ z in
    let behind : events ++ rest ≡ event_part (bytes ++ (events ++ rest)) = sym two.1 in
    let tail : text ++ take e lines₂ ≡ texts_of (answer_lines p 0 fresh (whole_in (events ++ rest)) ++ end_lines p (events ++ rest)) =
    (λ i. s.told i ++ end i) ∙ sym (texts_more (answer_lines p 0 fresh (whole_in events)) (end_lines p (events ++ rest))) ∙ ap (λ (x : List (List ℕ)). texts_of (answer_lines p 0 fresh x ++ end_lines p (events ++ rest))) (sym v) in
    let all : (text_in (test_line (test_of p)) ++ texts_of (board_lines p fresh)) ++ texts_of (answer_lines p 0 fresh (whole_in (events ++ rest)) ++ end_lines p (events ++ rest)) ≡ texts_of (offers_of p (events ++ rest)) =
    append_assoc (text_in (test_line (test_of p))) (texts_of (board_lines p fresh)) (texts_of (answer_lines p 0 fresh (whole_in (events ++ rest)) ++ end_lines p (events ++ rest)))
    ∙ ap (λ (x : List ℕ). text_in (test_line (test_of p)) ++ x) (sym (texts_more (board_lines p fresh) (answer_lines p 0 fresh (whole_in (events ++ rest)) ++ end_lines p (events ++ rest)))) in
    (λ i. first i ++ tail i) ∙ all ∙ ap texts_of (sym (read_lines_lem offers_of (read_front n front) (plan_part (bytes ++ (events ++ rest))) (events ++ rest) two.0 ok)) ∙ (λ i. texts_of (read_lines offers_of (two.0 i) (behind i)))

-- WHAT IS PRINTED IS THE DEFINITION'S TEXT
pub offers_prints : OffersPrints
offers_prints bytes text bs h (refused {front₀} {front} {bytes = bytes₁} {rows₀} {into₀} {out₀} {ends₀} {kept₀} {lines₀} {rows} {into} {out} {ends} {kept} {lines} {t} {n} {b} more room part q g bad) =
    offers_refused front₀ front bytes₁ rows₀ into₀ out₀ ends₀ kept₀ lines₀ rows into out ends kept lines t n b more room part q g bad (omega (arith, length-append bytes₁ more))
offers_prints bytes text bs h (read {front₀} {front} {bytes = bytes₁} {rows₀} {into₀} {out₀} {ends₀} {kept₀} {lines₀} {rows} {into} {out} {ends} {kept} {lines} {events} {kept'} {text = text₁} {lines₁} {lines₂} {t} {n} {k} {e} {b} rest room part q g z run few last) =
    let l1 = length-append bytes₁ (events ++ rest) in
    let l2 = length-append events rest in
    offers_read front₀ front bytes₁ rows₀ into₀ out₀ ends₀ kept₀ lines₀ rows into out ends kept lines events kept' text₁ lines₁ lines₂ t n k e b rest room part q g z run few last (omega arith) (omega arith) bs
