-- However the input is cut into pieces, what is written is the definition's text. Assumes nothing.
use mathlib.Core.Path.{◌≡◌, refl, sym, ap, ◌∙◌}
use mathlib.Core.Bool.{Bool, true, false, not}
use mathlib.Core.List.{List, [], ◌∷◌, ◌++◌, append-nil}
use Prim.Native.Nat.{ℕ, ◌+◌, ◌*◌, ◌%◌, ◌^◌, ◌≤◌, ◌<◌}
use native.Mathlib.Omega.{arith}
use lib.Dec.{eqb}
use lib.ListN.{length, take, length-append}
use Rattle.std.specs.Prelude.{Ok, Err, if◌then◌else◌}
use Rattle.plan.specs.Limits.{most_ordinary, most_records, record_bytes}
use Rattle.plan.specs.ReplyNumbers.{read_of, check_of, Reading, number_in, place_in, plan_in}
use Rattle.plan.specs.declared.Plan.{Plan}
use Rattle.plan.specs.declared.Refusal.{Refusal}
use Rattle.plan.proofs.Limited.{read_taken}
use Rattle.plan.proofs.RoundTrip.{read_is_checked}
use Rattle.links.specs.declared.Links.{Links}
use Rattle.board.specs.Boards.{fresh}
use Rattle.board.specs.Streams.{board_after_all}
use Rattle.engine.specs.Agreement.{Agrees}
use Rattle.engine.proofs.Agreeing.{begins_agrees, board_agrees}
use Rattle.lines.specs.Inside.{text_in}
use Rattle.lines.specs.declared.Line.{Line}
use Rattle.text.specs.Lines.{plan_line, tail_line, end_line}
use Rattle.stream.specs.Sheets.{read_front}
use Rattle.printed.specs.Texts.{whole_in, plan_part, event_part, texts_of, event_lines, end_lines, sheet_of, read_lines, sheet_text}
use Rattle.saying.proofs.Listing.{texts_more, one_text}
use Rattle.feeding.specs.Parts.{PlanBegun, tail_text, LastPut}
use Rattle.feeding.specs.declared.begun.Begun.{Begun}
use Rattle.fed.specs.Runs.{refused, read, PlanPart, EventPieces}
use Rattle.fed.specs.Whole.{SheetPrints}
use Rattle.fed.proofs.Joining.{whole_rest}
use Rattle.fed.proofs.Fronts.{part_reads}
use Rattle.fed.proofs.Days as days
use Rattle.fed.proofs.Days.{written, no_lines, lines_behind, one_event}

-- a refused plan
pub refused_lines : (lines : Plan → List ℕ → List Line) (r : Reading) (events : List ℕ) → (number_in r ≡ 0 → ⊥) → texts_of (read_lines lines r events) ≡ text_in (plan_line (number_in r) (place_in r))
refused_lines lines (Ok p) events h = absurd (h refl)
refused_lines lines (Err x) events h = one_text (plan_line x.number x.place)

-- a plan that is read
pub read_lines_lem : (lines : Plan → List ℕ → List Line) (r : Reading) (s events : List ℕ) → r ≡ read_of s → number_in r ≡ 0 → read_lines lines r events ≡ lines (plan_in r) events
read_lines_lem lines r s events e h = rw (e ∙ read_taken most_ordinary s (sym (ap number_in e) ∙ h))

-- the rooms of a plan that is read agree with the fresh board
pub begun_agrees : (full : Bool) (n : ℕ) (front rows₀ into₀ out₀ ends₀ kept₀ lines₀ rows into out ends kept lines : List ℕ) (b : Begun)
    → PlanBegun full n front rows₀ into₀ out₀ ends₀ kept₀ lines₀ rows into out ends kept lines b → b.number ≡ 0 → (bytes : List ℕ) → read_front n front ≡ read_of bytes
    → Agrees (plan_in (read_front n front)) b.links rows into out ends fresh kept
begun_agrees full n front rows₀ into₀ out₀ ends₀ kept₀ lines₀ rows into out ends kept lines b g z bytes e =
    let ok : number_in (read_of bytes) ≡ 0 = ap number_in (sym e) ∙ sym g.number ∙ z in
    let c : (check_of (plan_in (read_front n front))).number ≡ 0 = ap (λ (x : Reading). (check_of (plan_in x)).number) e ∙ ap (λ (x : Refusal). x.number) (read_is_checked bytes ok) in
    let a = begins_agrees (plan_in (read_front n front)) g.started rows₀ into₀ out₀ ends₀ kept₀ rows into out ends kept g.begins (g.begins.number ∙ c) in
    rw g.links a

-- tail, and a last line
tail_lines : (t : Bool) (last : Line) → (if t then [] else text_in tail_line) ++ text_in last ≡ texts_of ((if not t then tail_line ∷ [] else []) ++ (last ∷ []))
unfolding texts_of
tail_lines true last = sym (append-nil (text_in last))
tail_lines false last = ap (λ (x : List ℕ). text_in tail_line ++ x) (sym (append-nil (text_in last)))

-- the end, from what is kept
pub end_text : (p : Plan) (l : Links) (rows into out ends events kept : List ℕ) (c : ℕ) (rest : List ℕ) → length events ≡ record_bytes * c → length rest < record_bytes
    → Agrees p l rows into out ends (board_after_all p fresh (whole_in events)) kept → (n : ℕ) (front lines₀ lines : List ℕ) (e : ℕ) → plan_in (read_front n front) ≡ p → LastPut n front kept (length rest) lines₀ 0 lines e
    → take e lines ≡ texts_of (end_lines p (events ++ rest))
unfolding texts_of
end_text p l rows into out ends events kept c rest w h a n front lines₀ lines e q x =
    let b : x.board ≡ board_after_all p fresh (whole_in events) = board_agrees p l rows into out ends (board_after_all p fresh (whole_in events)) kept a x.board x.holds in
    let v = whole_rest c events rest w h in
    let m : length (events ++ rest) % record_bytes ≡ length rest = omega (arith, length-append events rest) in
    let last : end_line (plan_in (read_front n front)) x.board ≡ end_line p (board_after_all p fresh (whole_in (events ++ rest))) = (λ i. end_line (q i) (b i)) ∙ ap (λ (y : List (List ℕ)). end_line p (board_after_all p fresh y)) (sym v) in
    written lines₀ _ lines e x.made ∙ ap (λ (y : Line). tail_text (length rest) ++ text_in y) last ∙ rw m (tail_lines (eqb (length rest) 0) (end_line p (board_after_all p fresh (whole_in (events ++ rest)))))

-- ---- the whole run

sheet_refused : (front₀ front bytes rows₀ into₀ out₀ ends₀ kept₀ lines₀ rows into out ends kept lines : List ℕ) (t : Bool) (n : ℕ) (b : Begun) (more : List ℕ)
    → record_bytes * (most_records + 2) ≤ length front₀ → PlanPart front₀ t n bytes front → (t ≡ false → more ≡ [])
    → PlanBegun false n front rows₀ into₀ out₀ ends₀ kept₀ lines₀ rows into out ends kept lines b → (b.number ≡ 0 → ⊥) → length bytes < 2 ^ 64
    → take b.end lines ≡ sheet_text (bytes ++ more)
sheet_refused front₀ front bytes rows₀ into₀ out₀ ends₀ kept₀ lines₀ rows into out ends kept lines t n b more room part q g bad h =
    let two = part_reads front₀ t n bytes front part room h more q in
    let worse : number_in (read_front n front) ≡ 0 → ⊥ = λ z. bad (g.number ∙ z) in
    written lines₀ _ lines b.end (g.refused bad) ∙ sym (refused_lines sheet_of (read_front n front) (event_part (bytes ++ more)) worse)
    ∙ ap (λ (x : Reading). texts_of (read_lines sheet_of x (event_part (bytes ++ more)))) two.0

sheet_read : (front₀ front bytes rows₀ into₀ out₀ ends₀ kept₀ lines₀ rows into out ends kept lines events kept' text lines₁ lines₂ : List ℕ) (t : Bool) (n k e : ℕ) (b : Begun) (rest : List ℕ)
    → record_bytes * (most_records + 2) ≤ length front₀ → PlanPart front₀ t n bytes front → (t ≡ false → events ++ rest ≡ [])
    → PlanBegun false n front rows₀ into₀ out₀ ends₀ kept₀ lines₀ rows into out ends kept lines b → b.number ≡ 0
    → EventPieces false b.links b.ponds rows into out ends kept k events kept' text → length rest < record_bytes
    → LastPut n front kept' (length rest) lines₁ 0 lines₂ e → length bytes < 2 ^ 64 → length events < 2 ^ 64
    → take b.end lines ++ (text ++ take e lines₂) ≡ sheet_text (bytes ++ (events ++ rest))
sheet_read front₀ front bytes rows₀ into₀ out₀ ends₀ kept₀ lines₀ rows into out ends kept lines events kept' text lines₁ lines₂ t n k e b rest room part q g z run few last h f =
    let two = part_reads front₀ t n bytes front part room h (events ++ rest) q in
    let p = plan_in (read_front n front) in
    let a = begun_agrees false n front rows₀ into₀ out₀ ends₀ kept₀ lines₀ rows into out ends kept lines b g z (plan_part (bytes ++ (events ++ rest))) two.0 in
    let s = days.pieces_hold false p b.links b.ponds rows into out ends (event_lines p) (λ x y. no_lines p x y) (lines_behind p) (one_event p b.links b.ponds rows into out ends) kept a k events kept' text run f in
    let none : take b.end lines ≡ [] = written lines₀ _ lines b.end (g.read z).made ∙ (g.read z).first in
    let v = whole_rest s.count events rest s.whole few in
    let end = end_text p b.links rows into out ends events kept' s.count rest s.whole few s.agrees n front lines₁ lines₂ e refl last in
    let ok : number_in (read_front n front) ≡ 0 = sym g.number ∙ z in
    let behind : events ++ rest ≡ event_part (bytes ++ (events ++ rest)) = sym two.1 in
    let all : text ++ take e lines₂ ≡ texts_of (sheet_of p (events ++ rest)) =
    (λ i. s.told i ++ end i) ∙ sym (texts_more (event_lines p 0 fresh (whole_in events)) (end_lines p (events ++ rest))) ∙ ap (λ (x : List (List ℕ)). texts_of (event_lines p 0 fresh x ++ end_lines p (events ++ rest))) (sym v) in
    ap (λ (x : List ℕ). x ++ (text ++ take e lines₂)) none ∙ all ∙ ap texts_of (sym (read_lines_lem sheet_of (read_front n front) (plan_part (bytes ++ (events ++ rest))) (events ++ rest) two.0 ok))
    ∙ (λ i. texts_of (read_lines sheet_of (two.0 i) (behind i)))

-- WHAT IS PRINTED IS THE DEFINITION'S TEXT
pub sheet_prints : SheetPrints
sheet_prints bytes text h (refused {front₀} {front} {bytes = bytes₁} {rows₀} {into₀} {out₀} {ends₀} {kept₀} {lines₀} {rows} {into} {out} {ends} {kept} {lines} {t} {n} {b} more room part q g bad) =
    sheet_refused front₀ front bytes₁ rows₀ into₀ out₀ ends₀ kept₀ lines₀ rows into out ends kept lines t n b more room part q g bad (omega (arith, length-append bytes₁ more))
sheet_prints bytes text h (read {front₀} {front} {bytes = bytes₁} {rows₀} {into₀} {out₀} {ends₀} {kept₀} {lines₀} {rows} {into} {out} {ends} {kept} {lines} {events} {kept'} {text = text₁} {lines₁} {lines₂} {t} {n} {k} {e} {b} rest room part q g z run few last) =
    let l1 = length-append bytes₁ (events ++ rest) in
    let l2 = length-append events rest in
    sheet_read front₀ front bytes₁ rows₀ into₀ out₀ ends₀ kept₀ lines₀ rows into out ends kept lines events kept' text₁ lines₁ lines₂ t n k e b rest room part q g z run few last (omega arith) (omega arith)
