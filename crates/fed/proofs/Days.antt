-- Events in pieces: what was written is what is printed of each event, and the engine's rooms agree with the plain engine's board. Assumes nothing.
use mathlib.Core.Path.{◌≡◌, refl, sym, ap, ◌∙◌}
use mathlib.Core.Bool.{Bool, false}
use mathlib.Core.List.{List, [], ◌∷◌, ◌++◌, append-nil}
use Prim.Native.Nat.{ℕ, suc, ◌+◌, ◌*◌, ◌/◌, ◌%◌, ◌^◌, ◌<◌}
use native.Mathlib.Omega.{arith}
use lib.ListN.{length, take, length-append}
use lib.Seq.{length-take-le}
use Rattle.plan.specs.Limits.{record_bytes}
use Rattle.plan.specs.declared.Plan.{Plan}
use Rattle.points.specs.Sets.{count_of}
use Rattle.links.specs.declared.Links.{Links}
use Rattle.board.specs.Boards.{fresh}
use Rattle.board.specs.Events.{take_of}
use Rattle.board.specs.Streams.{events_in, board_after_all}
use Rattle.board.specs.declared.Board.{Board}
use Rattle.engine.specs.Agreement.{Agrees}
use Rattle.engine.proofs.Agreeing.{take_agrees}
use Rattle.lines.specs.Inside.{text_in}
use Rattle.lines.specs.declared.Line.{Line}
use Rattle.text.specs.Lines.{numbers_line, event_line}
use Rattle.printed.specs.Texts.{whole_in, texts_of, event_lines}
use Rattle.printed.proofs.Records.{length_events}
use Rattle.saying.specs.Makes.{Made, EventMade, EventsMade, EventsPut}
use Rattle.saying.specs.Makes as makes
use Rattle.saying.proofs.Listing.{texts_more}
use Rattle.fed.specs.Runs.{EventPieces}
use Rattle.fed.specs.Runs as runs
use Rattle.fed.proofs.Joining.{whole_behind}

-- ---- lines and boards of some events, and of more

board_behind : (p : Plan) (xs ys : List (List ℕ)) (b : Board) → board_after_all p b (xs ++ ys) ≡ board_after_all p (board_after_all p b xs) ys
unfolding board_after_all
board_behind p [] ys b = refl
board_behind p (x ∷ xs) ys b = board_behind p xs ys (take_of p b x).board

pub lines_behind : (p : Plan) (xs ys : List (List ℕ)) (k : ℕ) (b : Board) → event_lines p k b (xs ++ ys) ≡ event_lines p k b xs ++ event_lines p (k + length xs) (board_after_all p b xs) ys
unfolding board_after_all event_lines
lines_behind p [] ys k b = let z : k ≡ k + 0 = omega arith in ap (λ (n : ℕ). event_lines p n b ys) z
lines_behind p (x ∷ xs) ys k b =
    let z : suc k + length xs ≡ k + suc (length xs) = omega arith in
    ap (λ (ls : List Line). event_line k (take_of p b x) ∷ ls)
    (lines_behind p xs ys (suc k) (take_of p b x).board ∙ ap (λ (n : ℕ). event_lines p (suc k) (take_of p b x).board xs ++ event_lines p n (board_after_all p (take_of p b x).board xs) ys) z)

pub no_lines : (p : Plan) (k : ℕ) (b : Board) → event_lines p k b [] ≡ []
unfolding event_lines
no_lines p k b = refl

-- what was written of a room
pub written : (lines₀ text lines : List ℕ) (end : ℕ) → Made lines₀ 0 text lines end → take end lines ≡ text
written lines₀ text lines end m = m.front

-- ---- a line for each event

module _ (p : Plan) (l : Links) (ponds rows into out ends : List ℕ) where
  -- one event
  pub one_event : (b : Board) (kept : List ℕ) (k : ℕ) (s kept' text : List ℕ) → Agrees p l rows into out ends b kept → EventMade false l ponds rows into out ends kept k s kept' text
      → (text ≡ texts_of (event_lines p k b (s ∷ []))) × Agrees p l rows into out ends (take_of p b s).board kept'
  unfolding texts_of event_lines
  one_event b kept k s kept' text a e =
      let same = take_agrees p l rows into out ends b kept a s e.found kept' e.takes in
      let c = same.agrees.counts in
      (e.told ∙ (λ i. text_in (numbers_line k (same.number i) (c.clocks i) (count_of (c.dones i)))) ∙ sym (append-nil (text_in (event_line k (take_of p b s)))), same.agrees)

-- ---- any lines that go by events

module _ (full : Bool) (p : Plan) (l : Links) (ponds rows into out ends : List ℕ) (lines : ℕ → Board → List (List ℕ) → List Line) (nil : (k : ℕ) (b : Board) → lines k b [] ≡ [])
    (behind : (xs ys : List (List ℕ)) (k : ℕ) (b : Board) → lines k b (xs ++ ys) ≡ lines k b xs ++ lines (k + length xs) (board_after_all p b xs) ys)
    (one : (b : Board) (kept : List ℕ) (k : ℕ) (s kept' text : List ℕ) → Agrees p l rows into out ends b kept → EventMade full l ponds rows into out ends kept k s kept' text
    → (text ≡ texts_of (lines k b (s ∷ []))) × Agrees p l rows into out ends (take_of p b s).board kept') where
  abbrev Agreed : Board → List ℕ → Type 0
  Agreed b kept = Agrees p l rows into out ends b kept

  -- some events
  some_events : (b : Board) (kept₀ : List ℕ) (k : ℕ) → Agreed b kept₀ → (ss : List (List ℕ)) (kept text : List ℕ) → EventsMade full l ponds rows into out ends kept₀ k ss kept text → k + length ss < 2 ^ 64
      → (text ≡ texts_of (lines k b ss)) × Agreed (board_after_all p b ss) kept
  unfolding texts_of board_after_all
  some_events b kept₀ k a ss kept text makes.none h = (ap texts_of (sym (nil k b)), a)
  some_events b kept₀ k a ss kept text (makes.more {ss = rs} {s = s} {kept = kept₁} {text = text₁} {text' = text₂} g e) h =
      let n = length-append rs (s ∷ []) in
      let i = some_events b kept₀ k a rs kept₁ text₁ g (omega arith) in
      let m : (k + length rs) % 2 ^ 64 ≡ k + length rs = omega arith in
      let o = one (board_after_all p b rs) kept₁ (k + length rs) s kept text₂ i.1 (rw m at e) in
      let t : texts_of (lines k b (rs ++ (s ∷ []))) ≡ texts_of (lines k b rs) ++ texts_of (lines (k + length rs) (board_after_all p b rs) (s ∷ [])) =
      ap texts_of (behind rs (s ∷ []) k b) ∙ texts_more (lines k b rs) (lines (k + length rs) (board_after_all p b rs) (s ∷ [])) in
      ((λ j. i.0 j ++ o.0 j) ∙ sym t, rw (board_behind p rs (s ∷ []) b) o.1)

  pub record Sofar (kept₀ : List ℕ) (k : ℕ) (bytes kept text : List ℕ) : Type 0 where
    pub count : ℕ
    pub whole : length bytes ≡ record_bytes * count
    pub number : k ≡ count
    pub told : text ≡ texts_of (lines 0 fresh (whole_in bytes))
    pub agrees : Agreed (board_after_all p fresh (whole_in bytes)) kept

  pub pieces_hold : (kept₀ : List ℕ) → Agreed fresh kept₀ → (k : ℕ) (bytes kept text : List ℕ) → EventPieces full l ponds rows into out ends kept₀ k bytes kept text → length bytes < 2 ^ 64
      → Sofar kept₀ k bytes kept text
  unfolding texts_of board_after_all events_in
  pieces_hold kept₀ a k bytes kept text runs.none h = record { count = 0; whole = refl; number = refl; told = ap texts_of (sym (nil 0 fresh)); agrees = a }
  pieces_hold kept₀ a k bytes kept text (runs.piece {k = k₁} {bytes = bytes₁} {kept = kept₁} {text = text₁} {input = input} {lines₀ = lines₀} {lines = room} {r = r} g e) h =
      let m = e.count in
      let t = length-take-le (record_bytes * m) input e.within in
      let u : take r.used input ≡ take (record_bytes * m) input = ap (λ (x : ℕ). take x input) e.used in
      let h' : length (bytes₁ ++ take (record_bytes * m) input) < 2 ^ 64 = rw u at h in
      let la = length-append bytes₁ (take (record_bytes * m) input) in
      let s = pieces_hold kept₀ a k₁ bytes₁ kept₁ text₁ g (omega (arith, la)) in
      let w : whole_in (bytes₁ ++ take r.used input) ≡ whole_in bytes₁ ++ events_in m input = ap (λ (x : List ℕ). whole_in (bytes₁ ++ x)) u ∙ whole_behind s.count m bytes₁ input s.whole e.within in
      let n : length (whole_in bytes₁) ≡ s.count = length_events (length bytes₁ / record_bytes) bytes₁ ∙ omega (arith, s.whole) in
      let lm = length_events m input in
      let o = some_events (board_after_all p fresh (whole_in bytes₁)) kept₁ k₁ s.agrees (events_in m input) kept e.text e.events (omega (arith, la, s.whole, s.number)) in
      let q : 0 + length (whole_in bytes₁) ≡ k₁ = omega (arith, s.number) in
      let v : texts_of (lines 0 fresh (whole_in bytes₁ ++ events_in m input)) ≡ texts_of (lines 0 fresh (whole_in bytes₁)) ++ texts_of (lines k₁ (board_after_all p fresh (whole_in bytes₁)) (events_in m input)) =
      ap texts_of (behind (whole_in bytes₁) (events_in m input) 0 fresh) ∙ texts_more (lines 0 fresh (whole_in bytes₁)) (lines (0 + length (whole_in bytes₁)) (board_after_all p fresh (whole_in bytes₁)) (events_in m input))
      ∙ ap (λ (x : ℕ). texts_of (lines 0 fresh (whole_in bytes₁)) ++ texts_of (lines x (board_after_all p fresh (whole_in bytes₁)) (events_in m input))) q in
      record {
        count = s.count + m;
        whole = ap length (ap (λ (x : List ℕ). bytes₁ ++ x) u) ∙ omega (arith, la, s.whole);
        number = e.number ∙ omega (arith, la, s.whole, s.number);
        told = (λ j. s.told j ++ (written lines₀ e.text room r.end e.made ∙ o.0) j) ∙ sym v ∙ ap (λ (x : List (List ℕ)). texts_of (lines 0 fresh x)) (sym w);
        agrees = rw (w, board_behind p (whole_in bytes₁) (events_in m input) fresh) o.1;
      }
