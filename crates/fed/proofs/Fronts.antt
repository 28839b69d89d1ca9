-- The plan part in pieces: what the front room holds, and that reading it there is reading the plan part of all bytes. Assumes nothing.
use mathlib.Core.Path.{◌≡◌, refl, sym, ap, ◌∙◌}
use mathlib.Core.Bool.{Bool, true, false}
use mathlib.Core.List.{List, [], ◌∷◌, ◌++◌, append_assoc, append-nil}
use Prim.Native.Nat.{ℕ, zero, suc, ◌+◌, ◌*◌, ◌/◌, ◌%◌, ◌^◌, ◌≤◌, ◌<◌}
use native.Mathlib.Omega.{arith}
use lib.ListN.{length, take, drop, length-append, length-drop, drop_of_length-le}
use lib.Seq.{take-paste, take-length, take_at, drop_at, take-add, length-take-le}
use borrow.Author.Tests.{le-leb, lt-ltb, le-ltb}
use Rattle.numbers.specs.Fits.{All}
use Rattle.plan.specs.Limits.{most_records, record_bytes}
use Rattle.plan.specs.ReplyNumbers.{read_of}
use Rattle.board.specs.Streams.{events_in}
use Rattle.stream.specs.Buffers.{appended}
use Rattle.stream.specs.Sheets.{is_mark, read_front}
use Rattle.stream.proofs.Fronts.{front_reads}
use Rattle.printed.specs.Texts.{whole_in, until_mark, plan_part, event_part}
use Rattle.printed.proofs.Records.{length_events}
use Rattle.feeding.specs.Parts.{Fronted, PlanKept}
use Rattle.feeding.specs.Parts as parts
use Rattle.feeding.specs.declared.front.Part.{Part}
use Rattle.feeding.proofs.Fronting.{length_appended}
use Rattle.fed.specs.Runs.{PlanPieces, none, piece, PlanPart, to_mark, to_end}
use Rattle.fed.proofs.Joining.{events_behind, whole_behind, whole_rest, until_behind, joined, joined_more, joined_events}

-- a record of sixteen bytes
abbrev Long : List ℕ → Type 0
Long s = length s ≡ record_bytes

long_each : (n : ℕ) (s : List ℕ) → record_bytes * n ≤ length s → All Long (events_in n s)
unfolding events_in
long_each zero s h = tt
long_each (suc n) s h = (length-take-le record_bytes s (omega arith), long_each n (drop record_bytes s) (omega (arith, length-drop record_bytes s)))

all_split : (ss : List (List ℕ)) (s : List ℕ) → All Long (ss ++ (s ∷ [])) → All Long ss × Long s
all_split [] s h = (tt, h.0)
all_split (x ∷ ss) s h = let r = all_split ss s h.1 in ((h.0, r.0), r.1)

-- bytes that fit behind others
pub append_holds : (front : List ℕ) (n : ℕ) (s bytes : List ℕ) → take n front ≡ bytes → n + length s ≤ length front → take (n + length s) (appended front n s) ≡ bytes ++ s
append_holds front n s bytes e h =
    rw (le-leb (n + length s) (length front) h) (take-paste front n s (length s) (omega arith) (omega arith) ∙ ap (λ (t : List ℕ). take n front ++ t) (take-length s) ∙ ap (λ (t : List ℕ). t ++ s) e)

-- what the front room holds after some records
record Holds (n : ℕ) (bytes front₀ : List ℕ) (ss : List (List ℕ)) (front : List ℕ) : Type 0 where
  pub long : length front ≡ length front₀
  pub holds : n + record_bytes * length ss ≤ length front₀ → take (n + record_bytes * length ss) front ≡ bytes ++ joined ss

module _ (n : ℕ) (bytes front₀ : List ℕ) (start : n ≤ length front₀ → take n front₀ ≡ bytes) where
  fronted_holds : (ss : List (List ℕ)) (front : List ℕ) → Fronted front₀ n ss front → All Long ss → n + record_bytes * length ss < 2 ^ 64 → Holds n bytes front₀ ss front
  unfolding joined
  fronted_holds ss front parts.none h f =
      let z : n + record_bytes * 0 ≡ n = omega arith in
      record { long = refl; holds = λ g. rw z (start (omega arith) ∙ sym (append-nil bytes)) }
  fronted_holds ss front (parts.more {ss = rs} {room = room} s g) h f =
      let two = all_split rs s h in
      let l : length (rs ++ (s ∷ [])) ≡ length rs + 1 = length-append rs (s ∷ []) in
      let i = fronted_holds rs room g two.0 (omega arith) in
      let m : (n + record_bytes * length rs) % 2 ^ 64 ≡ n + record_bytes * length rs = omega arith in
      let q : n + record_bytes * length (rs ++ (s ∷ [])) ≡ n + record_bytes * length rs + length s = omega (arith, two.1) in
      record {
        long = length_appended room ((n + record_bytes * length rs) % 2 ^ 64) s ∙ i.long;
        holds =
            λ k.
            let b : n + record_bytes * length rs + length s ≤ length room = omega (arith, i.long, two.1) in
            rw (q, m)
            (append_holds room (n + record_bytes * length rs) s (bytes ++ joined rs) (i.holds (omega arith)) b
            ∙ append_assoc bytes (joined rs) s ∙ ap (λ (t : List ℕ). bytes ++ t) (sym (joined_more rs s)));
      }

-- ---- pieces

pub record Sofar (front₀ : List ℕ) (n : ℕ) (bytes front : List ℕ) : Type 0 where
  pub number : n ≡ length bytes
  pub long : length front ≡ length front₀
  pub holds : n ≤ length front₀ → take n front ≡ bytes
  pub count : ℕ
  pub whole : length bytes ≡ record_bytes * count
  pub unmarked : until_mark (whole_in bytes) ≡ count

-- the whole records of one more piece
sofar_more : (front₀ : List ℕ) (n : ℕ) (bytes front input front' : List ℕ) (r : Part) (k : PlanKept front n input front' r) → Sofar front₀ n bytes front
    → n + record_bytes * k.count < 2 ^ 64 → Sofar front₀ r.length (bytes ++ take (record_bytes * k.count) input) front'
sofar_more front₀ n bytes front input front' r k s f =
    let m = k.count in
    let l = length_events m input in
    let t = length-take-le (record_bytes * m) input k.within in
    let e : r.length ≡ n + record_bytes * m = omega (arith, k.long) in
    let le : n + record_bytes * length (events_in m input) ≡ n + record_bytes * m = rw l in
    let h = fronted_holds n bytes front (λ g. s.holds (omega (arith, s.long))) (events_in m input) front' k.kept (long_each m input k.within) (omega arith) in
    let w : length (whole_in bytes) ≡ s.count = length_events (length bytes / record_bytes) bytes ∙ omega (arith, s.whole) in
    record {
      number = e ∙ omega (arith, length-append bytes (take (record_bytes * m) input), s.number);
      long = h.long ∙ s.long;
      holds =
          λ g.
          let b : n + record_bytes * length (events_in m input) ≤ length front = omega (arith, s.long) in
          let q : take (n + record_bytes * m) front' ≡ bytes ++ joined (events_in m input) = rw le at (h.holds b) in
          rw e (q ∙ ap (λ (x : List ℕ). bytes ++ x) (joined_events m input k.within));
      count = s.count + m;
      whole = omega (arith, length-append bytes (take (record_bytes * m) input), s.whole);
      unmarked =
          ap until_mark (whole_behind s.count m bytes input s.whole k.within) ∙ until_behind (whole_in bytes) (events_in m input) (s.unmarked ∙ sym w)
          ∙ (let u = k.unmarked in omega arith);
    }

pub pieces_hold : (front₀ : List ℕ) (n : ℕ) (bytes front : List ℕ) → PlanPieces front₀ n bytes front → length bytes < 2 ^ 64 → Sofar front₀ n bytes front
unfolding until_mark events_in
pieces_hold front₀ n bytes front none h = record { number = refl; long = refl; holds = λ g. refl; count = 0; whole = refl; unmarked = refl }
pieces_hold front₀ n bytes front (piece {n = n₁} {bytes = bytes₁} {front = front₁} {input = input} {r = r} g k e) h =
    let u : r.used ≡ record_bytes * k.count = (k.all e).1 in
    let t = length-take-le (record_bytes * k.count) input k.within in
    let h' : length (bytes₁ ++ take (record_bytes * k.count) input) < 2 ^ 64 = rw u at h in
    let s = pieces_hold front₀ n₁ bytes₁ front₁ g (omega (arith, length-append bytes₁ (take (record_bytes * k.count) input))) in
    rw u (sofar_more front₀ n₁ bytes₁ front₁ input front r k s (omega (arith, length-append bytes₁ (take (record_bytes * k.count) input), s.number)))

-- ---- the whole plan part

-- records without a mark, the mark, and what comes behind it
marked_part : (c : ℕ) (p mark rest : List ℕ) → length p ≡ record_bytes * c → until_mark (whole_in p) ≡ c → length mark ≡ record_bytes → is_mark mark ≡ true
    → (plan_part (p ++ (mark ++ rest)) ≡ p) × (event_part (p ++ (mark ++ rest)) ≡ rest)
unfolding until_mark events_in
marked_part c p mark rest e u l m =
    let all = p ++ (mark ++ rest) in
    let q = length rest / record_bytes in
    let n : length all / record_bytes ≡ c + suc q = omega (arith, length-append p (mark ++ rest), length-append mark rest) in
    let w : length (whole_in p) ≡ c = length_events (length p / record_bytes) p ∙ omega arith in
    let d : length p / record_bytes ≡ c = omega arith in
    let b : whole_in all ≡ whole_in p ++ events_in (suc q) (mark ++ rest) = ap (λ (k : ℕ). events_in k all) n ∙ events_behind c (suc q) p (mark ++ rest) e ∙ ap (λ (k : ℕ). events_in k p ++ events_in (suc q) (mark ++ rest)) (sym d) in
    let t : take record_bytes (mark ++ rest) ≡ mark = take_at mark rest record_bytes l in
    let h : until_mark (events_in (suc q) (mark ++ rest)) ≡ 0 = rw (t, m) in
    let i : until_mark (whole_in all) ≡ c = ap until_mark b ∙ until_behind (whole_in p) (events_in (suc q) (mark ++ rest)) (u ∙ sym w) ∙ omega arith in
    let j : length (whole_in all) ≡ c + suc q = length_events (length all / record_bytes) all ∙ n in
    let z : record_bytes * suc c ≡ length (p ++ mark) = omega (arith, length-append p mark) in (
      rw (i, j, lt-ltb c (c + suc q) (omega arith)) (take_at p (mark ++ rest) (record_bytes * c) e),
      rw (i, ← append_assoc p mark rest) (drop_at (p ++ mark) rest (record_bytes * suc c) (sym z)),
    )

-- no mark at all
unmarked_part : (c : ℕ) (p rest : List ℕ) → length p ≡ record_bytes * c → until_mark (whole_in p) ≡ c → length rest < record_bytes
    → (plan_part (p ++ rest) ≡ p ++ rest) × (event_part (p ++ rest) ≡ [])
unmarked_part c p rest e u l =
    let w = whole_rest c p rest e l in
    let i : until_mark (whole_in (p ++ rest)) ≡ c = ap until_mark w ∙ u in
    let j : length (whole_in (p ++ rest)) ≡ c = length_events (length (p ++ rest) / record_bytes) (p ++ rest) ∙ omega (arith, length-append p rest) in
    let d : length (p ++ rest) ≤ record_bytes * suc c = omega (arith, length-append p rest) in
    (rw (i, j, le-ltb c c (omega arith)) refl, rw i (drop_of_length-le (p ++ rest) d))

-- Reading at the front of the room is reading the plan part of all bytes, and the events are what comes behind.
pub part_reads : (front₀ : List ℕ) (t : Bool) (n : ℕ) (bytes front : List ℕ) → PlanPart front₀ t n bytes front → record_bytes * (most_records + 2) ≤ length front₀ → length bytes < 2 ^ 64
    → (more : List ℕ) → (t ≡ false → more ≡ []) → (read_front n front ≡ read_of (plan_part (bytes ++ more))) × (event_part (bytes ++ more) ≡ more)
part_reads front₀ t n bytes front (to_mark {n = n₁} {bytes = bytes₁} {front = front₁} {input = input} {r = r} g k e) room h more q =
    let m = k.marked e in
    let c = k.count in
    let u : r.used ≡ record_bytes * c + record_bytes = m.2 in
    let mark = take record_bytes (drop (record_bytes * c) input) in
    let p = bytes₁ ++ take (record_bytes * c) input in
    let l1 = length-take-le (record_bytes * c) input k.within in
    let l2 : length mark ≡ record_bytes = length-take-le record_bytes (drop (record_bytes * c) input) (omega (arith, length-drop (record_bytes * c) input, m.0)) in
    let cut : bytes₁ ++ take r.used input ≡ p ++ mark = rw u (ap (λ (x : List ℕ). bytes₁ ++ x) (take-add (record_bytes * c) record_bytes input) ∙ sym (append_assoc bytes₁ (take (record_bytes * c) input) mark)) in
    let all : (bytes₁ ++ take r.used input) ++ more ≡ p ++ (mark ++ more) = ap (λ (x : List ℕ). x ++ more) cut ∙ append_assoc p mark more in
    let h' : length (p ++ mark) < 2 ^ 64 = rw cut at h in
    let s = pieces_hold front₀ n₁ bytes₁ front₁ g (omega (arith, length-append p mark, length-append bytes₁ (take (record_bytes * c) input))) in
    let s' = sofar_more front₀ n₁ bytes₁ front₁ input front r k s (omega (arith, length-append p mark, length-append bytes₁ (take (record_bytes * c) input), s.number)) in
    let two = marked_part s'.count p mark more s'.whole s'.unmarked l2 m.1 in
    let reads : read_front (length p) front ≡ read_of p = front_reads p front (omega (arith, s'.long)) (λ f. ap (λ (x : ℕ). take x front) (sym s'.number) ∙ s'.holds (omega (arith, s'.number))) in
    (rw all (ap (λ (x : ℕ). read_front x front) s'.number ∙ reads ∙ ap (λ (x : List ℕ). read_of x) (sym two.0)), rw all two.1)
part_reads front₀ t n bytes front (to_end {n = n₁} {bytes = bytes₁} {front = front₁} rest g l) room h more q =
    let s = pieces_hold front₀ n₁ bytes₁ front₁ g (omega (arith, length-append bytes₁ rest)) in
    let z : more ≡ [] = q refl in
    let all : (bytes₁ ++ rest) ++ more ≡ bytes₁ ++ rest = ap (λ (x : List ℕ). (bytes₁ ++ rest) ++ x) z ∙ append-nil (bytes₁ ++ rest) in
    let two = unmarked_part s.count bytes₁ rest s.whole s.unmarked l in
    let e : (n₁ + length rest) % 2 ^ 64 ≡ length (bytes₁ ++ rest) = omega (arith, s.number, length-append bytes₁ rest) in
    let b : length (bytes₁ ++ rest) ≡ n₁ + length rest = omega (arith, s.number, length-append bytes₁ rest) in
    let lf = length_appended front₁ n₁ rest in
    let reads : read_front (length (bytes₁ ++ rest)) (appended front₁ n₁ rest) ≡ read_of (bytes₁ ++ rest) =
    front_reads (bytes₁ ++ rest) (appended front₁ n₁ rest) (omega (arith, s.long, lf))
    (λ f. ap (λ (x : ℕ). take x (appended front₁ n₁ rest)) b ∙ append_holds front₁ n₁ rest bytes₁ (s.holds (omega (arith, b))) (omega (arith, b, s.long))) in
    (rw (all, e) (reads ∙ ap (λ (x : List ℕ). read_of x) (sym two.0)), rw all (two.1 ∙ sym z))
