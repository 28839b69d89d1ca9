-- The loop over the records: what holds after the first i entries, that it holds at the start, that a turn keeps it, and
-- what it gives at a bad record and at the end. Assumes nothing.
use mathlib.Core.Path.{◌≡◌, refl, ◌∙◌}
use mathlib.Core.Bool.{Bool, true, false}
use mathlib.Core.List.{List, [], ◌∷◌, ◌++◌, map-append}
use Prim.Native.Nat.{ℕ, suc, ◌+◌, ◌%◌, ◌≤◌, ◌<◌}
use native.Mathlib.Omega.{arith}
use native.Mathlib.Numerals.{add-one}
use lib.Dec.{eqb}
use lib.ListN.{length, take, drop, get_or, set, replicate, length-map, drop_of_length-le}
use lib.Seq.{take-suc, drop-cons, length-take-le, set-get_or}
use borrow.Author.Tests.{eqb-true, ne_eqb}
use Rattle.std.specs.Prelude.{if◌then◌else◌, Ok, Err}
use Rattle.plan.specs.Limits.{most_points, most_records}
use Rattle.plan.specs.APlan.{point, link, ordinary, wait, is, blank}
use Rattle.plan.specs.PlanFile.{Entry}
use Rattle.plan.specs.ReplyNumbers.{after, number_of, first_bad, first_bad_with, refusal, accepted}
use Rattle.plan.specs.Held.{plain}
use Rattle.plan.specs.Inside.{whats}
use Rattle.rules.specs.Inside.{Few, fresh, told, no_ending, with_record, ending_after, seconds_after, one_of}
use Rattle.records.proofs.Records.{many_le}
use Rattle.rules.proofs.Shows.{Shows, shows_none, same_number, shows_more}
use Rattle.records.specs.declared.Record.{Record}
use Rattle.rules.specs.declared.Seen.{Seen}
use Rattle.rules.specs.declared.Ending.{Ending}

-- one entry: it is bad, or the next is looked at
module _ (rs : List Record) (e : Entry) (es : List Entry) where
  abbrev number : ℕ
  number = number_of (after rs) e.what e.reserved

  bad_here : eqb number 0 ≡ false → first_bad rs (e ∷ es) ≡ refusal number (length rs)
  unfolding first_bad_with
  bad_here h = rw h

  good_here : eqb number 0 ≡ true → first_bad rs (e ∷ es) ≡ first_bad (rs ++ (e.what ∷ [])) es
  unfolding first_bad_with
  good_here h = rw h

-- what the one-record reader's answer says of the number
said_bad : (n k : ℕ) (t : Seen) (b : Bool) → eqb n 0 ≡ b → (if b then Ok t else Err n) ≡ Err k → (eqb n 0 ≡ false) × (n ≡ k)
said_bad n k t true q e = absurd (let z : ◌≡◌ {A = ℕ} 0 1 = cc in omega arith)
said_bad n k t false q e = (q, cc)

said_good : (n : ℕ) (t u : Seen) (b : Bool) → eqb n 0 ≡ b → (if b then Ok t else Err n) ≡ Ok u → (eqb n 0 ≡ true) × (t ≡ u)
said_good n t u true q e = (q, cc)
said_good n t u false q e = absurd (let z : ◌≡◌ {A = ℕ} 0 1 = cc in omega arith)

pub record Sofar (es : List Entry) (i : ℕ) (s : Seen) (ends : List Ending) (seconds : List ℕ) : Type 0 where
  pub shows : Shows (whats (take i es)) s ends seconds
  pub rest : first_bad (whats (take i es)) (drop i es) ≡ first_bad [] es

pub sofar_start : (es : List Entry) → Sofar es 0 fresh (replicate most_points no_ending) (replicate most_points 0)
sofar_start es = record { shows = shows_none; rest = refl }

module _ (es : List Entry) (i : ℕ) (s : Seen) (ends : List Ending) (seconds : List ℕ) (f : Sofar es i s ends seconds) where
  -- no count is past the records looked at
  pub sofar_few : i ≤ length es → length es ≤ most_records → Few s
  sofar_few h m =
      let rs : List Record = whats (take i es) in
      let n : length rs ≡ i = length-map (take i es) (λ (e : Entry). e.what) ∙ length-take-le i es h in
      let w = f.shows in
      record {
        points = omega (arith, w.many_points, many_le (is point) rs, n);
        links = omega (arith, w.many_links, many_le (is link) rs, n);
        ordinary = omega (arith, w.many_ordinary, many_le (is ordinary) rs, n);
        waits = omega (arith, w.many_waits, many_le (is wait) rs, n);
      }

  -- after the last entry nothing is bad
  pub sofar_end : length es ≤ i → accepted ≡ first_bad [] es
  unfolding first_bad_with
  sofar_end h = rw (drop_of_length-le es h) at f.rest

  module _ (h : i < length es) (next : Entry) (here : get_or es i (plain blank) ≡ next) where
    abbrev before : List Record
    before = whats (take i es)

    abbrev end : Ending
    end = get_or ends (next.what.b % most_points) no_ending

    abbrev led : ℕ
    led = get_or seconds (next.what.a % most_points) 0

    abbrev kept_number : ℕ
    kept_number = number_of (told s end led) next.what next.reserved

    number_here : kept_number ≡ number_of (after before) next.what next.reserved
    number_here = same_number before s ends seconds f.shows next.what next.reserved

    rest_here : first_bad before (next ∷ drop (suc i) es) ≡ first_bad [] es
    rest_here = rw (drop-cons es i (plain blank) h, here) at f.rest

    -- a bad record is the first
    pub sofar_bad : (k : ℕ) → one_of s end led next.what next.reserved ≡ Err k → refusal k i ≡ first_bad [] es
    unfolding one_of
    sofar_bad k e =
        let b = said_bad kept_number k (with_record s next.what) (eqb kept_number 0) refl e in
        let n : length before ≡ i = length-map (take i es) (λ (e : Entry). e.what) ∙ length-take-le i es (omega arith) in
        rw (← rest_here, bad_here before next (drop (suc i) es) (rw number_here at b.0), ← number_here, b.1, n)

    -- with a record that is not bad it goes on
    pub sofar_good : (t : Seen) → one_of s end led next.what next.reserved ≡ Ok t → Sofar es (i + 1) t (set ends (next.what.b % most_points) (ending_after next.what end)) (set seconds (next.what.a % most_points) (seconds_after next.what led))
    unfolding one_of
    sofar_good t e =
        let b = said_good kept_number (with_record s next.what) t (eqb kept_number 0) refl e in
        let good : eqb (number_of (after before) next.what next.reserved) 0 ≡ true = rw number_here at b.0 in
        let w : whats (take (i + 1) es) ≡ before ++ (next.what ∷ []) = rw (add-one i, take-suc es i (plain blank) h, here) (map-append (λ (e : Entry). e.what) (take i es) (next ∷ [])) in
        rw (← b.1)
        (record {
          shows = rw w (shows_more before s ends seconds f.shows next.what next.reserved (eqb-true _ 0 good));
          rest = rw (w, add-one i) (rw (good_here before next (drop (suc i) es) good) at rest_here);
        })

    -- an ordinary record leaves the table of links as it is, any other the sets of seconds
    pub sofar_ordinary : (t : Seen) → one_of s end led next.what next.reserved ≡ Ok t → next.what.kind ≡ 3
        → Sofar es (i + 1) t ends (set seconds (next.what.a % most_points) (seconds_after next.what led))
    sofar_ordinary t e k =
        let f : ending_after next.what end ≡ end = rw k in
        rw (f, set-get_or ends (next.what.b % most_points) no_ending) at (sofar_good t e)

    pub sofar_other : (t : Seen) → one_of s end led next.what next.reserved ≡ Ok t → (next.what.kind ≡ 3 → ⊥)
        → Sofar es (i + 1) t (set ends (next.what.b % most_points) (ending_after next.what end)) seconds
    sofar_other t e n =
        let f : seconds_after next.what led ≡ led = rw (ne_eqb next.what.kind 3 n) in
        rw (f, set-get_or seconds (next.what.a % most_points) 0) at (sofar_good t e)
