-- Document 02, §9: for a plan that is accepted and passes, the sheets that the engine lets through are exactly the good ones.
-- The events of a good sheet are each taken and give exactly its minutes; and every board that accepted events finish shows
-- a good sheet. Assumes nothing of boards or events.
use mathlib.Core.Path.{subst, ◌≡◌, refl, sym, ◌∙◌}
use mathlib.Core.Logic.{inl, inr}
use mathlib.Core.Bool.{Bool, true, false, not, ◌&&◌, ◌||◌, and-false, or-false}
use mathlib.Core.List.{List, [], ◌∷◌, ◌++◌, map, append_assoc}
use Prim.Native.Nat.{ℕ, suc, ◌^◌, ◌≤◌, ◌<◌}
use native.Mathlib.Omega.{arith}
use lib.Dec.{eqb}
use borrow.Author.Tests.{eqb-true, eqb-false, eq-eqb, ne_eqb, not-true}
use Rattle.points.specs.Sets.{member, from, passing}
use Rattle.points.proofs.Laws.{member_empty, member_small, first_member}
use Rattle.std.specs.Prelude.{if◌then◌else◌}
use Rattle.plan.specs.Limits.{most_points}
use Rattle.plan.specs.APlan.{points, watched, records_of}
use Rattle.plan.specs.Held.{All, IsByte}
use Rattle.plan.specs.ReplyNumbers.{check_of}
use Rattle.records.specs.declared.Record.{Record}
use Rattle.plan.specs.declared.Plan.{Plan}
use Rattle.plan.proofs.Accepted.{Accepted, accepted_plan}
use Rattle.board.specs.Boards.{fresh, is_done, minute}
use Rattle.board.specs.Stuck.{finished}
use Rattle.board.specs.Events.{no_point, take_of}
use Rattle.board.specs.Streams.{board_after_all}
use Rattle.board.specs.declared.Board.{Board}
use Rattle.board.proofs.Theorems.Each.{clash, both, and_both, has}
use Rattle.board.proofs.Theorems.Soundness.{Sound, sound_means}
use Rattle.board.proofs.Theorems.Marks.{names, Marks}
use Rattle.promise.specs.Nets.{PassesPlan}
use Rattle.promise.specs.Runs.{Run, Reached}
use Rattle.promise.specs.Runs as runs
use Rattle.promise.specs.Plays.{Event, event_bytes, CanHappen}
use Rattle.promise.specs.GoodSheets.{GoodSheet, watched_at, foremans_at, together, alone, events_over, events_of, minutes_of, AllTaken, Shows, Gives, LetThrough}
use Rattle.promise.proofs.Nets.{link_of, rules_of}
use Rattle.promise.proofs.Gathering.{set_of_in, set_of_out, set_of_fits}
use Rattle.promise.proofs.Standing.{one_left, told}
use Rattle.promise.proofs.Executor.{Stands, stands}
use Rattle.promise.proofs.Happening.{Reads, happens_reads, happens_bytes}
use Rattle.promise.proofs.Play.{free, happening_accepted}
use Rattle.promise.proofs.After.{marks, was_done}
use Rattle.promise.proofs.Orders.{has_head, has_rest, split, passing_in, passing_out, Below, Rising, rising_first, rising_rest, passing_rising, order_rising, minute_in_lem}
use Rattle.promise.proofs.Sheets.{Stage, set_can_happen, point_can_happen}

-- ---- the events of a good sheet

-- the event e names the point q
abbrev names_of : Event → ℕ → Bool
names_of e q = member e.set q || (not (eqb e.point no_point) && eqb q e.point)

neither : (x y : Bool) → (x || y) ≡ false → (x ≡ false) × (y ≡ false)
neither true y e = clash e
neither false y e = (refl, e)

module _ (p : Plan) (ok : (check_of p).number ≡ 0) (passes : PassesPlan p) (ω g : ℕ → ℕ) (sheet : GoodSheet p ω g) where
  abbrev rs : List Record
  rs = records_of p

  known : Accepted rs
  known = accepted_plan p ok

  -- ---- one event

  module _ {b : Board} {t : ℕ} {now later : List ℕ} (at : Stage p g b t now later) (e : Event) (here : e.minute ≡ t) (can : CanHappen p b e) where
    abbrev s : List ℕ
    s = event_bytes e

    w : Stands p b at.events
    w = stands p ok passes at.run

    reads : Reads s e
    reads = happens_reads p ok b w.held w.good (free p ok passes at.run) e can

    accepted : (take_of p b s).number ≡ 0
    accepted = happening_accepted p ok passes at.run can

    bytes : All IsByte s
    bytes = happens_bytes p ok b w.held w.good (free p ok passes at.run) e can

    run : Run p (take_of p b s).board (suc at.events)
    run = runs.next s at.run bytes accepted

    m : Marks b s (take_of p b s).board
    m = marks p ok w.held w.good s bytes accepted

    named : (q : ℕ) → names s q ≡ names_of e q
    named q = rw (reads.set, reads.point)

    -- the event does points of this minute, and then those of `rest` are left
    module _ (rest : List ℕ) (does : (q : ℕ) → names_of e q ≡ true → has q now ≡ true) (leaves : (q : ℕ) → has q now ≡ true → names_of e q ≡ false → has q rest ≡ true) (left : (q : ℕ) → has q rest ≡ true → (has q now ≡ true) × (names_of e q ≡ false)) where
      after : Stage p g (take_of p b s).board t rest later
      after =
          record {
            events = suc at.events;
            run = run;
            done = λ q d. done q (member_small _ q m.held.done d) (names_of e q) refl d;
            left = λ q l u.
                let small : q < most_points = omega (arith, known.few) in
                let n = neither (is_done b q) (names s q) (sym (m.done q small) ∙ u) in
                elim (at.left q l n.0) [ inl h ↦ inl (leaves q h (sym (named q) ∙ n.1)) | inr h ↦ inr h ];
            here = λ q h.
                let k = left q h in
                let i = at.here q k.0 in
                let small : q < most_points = omega (arith, known.few, i.0) in
                (i.0, i.1, rw (m.done q small, i.2, named q) k.1);
            below = at.below;
          }
        where
          done : (q : ℕ) → q < most_points → (n : Bool) → names_of e q ≡ n → is_done (take_of p b s).board q ≡ true
              → (q < points rs) × (minute (take_of p b s).board q ≡ g q) × (g q ≤ t)
          done q l true n d =
              let i = at.here q (does q n) in
              (i.0, omega (arith, m.here q l (named q ∙ n), reads.minute, i.1), omega (arith, i.1))
          done q l false n d =
              let i = at.done q (was_done p ok w.held w.good s bytes accepted q d (named q ∙ n)) in
              (i.0, m.there q l (named q ∙ n) ∙ i.1, i.2)

  -- ---- from event to event

  -- the events es, from the board b on, are each taken and lead to a board that shows the sheet
  record Goes (b : Board) (es : List Event) : Type 0 where
    taken : AllTaken p b es
    reached : Reached p (board_after_all p b (map event_bytes es))
    shows : Shows p (board_after_all p b (map event_bytes es)) g

  goes_next : (b : Board) (e : Event) (es : List Event) → (take_of p b (event_bytes e)).number ≡ 0 → Goes (take_of p b (event_bytes e)).board es → Goes b (e ∷ es)
  unfolding AllTaken board_after_all
  goes_next b e es n k = record { taken = (n, k.taken); reached = k.reached; shows = k.shows }

  -- ---- the foreman's points of one minute

  module _ {t : ℕ} {later : List ℕ} (es : List Event) (on : (b : Board) → Stage p g b t [] later → Goes b es) where
    by_foreman : (qs : List ℕ) → Rising qs → ((q : ℕ) → has q qs ≡ true → watched rs q ≡ false) → (b : Board) → Stage p g b t qs later → Goes b (map (alone t) qs ++ es)
    by_foreman [] r f b at = on b at
    by_foreman (q ∷ qs) r f b at =
        let can = point_can_happen p ok passes ω g sheet at f q (has_head q qs) in
        let e = alone t q in
        let real : eqb q no_point ≡ false = not_none q (at.here q (has_head q qs)).0 in
        goes_next b e (map (alone t) qs ++ es) (accepted at e refl can)
        (by_foreman qs (rising_rest q qs r) (λ k h. f k (has_rest k q qs h)) (take_of p b (event_bytes e)).board
        (after at e refl can qs
        (λ k n. let i : k ≡ q = eqb-true k q (only k q real n) in subst (λ (x : ℕ). has x (q ∷ qs) ≡ true) (sym i) (has_head q qs))
        (λ k h n. elim (split k q qs h) [ inl i ↦ clash (sym (is_named k q real i) ∙ n) | inr i ↦ i ])
        (λ k h. (has_rest k q qs h, others k q (rising_first q qs r k h)))))
      where
        not_none : (q : ℕ) → q < points rs → eqb q no_point ≡ false
        not_none q l = ne_eqb q no_point (λ e. omega (arith, known.few))

        only : (k q : ℕ) → eqb q no_point ≡ false → names_of (alone t q) k ≡ true → eqb k q ≡ true
        only k q real n = rw (member_empty k, real) at n

        is_named : (k q : ℕ) → eqb q no_point ≡ false → k ≡ q → names_of (alone t q) k ≡ true
        is_named k q real i = rw (member_empty k, real) (eq-eqb k q i)

        others : (k q : ℕ) → q < k → names_of (alone t q) k ≡ false
        others k q l = rw (member_empty k, ne_eqb k q (λ e. omega arith)) (and-false (not (eqb q no_point)))

  -- ---- the watched points of one minute

  -- all points of minute t
  abbrev all_at : ℕ → List ℕ
  all_at t = passing (λ (q : ℕ). eqb (g q) t) (from 0 (points rs))

  all_in : (t q : ℕ) → q < points rs → g q ≡ t → has q (all_at t) ≡ true
  all_in t q l e = passing_in (λ (q : ℕ). eqb (g q) t) (points rs) 0 q (omega arith) (omega arith) (eq-eqb _ _ e)

  all_out : (t q : ℕ) → has q (all_at t) ≡ true → (q < points rs) × (g q ≡ t)
  all_out t q h = let r = passing_out (λ (q : ℕ). eqb (g q) t) (points rs) 0 q h in (omega (arith, r.1), eqb-true _ _ r.2)

  -- a point of minute t is among the watched ones or the foreman's
  watched_in : (t q : ℕ) → q < points rs → g q ≡ t → watched rs q ≡ true → member (watched_at rs g t) q ≡ true
  watched_in t q l e c =
      set_of_in (λ (q : ℕ). watched rs q && eqb (g q) t) (points rs) 0 q (omega (arith, known.few)) (omega arith) (omega arith) (and_both _ _ c (eq-eqb _ _ e))

  watched_out : (t q : ℕ) → member (watched_at rs g t) q ≡ true → (q < points rs) × (g q ≡ t) × (watched rs q ≡ true)
  watched_out t q m =
      let r = both (watched rs q) _ (set_of_out (λ (q : ℕ). watched rs q && eqb (g q) t) (points rs) 0 q (omega (arith, known.few)) m) in
      (((rules_of rs known).link_points (link_of rs known q r.0)).1, eqb-true _ _ r.1, r.0)

  foremans_in : (t q : ℕ) → q < points rs → g q ≡ t → watched rs q ≡ false → has q (foremans_at rs g t) ≡ true
  foremans_in t q l e c =
      passing_in (λ (q : ℕ). not (watched rs q) && eqb (g q) t) (points rs) 0 q (omega arith) (omega arith) (rw c (eq-eqb _ _ e))

  foremans_out : (t q : ℕ) → has q (foremans_at rs g t) ≡ true → (q < points rs) × (g q ≡ t) × (watched rs q ≡ false)
  foremans_out t q h =
      let r = passing_out (λ (q : ℕ). not (watched rs q) && eqb (g q) t) (points rs) 0 q h in
      let k = both (not (watched rs q)) _ r.2 in
      (omega (arith, r.1), eqb-true _ _ k.1, not-true _ k.0)

  not_watched : (t q : ℕ) → member (watched_at rs g t) q ≡ false → q < points rs → g q ≡ t → watched rs q ≡ false
  not_watched t q m l e = elim (told (watched rs) q) [ inl c ↦ clash (sym (watched_in t q l e c) ∙ m) | inr c ↦ c ]

  foremans_apart : (t q : ℕ) → has q (foremans_at rs g t) ≡ true → member (watched_at rs g t) q ≡ false
  foremans_apart t q h =
      elim (told (member (watched_at rs g t)) q) [ inl m ↦ clash (sym (watched_out t q m).2 ∙ (foremans_out t q h).2) | inr m ↦ m ]

  module _ {t : ℕ} {later : List ℕ} (es : List Event) (on : (b : Board) → Stage p g b t (foremans_at rs g t) later → Goes b es) where
    by_haulage : (b : Board) → Stage p g b t (all_at t) later → Goes b (together t (watched_at rs g t) ++ es)
    by_haulage b at = go (watched_at rs g t) refl (eqb (watched_at rs g t) 0) refl
      where
        go : (set : ℕ) → watched_at rs g t ≡ set → (c : Bool) → eqb set 0 ≡ c → Goes b ((if c then [] else (record { minute = t; point = no_point; set = set } ∷ [])) ++ es)
        go set k true c = on b
            record {
              events = at.events;
              run = at.run;
              done = at.done;
              left = λ q l u. elim (at.left q l u) [
                | inl h ↦
                    let e = (all_out t q h).1 in
                    let none : member (watched_at rs g t) q ≡ false = rw (k, eqb-true set 0 c) (member_empty q) in
                    inl (foremans_in t q l e (not_watched t q none l e))
                | inr h ↦ inr h
              ];
              here = λ q h. at.here q (let r = foremans_out t q h in all_in t q r.0 r.1);
              below = at.below;
            }
        go set k false e =
            let some : 0 < set = let n = eqb-false set 0 e in omega arith in
            let fits : set < 2 ^ most_points = rw (← k) (set_of_fits _ (from 0 (points rs))) in
            let out : (q : ℕ) → member set q ≡ true → (has q (all_at t) ≡ true) × (watched rs q ≡ true) = λ q m.
            let r = watched_out t q (rw k m) in
            (all_in t q r.0 r.1, r.2) in
            let f = first_member set some fits in
            let event : Event = record { minute = t; point = no_point; set = set } in
            let can = set_can_happen p ok passes ω g sheet at set some fits out _ (out _ f.there).0 in
            goes_next b event es (accepted at event refl can) (on (take_of p b (event_bytes event)).board
            (after at event refl can (foremans_at rs g t)
            (λ q n. (out q (sym (or-false (member set q)) ∙ n)).0)
            (λ q h n. let r = all_out t q h in foremans_in t q r.0 r.1 (not_watched t q (rw k (sym (or-false (member set q)) ∙ n)) r.0 r.1))
            (λ q h. let r = foremans_out t q h in (all_in t q r.0 r.1, or-false (member set q) ∙ rw k at (foremans_apart t q h)))))

  -- ---- from minute to minute

  -- the board b before the minutes ms of the sheet: all points whose minutes are not among them are done, and before them
  record Before (b : Board) (ms : List ℕ) : Type 0 where
    events : ℕ
    run : Run p b events
    done : (q : ℕ) → is_done b q ≡ true → (q < points rs) × (minute b q ≡ g q) × Below (g q) ms
    left : (q : ℕ) → q < points rs → is_done b q ≡ false → has (g q) ms ≡ true

  begins : (m : ℕ) (ms : List ℕ) → Rising (m ∷ ms) → (b : Board) → Before b (m ∷ ms) → Stage p g b m (all_at m) ms
  begins m ms r b at =
      record {
        events = at.events;
        run = at.run;
        done = λ q d. let k = at.done q d in (k.0, k.1, omega (arith, k.2 m (has_head m ms)));
        left = λ q l u. elim (split (g q) m ms (at.left q l u)) [ inl e ↦ inl (all_in m q l e) | inr h ↦ inr h ];
        here = λ q h.
            let k = all_out m q h in
            (k.0, k.1, elim (told (is_done b) q) [ inl d ↦ absurd (omega (arith, (at.done q d).2 m (has_head m ms), k.1)) | inr u ↦ u ]);
        below = rising_first m ms r;
      }

  ends : (m : ℕ) (ms : List ℕ) (b : Board) → Stage p g b m [] ms → Before b ms
  ends m ms b at =
      record {
        events = at.events;
        run = at.run;
        done = λ q d. let k = at.done q d in (k.0, k.1, λ i h. omega (arith, k.2, at.below i h));
        left = λ q l u. elim (at.left q l u) [ inl h ↦ clash (sym h) | inr h ↦ h ];
      }

  -- where no minute is left the board shows the sheet
  at_end : (b : Board) → Before b [] → Goes b []
  unfolding AllTaken board_after_all
  at_end b at =
      record {
        taken = tt;
        reached = record { events = at.events; run = at.run };
        shows = record {
          finished = all (finished rs b) refl;
          minutes = λ q l. (at.done q (done q l)).1;
          room = λ q l k. sound.nought q k (not_done q l);
        };
      }
    where
      w : Stands p b at.events
      w = stands p ok passes at.run

      sound : Sound rs b
      sound = sound_means rs b w.good

      done : (q : ℕ) → q < points rs → is_done b q ≡ true
      done q l = elim (told (is_done b) q) [ inl d ↦ d | inr u ↦ clash (sym (at.left q l u)) ]

      not_done : (q : ℕ) → points rs ≤ q → is_done b q ≡ false
      not_done q l = elim (told (is_done b) q) [ inl d ↦ absurd (omega (arith, (at.done q d).0)) | inr u ↦ u ]

      all : (f : Bool) → finished rs b ≡ f → f ≡ true
      all true e = refl
      all false e = let x = one_left rs b w.held sound known.few e in clash (sym (done x.0 x.1) ∙ x.2)

  goes : (ms : List ℕ) → Rising ms → (b : Board) → Before b ms → Goes b (events_over rs g ms)
  unfolding events_over
  goes [] r b at = at_end b at
  goes (m ∷ ms) r b at =
      let one = together m (watched_at rs g m) in
      let each = map (alone m) (foremans_at rs g m) in
      let rest = events_over rs g ms in
      let in-turn : events_over rs g (m ∷ ms) ≡ one ++ (each ++ rest) = append_assoc one each rest in
      rw in-turn
      (by_haulage (each ++ rest)
      (λ c on. by_foreman rest (λ d off. goes ms (rising_rest m ms r) d (ends m ms d off)) (foremans_at rs g m)
      (passing_rising _ (points rs) 0) (λ q h. (foremans_out m q h).2) c on) b (begins m ms r b at))

  start : Before fresh (minutes_of rs g)
  start =
      record {
        events = 0;
        run = runs.start;
        done = λ q d. clash (sym d ∙ member_empty q);
        left = λ q l u. minute_in_lem g (points rs) q l;
      }

  all_go : Goes fresh (events_of rs g)
  all_go = goes (minutes_of rs g) (order_rising _) fresh start

  -- The events of a good sheet are each taken and give exactly its minutes.
  pub good_given : Gives p (events_of (records_of p) g) g
  good_given = record { taken = all_go.taken; shows = all_go.shows }

  -- So every good sheet is let through.
  pub good_through : LetThrough p g
  good_through = record { board = _; reached = all_go.reached; shows = all_go.shows }
