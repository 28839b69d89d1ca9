-- What a board says, in the words of the network: its links, what is open, Low, H, and an event that is taken. Assumes that
-- the records keep the rules of a plan.
use mathlib.Core.Path.{◌≡◌, refl, sym, ◌∙◌}
use mathlib.Core.Logic.{◌⊎◌, inl, inr, by_cases}
use mathlib.Core.Bool.{Bool, true, false, not, ◌&&◌, or-true}
use mathlib.Core.List.{List, [], ◌∷◌}
use Prim.Native.Nat.{ℕ, zero, suc, ◌+◌, ◌-◌, ◌^◌, ◌≤◌, ◌<◌, min}
use native.Mathlib.Omega.{arith}
use native.Mathlib.Decide.{dec_lt}
use lib.Dec.{eqb, ltb}
use lib.ListN.{length, get_or}
use borrow.Author.Tests.{lt-ltb, eqb-true, eq-eqb, not-true}
use Rattle.points.specs.Sets.{from}
use Rattle.points.proofs.Laws.{member_past}
use Rattle.std.specs.Prelude.{if◌then◌else◌}
use Rattle.plan.specs.Limits.{most_points, farthest}
use Rattle.plan.specs.APlan.{Kind, link, ordinary, wait, is, some, points, watched, link_to, blank, gap_of}
use Rattle.records.specs.declared.Record.{Record}
use Rattle.plan.proofs.Accepted.{Accepted, not_a}
use Rattle.board.specs.Boards.{is_done, minute, shortest, longest, running}
use Rattle.board.specs.Windows.{shuts, foremans, is_open, earliest, greatest, low, never, bound, least, high, least_high, H, some_open, all_above}
use Rattle.board.specs.Stuck.{stuck, latest}
use Rattle.board.specs.Events.{event_minute, event_point, event_set, ends_running, board_after}
use Rattle.board.specs.declared.Board.{Board}
use Rattle.board.proofs.Theorems.Each.{clash, both, point_every, greatest_le}
use Rattle.board.proofs.Theorems.Soundness.{HeldBoard, Sound, SoundLink}
use Rattle.board.proofs.Theorems.Marks.{names, named, Marks, after_marks}
use Rattle.board.proofs.Theorems.Taking.{Takes, opened, something_open, fresh_points}
use Rattle.board.proofs.Theorems.Why.{open_is}
use Rattle.network.proofs.States.{State, Change, same, fresh, still}
use Rattle.network.proofs.States as states
use Rattle.network.proofs.Plans.{Running, Open, Shut, by_record, by_wait, FromLow, ToH, May, offered, ends, Event, InTime}
use Rattle.vee.specs.PlanTest.{Has, OrdinaryIn, LinkIn, net_of}
use Rattle.promise.specs.Plays.{least_of}
use Rattle.promise.proofs.Gathering.{least_of_le, least_of_at}
use Rattle.promise.proofs.Nets.{keeps, ordinary_in, wait_in, link_of, joins, shut_from, open_from, rules_of}

-- what a board says: the points done, their minutes and the clock
abbrev pub says_of : Board → State
says_of b = record { done = is_done b; minute = minute b; clock = b.clock }

-- ---- the greatest and the least of what records give

-- no record gives more than the greatest, nor less than the least
greatest_ge : (f : Record → ℕ) (rs : List Record) (i : ℕ) → i < length rs → f (get_or rs i blank) ≤ greatest f rs
unfolding greatest
greatest_ge f [] i h = absurd (omega arith)
greatest_ge f (r ∷ rs) zero h = omega arith
greatest_ge f (r ∷ rs) (suc i) h = omega (arith, greatest_ge f rs i (omega arith))

least_le : (f : Record → ℕ) (rs : List Record) (i : ℕ) → i < length rs → least f rs ≤ f (get_or rs i blank)
unfolding least
least_le f [] i h = absurd (omega arith)
least_le f (r ∷ rs) zero h = omega arith
least_le f (r ∷ rs) (suc i) h = omega (arith, least_le f rs i (omega arith))

-- The least is never, or one of the records gives it.
pub least_at_lem : (f : Record → ℕ) (rs : List Record) → (least f rs ≡ never) ⊎ ((i : ℕ) × (i < length rs) × (f (get_or rs i blank) ≡ least f rs))
unfolding least
least_at_lem f [] = inl refl
least_at_lem f (r ∷ rs) = go (dec_lt (f r) (least f rs)) (least_at_lem f rs)
  where
    go : Dec (f r < least f rs) → (least f rs ≡ never) ⊎ ((i : ℕ) × (i < length rs) × (f (get_or rs i blank) ≡ least f rs))
        → (min (f r) (least f rs) ≡ never) ⊎ ((i : ℕ) × (i < length (r ∷ rs)) × (f (get_or (r ∷ rs) i blank) ≡ min (f r) (least f rs)))
    go (yes l) w = inr (0, omega arith, omega arith)
    go (no l) (inl e) = inl (omega arith)
    go (no l) (inr w) = inr (suc w.0, omega (arith, w.1), omega (arith, w.2))

module _ (rs : List Record) (b : Board) where
  -- H is the least High of the open points
  least_high_lem : (qs : List ℕ) → least_high rs b qs ≡ least_of (is_open rs b) (high rs b) qs
  unfolding least_high least_of
  least_high_lem [] = refl
  least_high_lem (q ∷ qs) = rw (least_high_lem qs)

  -- No open point's High is below H.
  pub H_le : (q : ℕ) → q < most_points → is_open rs b q ≡ true → H rs b ≤ high rs b q
  H_le q l o =
      rw (least_high_lem (from 0 most_points)) (least_of_le (is_open rs b) (high rs b) most_points 0 q (omega arith) (omega arith) o)

  -- There is no H, or it is the High of an open point.
  pub H_at : (H rs b ≡ never) ⊎ ((q : ℕ) × (is_open rs b q ≡ true) × (high rs b q ≡ H rs b))
  H_at = rw (least_high_lem (from 0 most_points)) (least_of_at (is_open rs b) (high rs b) (from 0 most_points))

  -- Where the board is not stuck and something is open, H is not below zero.
  pub H_up : stuck rs b ≡ false → some_open rs b ≡ true → farthest ≤ H rs b
  H_up e o = go (dec_lt (H rs b) farthest)
    where
      all : H rs b < farthest → all_above rs b ≡ true
      all l = point_every _ (λ q k. rw (lt-ltb (H rs b) (low rs b q + farthest) (omega arith)) (or-true (not (is_open rs b q))))

      go : Dec (H rs b < farthest) → farthest ≤ H rs b
      go (yes l) = let f : all_above rs b ≡ false = rw o at e in clash (sym (all l) ∙ f)
      go (no l) = omega arith

open_not_shut : {N : _} {s : State} {q : ℕ} → Open N s q → Shut N s q → ⊥
open_not_shut o (by_record r p y) = states.clash (o.records r p) y
open_not_shut o (by_wait l w a) = states.clash (o.waits l w) a

module _ (rs : List Record) (ok : Accepted rs) (b : Board) where
  -- The links of a sound board are in time.
  pub in_time_of : Sound rs b → InTime (net_of rs) (says_of b)
  in_time_of w =
      record {
        started = λ l c. (rw (l.from, l.to) at (at l).ended c).0;
        ended = λ l c. let e = rw (l.from, l.to, l.least, l.most) at (at l).ended c in (e.1, e.2);
        running = λ r. let l = r.link in rw (l.from, l.to, l.most) at (at l).runs r.started r.undone;
      }
    where
      at : {A x y C : ℕ} (l : LinkIn rs A x y C) → SoundLink b l.what
      at l = rw l.has.here at (w.links l.has.place l.has.listed (rw l.has.here l.has.kind))

  -- A link that the board takes for running is running.
  pub running_of : (C : ℕ) → watched rs C ≡ true → running b (link_to rs C) ≡ true
      → Running (net_of rs) (says_of b) (link_to rs C).a (shortest (link_to rs C)) (longest (link_to rs C)) C
  running_of C c e =
      let l = link_to rs C in
      let g = both (is_done b l.a) (not (is_done b l.b)) (both (is link l) _ e).1 in
      record { link = link_of rs ok C c; started = g.0; undone = rw (ok.ends C c).1 at (not-true (is_done b l.b) g.1) }

  -- A point that ends a running link is in the plan, and not done.
  pub ends_in_plan : (C : ℕ) → ends_running rs b C ≡ true → (C < points rs) × (is_done b C ≡ false)
  ends_in_plan C h =
      let k = both (watched rs C) _ h in
      let r = running_of C k.0 k.1 in
      (((rules_of rs ok).link_points r.link).1, r.undone)

  -- A link that is running is taken for running by the board.
  pub is_running : {A x y C : ℕ} → Running (net_of rs) (says_of b) A x y C → running b (link_to rs C) ≡ true
  is_running {C = C} k =
      let j = joins rs ok k.link in
      let e = ok.ends C j.watched in
      rw (e.0, j.from, k.started, e.1, k.undone)

  -- ---- open

  -- A point that the board takes for open is open, and back.
  pub open_of : (q : ℕ) → is_open rs b q ≡ true → Open (net_of rs) (says_of b) q
  open_of q e =
      let o = opened rs b q e in
      open_from rs ok (says_of b) q (not-true _ (both (foremans rs b q) _ (sym (open_is rs b q) ∙ e)).1) (λ A x y l. clash (sym (joins rs ok l).watched ∙ o.1)) o.2

  pub is_open_lem : (q : ℕ) → q < points rs → Open (net_of rs) (says_of b) q → is_open rs b q ≡ true
  is_open_lem q l o = open_is rs b q ∙ go (watched rs q) (some (shuts rs b q) rs) refl refl
    where
      go : (c s : Bool) → watched rs q ≡ c → some (shuts rs b q) rs ≡ s → ((ltb q (points rs) && (not c && not (is_done b q))) && not s) ≡ true
      go true s e f = absurd (o.foremans _ _ _ (link_of rs ok q e))
      go false true e f = absurd (open_not_shut o (shut_from rs ok (says_of b) q f))
      go false false e f = rw (lt-ltb q (points rs) l, o.undone)

  -- ---- Low

  module _ (q t : ℕ) where
    -- A minute that is not before Low meets all that Low is made of, and back.
    pub low_of : low rs b q ≤ t → FromLow (net_of rs) (says_of b) t q
    low_of h =
        record {
          now = omega arith;
          records = λ {u} {d} {Y} r y.
              let w = r.what in
              let e : earliest rs b q w ≡ minute b Y + d - u = rw (eq-eqb _ _ r.from, r.has.kind, r.to, y, r.up, r.down) in
              omega (arith, at r.has, e);
          waits = λ {A} {x} {y} {C} {w} k v.
              let r = v.what in
              let j = joins rs ok k.link in
              let n = not_a r wait ordinary (λ e. omega arith) v.has.kind in
              let e : earliest rs b q r ≡ minute b A + w = rw (eq-eqb _ _ v.holds, n, v.has.kind, v.until, is_running k, j.from, v.long) in
              omega (arith, at v.has, e);
        }
      where
        at : {k : Kind} {r : Record} → Has rs k r → earliest rs b q r ≤ t
        at v = omega (arith, rw v.here at (greatest_ge (earliest rs b q) rs v.place v.listed))

    pub low_from : FromLow (net_of rs) (says_of b) t q → low rs b q ≤ t
    low_from f = omega (arith, f.now, greatest_le (earliest rs b q) t rs at)
      where
        at : (i : ℕ) → i < length rs → earliest rs b q (get_or rs i blank) ≤ t
        at i h = go (eqb r.a q && (is ordinary r && is_done b r.b)) (eqb r.a q && (is wait r && running b l)) refl refl
          where
            r : Record
            r = get_or rs i blank

            l : Record
            l = link_to rs r.b

            go : (x y : Bool) → (eqb r.a q && (is ordinary r && is_done b r.b)) ≡ x → (eqb r.a q && (is wait r && running b l)) ≡ y
                → (if x then minute b r.b + (gap_of r.first).down - (gap_of r.first).up else (if y then minute b l.a + (gap_of r.first).up else 0)) ≤ t
            go true y e g =
                let e1 = both (eqb r.a q) _ e in
                let e2 = both (is ordinary r) _ e1.1 in
                omega (arith, f.records (rw (eqb-true r.a q e1.0) at (ordinary_in rs ok (record { place = i; listed = h; here = refl; kind = e2.0 }))) e2.1)
            go false true e g =
                let g1 = both (eqb r.a q) _ g in
                let g2 = both (is wait r) _ g1.1 in
                let has : Has rs wait r = record { place = i; listed = h; here = refl; kind = g2.0 } in
                let c = (keeps rs ok has).wait_watched g2.0 in
                omega (arith, f.waits (running_of r.b c g2.1) (rw (eqb-true r.a q g1.0) at (wait_in rs ok has)))
            go false false e g = omega arith

  -- ---- H

  -- An ordinary record from a done point bounds the High of the point that it leads to.
  pub high_at : {X u d q : ℕ} → OrdinaryIn rs X u d q → is_done b X ≡ true → high rs b q ≤ minute b X + farthest + u - d
  high_at {X} {u} {d} {q} r x =
      let e : bound b q r.what ≡ minute b X + farthest + u - d = rw (eq-eqb _ _ r.to, r.has.kind, r.from, x, r.up, r.down) in
      omega (arith, rw r.has.here at (least_le (bound b q) rs r.has.place r.has.listed), e)

  -- There is no High, or a record from a done point gives it.
  abbrev pub HighFrom : ℕ → Type 0
  HighFrom q = (high rs b q ≡ never) ⊎ ((X u d : ℕ) × OrdinaryIn rs X u d q × (is_done b X ≡ true) × (minute b X + farthest + u - d ≡ high rs b q))

  pub high_from : (q : ℕ) → HighFrom q
  high_from q = elim (least_at_lem (bound b q) rs) [ inl e ↦ inl e | inr (i, h, e) ↦ go i h e ]
    where
      go : (i : ℕ) → i < length rs → bound b q (get_or rs i blank) ≡ high rs b q → HighFrom q
      go i h e = this (eqb r.b q && (is ordinary r && is_done b r.a)) refl e
        where
          r : Record
          r = get_or rs i blank

          this : (t : Bool) → (eqb r.b q && (is ordinary r && is_done b r.a)) ≡ t
              → (if t then minute b r.a + farthest + (gap_of r.first).up - (gap_of r.first).down else never) ≡ high rs b q
              → HighFrom q
          this true t f =
              let t1 = both (eqb r.b q) _ t in
              let t2 = both (is ordinary r) _ t1.1 in
              let in_plan = rw (eqb-true r.b q t1.0) at (ordinary_in rs ok (record { place = i; listed = h; here = refl; kind = t2.0 })) in
              inr (r.a, (gap_of r.first).up, (gap_of r.first).down, in_plan, t2.1, f)
          this false t f = inl (sym f)

  -- A minute that is not past the latest is not past H.
  pub to_H : (t : ℕ) → stuck rs b ≡ false → (some_open rs b ≡ true → t ≤ latest rs b) → ToH (net_of rs) (says_of b) t
  to_H t free h =
      record {
        high = λ {X} {u} {d} {Z} x r o.
            let inside = ((rules_of rs ok).record_points r).1 in
            let small : Z < most_points = omega (arith, inside, ok.few) in
            let can = is_open_lem Z inside o in
            let some = something_open rs b Z small can in
            omega (arith, h some, H_up rs b free some, H_le rs b Z small can, high_at r x);
      }

  -- ---- an event that is taken

  module _ (held : HeldBoard b) (w : Sound rs b) (s : List ℕ) (fits : event_set s < 2 ^ 32) (t : Takes rs b s) where
    marks : Marks b s (board_after b s)
    marks = after_marks b held s (λ h. omega (arith, t.placed h, ok.few))

    -- why a point of the event may be done
    may : (q : ℕ) → q < most_points → names s q ≡ true → May (net_of rs) (says_of b) (event_minute s) q
    may q l n =
        elim (named s q n) [
          | inl m ↦
              let e = t.ends q l m in
              ends (running_of q e.0 e.1)
          | inr p ↦ offered (rw p.1 (open_of (event_point s) (t.opens p.0))) (rw p.1 (low_of (event_point s) (event_minute s) (t.from_low p.0)))
        ]

    change : (q : ℕ) → Change (May (net_of rs) (says_of b) (event_minute s)) (says_of b) (says_of (board_after b s)) (event_minute s) q
    change q = by_cases (dec_lt q most_points) (λ l. go l (is_done b q) (names s q) refl refl) (λ l. still (member_past b.done q held.done (omega arith)) (member_past (board_after b s).done q marks.held.done (omega arith)))
      where
        go : q < most_points → (d n : Bool) → is_done b q ≡ d → names s q ≡ n → Change (May (net_of rs) (says_of b) (event_minute s)) (says_of b) (says_of (board_after b s)) (event_minute s) q
        go l true true e f = clash (sym e ∙ fresh_points rs ok b held w s fits t q l f)
        go l true false e f = same e (rw (marks.done q l, e)) (marks.there q l f)
        go l false true e f = fresh e (rw (marks.done q l, e, f)) (marks.here q l f) (may q l f)
        go l false false e f = still e (rw (marks.done q l, e, f))

    -- An event that is taken is one that the network allows.
    pub event_of_lem : Event (net_of rs) (says_of b) (event_minute s) (says_of (board_after b s))
    event_of_lem =
        record { now = t.later; high = to_H (event_minute s) t.unstuck t.in_latest; points = change; clock = marks.clock }
