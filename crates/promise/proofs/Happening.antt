-- All that can happen next at a board is accepted. Assumes that the plan passes the check, that the board is sound, and
-- that it is not stuck unless it is finished.
use mathlib.Core.Path.{◌≡◌, refl, sym, ◌∙◌}
use mathlib.Core.Logic.{inl, inr}
use mathlib.Core.Bool.{Bool, true, false, not, ◌&&◌, ◌||◌}
use mathlib.Core.List.{List, []}
use Prim.Native.Nat.{ℕ, ◌+◌, ◌^◌, ◌≤◌, ◌<◌}
use native.Mathlib.Omega.{arith}
use lib.Dec.{eqb, ltb, leb}
use lib.ListN.{length, get_or}
use borrow.Author.Tests.{lt-ltb, le-ltb, le-leb, eqb-true, eq-eqb}
use Rattle.points.specs.Sets.{member, members_of, below_of, subset_of, every, first_of}
use Rattle.points.proofs.Laws.{First, first_member, count_le}
use Rattle.plan.specs.Limits.{farthest, record_bytes}
use Rattle.plan.specs.APlan.{link, is, points, watched, link_to, blank, records_of}
use Rattle.plan.specs.Held.{All, IsByte}
use Rattle.plan.specs.PlanFile.{word_at}
use Rattle.plan.specs.ReplyNumbers.{check_of}
use Rattle.records.specs.declared.Record.{Record}
use Rattle.plan.specs.declared.Plan.{Plan}
use Rattle.plan.proofs.Words.{word_back}
use Rattle.plan.proofs.Accepted.{Accepted, accepted_plan}
use Rattle.board.specs.Boards.{is_done, minute, longest, running, each, sound}
use Rattle.board.specs.Windows.{is_open, low, some_open}
use Rattle.board.specs.Stuck.{finished, stuck, latest}
use Rattle.replies.specs.Replies.{outcome_of, reply_of}
use Rattle.board.specs.Events.{event_minute, event_point, event_set, no_point, well_formed, ends_running, in_time, not_late, event_number}
use Rattle.board.specs.declared.Board.{Board}
use Rattle.replies.specs.declared.Outcome.TheVariants.{Offers}
use Rattle.board.proofs.Theorems.Each.{clash, both, and_both, as_unless, member_every, below_subset, at_each}
use Rattle.board.proofs.Theorems.Soundness.{HeldBoard, Sound, sound_means}
use Rattle.board.proofs.Theorems.Links.{link_at, link_to_lem}
use Rattle.board.proofs.Theorems.Taking.{opened, something_open}
use Rattle.replies.proofs.Offered as offers
use Rattle.promise.specs.Plays.{Event, event_bytes, CanHappen}
use Rattle.promise.proofs.Boards.{ends_in_plan}
use Rattle.promise.proofs.Standing.{all_done}
use Rattle.promise.proofs.Executor.{outcome_is}

-- ---- the bytes of an event

-- the bytes s are those of the event e
pub record Reads (s : List ℕ) (e : Event) : Type 0 where
  pub minute : event_minute s ≡ e.minute
  pub point : event_point s ≡ e.point
  pub set : event_set s ≡ e.set
  pub long : length s ≡ record_bytes
  pub zeros : (get_or s 5 0 ≡ 0) × (get_or s 6 0 ≡ 0) × (get_or s 7 0 ≡ 0) × (word_at s 12 ≡ 0)

pub reads : (e : Event) → e.minute < 2 ^ 32 → e.set < 2 ^ 32 → Reads (event_bytes e) e
reads e m s =
    record { minute = word_back e.minute m []; point = refl; set = word_back e.set s []; long = refl; zeros = (refl, refl, refl, refl) }

are_bytes : (e : Event) → e.point < 256 → All IsByte (event_bytes e)
are_bytes e h = omega arith

-- the event s gets none of the numbers 21 to 30
module _ (rs : List Record) (b : Board) (s : List ℕ) where
  number_none : finished rs b ≡ false → stuck rs b ≡ false → well_formed rs s ≡ true → ltb (event_minute s) b.clock ≡ false
      → every (ends_running rs b) (members_of (event_set s)) ≡ true → every (in_time rs b (event_minute s)) (members_of (event_set s)) ≡ true
      → each (not_late b (event_minute s) (event_set s)) rs ≡ true → (eqb (event_point s) no_point || is_open rs b (event_point s)) ≡ true
      → (eqb (event_point s) no_point || leb (low rs b (event_point s)) (event_minute s)) ≡ true
      → (some_open rs b && ltb (latest rs b) (event_minute s)) ≡ false → event_number rs b s ≡ 0
  unfolding event_number
  number_none n21 n22 n23 n24 n25 n26 n27 n28 n29 n30 = rw (n21, n22, n23, n24, n25, n26, n27, n28, n29, n30)

module _ (p : Plan) (ok : (check_of p).number ≡ 0) (b : Board) (held : HeldBoard b) (good : sound (records_of p) b ≡ true) (free : finished (records_of p) b ≡ false → stuck (records_of p) b ≡ false) (e : Event) (m : CanHappen p b e) where
  abbrev rs : List Record
  rs = records_of p

  known : Accepted rs
  known = accepted_plan p ok

  w : Sound rs b
  w = sound_means rs b good

  -- the foreman's point is open, and not before its Low
  open_point : eqb e.point no_point ≡ false → (is_open rs b e.point ≡ true) × (low rs b e.point ≤ e.minute)
  open_point f =
      elim m.offered [
        | inl n ↦ clash (sym (eq-eqb _ _ n) ∙ f)
        | inr o ↦ let k = offers.offered rs b e.point o.0 o.1 in (k.0, omega (arith, k.2, o.2))
      ]

  first_ended : eqb e.point no_point ≡ true → First e.set (first_of e.set)
  first_ended f = first_member e.set (m.some (eqb-true _ _ f)) m.small

  left : (X : ℕ) × (X < points rs) × (is_done b X ≡ false)
  left = go (eqb e.point no_point) refl
    where
      go : (c : Bool) → eqb e.point no_point ≡ c → (X : ℕ) × (X < points rs) × (is_done b X ≡ false)
      go true f = let k = first_ended f in let i = ends_in_plan rs known b _ (m.ended _ k.small k.there).0 in (first_of e.set, i.0, i.1)
      go false f = let o = opened rs b e.point (open_point f).0 in (e.point, o.0, o.2)

  unfinished : finished rs b ≡ false
  unfinished = go (finished rs b) refl
    where
      go : (f : Bool) → finished rs b ≡ f → f ≡ false
      go true f = clash (sym (all_done rs b known.few f left.0 left.1) ∙ left.2)
      go false f = refl

  is_offer_lem : some_open rs b ≡ true → (reply_of p b).outcome ≡ Offers
  unfolding outcome_of
  is_offer_lem o = outcome_is p ok b good ∙ rw (unfinished, free unfinished, o)

  near : e.minute ≤ b.clock + farthest
  near = go (eqb e.point no_point) refl
    where
      go : (c : Bool) → eqb e.point no_point ≡ c → e.minute ≤ b.clock + farthest
      go true f =
          let k = first_ended f in
          let n = m.ended _ k.small k.there in
          let l = link_to_lem rs known (first_of e.set) (both (watched rs (first_of e.set)) _ n.0).0 in
          omega (arith, n.2, l.long, w.past _ l.from)
      go false f =
          let o = (open_point f).0 in
          omega (arith, m.in_latest (is_offer_lem (something_open rs b e.point (omega (arith, (opened rs b e.point o).0, known.few)) o)))

  fits : e.minute < 2 ^ 32
  fits = omega (arith, near, w.few, count_le b.done held.done)

  module _ (s : List ℕ) (r : Reads s e) where
    formed : well_formed rs s ≡ true
    formed =
        let z = r.zeros in
        let set : subset_of e.set (below_of (points rs)) ≡ true = below_subset e.set (points rs) (λ C l k. (ends_in_plan rs known b C (m.ended C l k).0).0) in
        rw (r.long, z.0, z.1, z.2, z.3, r.point, r.set, set) (go (eqb e.point no_point) (eqb e.set 0) refl refl)
      where
        go : (c d : Bool) → eqb e.point no_point ≡ c → eqb e.set 0 ≡ d → ((c || ltb e.point (points rs)) && not (c && d)) ≡ true
        go true true f g = absurd (omega (arith, m.some (eqb-true _ _ f), eqb-true e.set 0 g))
        go true false f g = refl
        go false d f g = and_both _ _ (lt-ltb _ _ (opened rs b e.point (open_point f).0).0) refl

    number : event_number rs b s ≡ 0
    number = number_none rs b s unfinished (free unfinished) formed
        (rw r.minute (le-ltb e.minute b.clock m.later))
        (rw r.set (member_every (ends_running rs b) e.set (λ C l k. (m.ended C l k).0)))
        (rw (r.set, r.minute) (member_every (in_time rs b e.minute) e.set (λ C l k. let n = m.ended C l k in and_both _ _ (le-leb _ _ n.1) (le-leb _ _ n.2))))
        (rw (r.set, r.minute) (at_each (not_late b e.minute e.set) rs late))
        (rw r.point (go (eqb e.point no_point) refl).0)
        (rw (r.point, r.minute) (go (eqb e.point no_point) refl).1)
        (rw r.minute (past (some_open rs b) refl))
      where
        late : (i : ℕ) → i < length rs → not_late b e.minute e.set (get_or rs i blank) ≡ true
        late i h = as_unless (running b l) _ (λ k.
            let t = link_at rs known i h (both (is link l) _ k).0 in
            let n : ends_running rs b l.b ≡ true = rw (t.watched, t.alone) k in
            in_time_lem t.alone n (member e.set l.b) refl)
          where
            l : Record
            l = get_or rs i blank

            in_time_lem : link_to rs l.b ≡ l → ends_running rs b l.b ≡ true → (c : Bool) → member e.set l.b ≡ c → (c || leb e.minute (minute b l.a + longest l)) ≡ true
            in_time_lem t n true f = refl
            in_time_lem t n false f = le-leb _ _ (rw t at (m.others l.b n f))

        go : (c : Bool) → eqb e.point no_point ≡ c → ((c || is_open rs b e.point) ≡ true) × ((c || leb (low rs b e.point) e.minute) ≡ true)
        go true f = (refl, refl)
        go false f = let o = open_point f in (o.0, le-leb _ _ o.1)

        past : (o : Bool) → some_open rs b ≡ o → (o && ltb (latest rs b) e.minute) ≡ false
        past true o = le-ltb (latest rs b) e.minute (m.in_latest (is_offer_lem o))
        past false o = refl

  -- Its sixteen bytes stand for it.
  pub happens_reads : Reads (event_bytes e) e
  happens_reads = reads e fits m.small

  -- What can happen next gets none of the numbers.
  pub happens : event_number (records_of p) b (event_bytes e) ≡ 0
  happens = number (event_bytes e) happens_reads

  -- Its bytes are bytes.
  pub happens_bytes : All IsByte (event_bytes e)
  happens_bytes = are_bytes e (go (eqb e.point no_point) refl)
    where
      go : (c : Bool) → eqb e.point no_point ≡ c → e.point < 256
      go true f = omega (arith, eqb-true e.point no_point f)
      go false f = omega (arith, (opened rs b e.point (open_point f).0).0, known.few)
