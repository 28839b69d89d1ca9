-- Events that are taken: what their numbers say, and that the board after one is sound again, with more points done.
-- Assumes that the plan passes the check, that the board is sound and has its room, and that the event's set is one of
-- 32 bits, as the four bytes of it are.
use mathlib.Core.Path.{◌≡◌, refl, sym, ◌∙◌}
use mathlib.Core.Logic.{◌⊎◌, inl, inr}
use mathlib.Core.Bool.{Bool, true, false, not, ◌&&◌, ◌||◌, or-true}
use mathlib.Core.List.{List}
use Prim.Native.Nat.{ℕ, ◌+◌, ◌^◌, ◌≤◌, ◌<◌}
use native.Mathlib.Omega.{arith}
use lib.Dec.{eqb, ltb, leb}
use lib.ListN.{length, get_or}
use borrow.Author.Tests.{ltb-true, ltb-false, leb-true, eqb-false, not-true, not-false}
use Rattle.points.specs.Sets.{member, members_of, below_of, subset_of, count_of, from, every, first_of}
use Rattle.points.proofs.Laws.{first_member}
use Rattle.std.specs.Prelude.{if◌then◌else◌}
use Rattle.plan.specs.Limits.{most_points, farthest, record_bytes}
use Rattle.plan.specs.APlan.{link, is, points, watched, link_to, blank, records_of}
use Rattle.plan.specs.ReplyNumbers.{check_of}
use Rattle.records.specs.declared.Record.{Record}
use Rattle.plan.specs.declared.Plan.{Plan}
use Rattle.plan.proofs.Entries.{past}
use Rattle.plan.proofs.Accepted.{Accepted, accepted_plan}
use Rattle.board.specs.Boards.{is_done, minute, shortest, longest, running, each, sound}
use Rattle.board.specs.Calls.{call, last_call, next_call}
use Rattle.calls.proofs.Laws.{numbers_step}
use Rattle.board.specs.Windows.{is_open, foremans, low, some_open}
use Rattle.board.specs.Stuck.{finished, stuck, latest}
use Rattle.board.specs.Events.{event_minute, event_point, event_set, no_point, well_formed, ends_running, in_time, not_late, event_number, board_after}
use Rattle.board.specs.declared.Board.{Board}
use Rattle.board.proofs.Theorems.Each.{clash, both, either, unless, every_point, every_member, each_at, subset_below}
use Rattle.board.proofs.Theorems.Soundness.{HeldBoard, Sound, SoundLink, NumbersOf, sound_means, sound_from, largest_call, to_largest}
use Rattle.board.proofs.Theorems.Links.{LinkOf, link_at, link_to_lem}
use Rattle.board.proofs.Theorems.Marks.{names, named, named_set, named_point, Marks, after_marks}

-- ---- what the numbers say

abbrev pub HasPoint : List ℕ → Type 0
HasPoint s = eqb (event_point s) no_point ≡ false

-- the event s gets none of the numbers 21 to 30
pub record Takes (rs : List Record) (b : Board) (s : List ℕ) : Type 0 where
  pub unfinished : finished rs b ≡ false
  pub unstuck : stuck rs b ≡ false
  -- every point is in the plan, and there is at least one
  pub placed : HasPoint s → event_point s < points rs
  pub inside : (c : ℕ) → c < most_points → member (event_set s) c ≡ true → c < points rs
  pub some : eqb (event_point s) no_point ≡ true → 0 < event_set s
  pub later : b.clock ≤ event_minute s
  -- each in the set ends a running link, within its x to y
  pub ends : (c : ℕ) → c < most_points → member (event_set s) c ≡ true → (watched rs c ≡ true) × (running b (link_to rs c) ≡ true)
  pub timely : (c : ℕ) → c < most_points → member (event_set s) c ≡ true
      → (minute b (link_to rs c).a + shortest (link_to rs c) ≤ event_minute s) × (event_minute s ≤ minute b (link_to rs c).a + longest (link_to rs c))
  -- no other running link has run out
  pub others : (i : ℕ) → i < length rs → not_late b (event_minute s) (event_set s) (get_or rs i blank) ≡ true
  -- the foreman's point is open, and not before its Low
  pub opens : HasPoint s → is_open rs b (event_point s) ≡ true
  pub from_low : HasPoint s → low rs b (event_point s) ≤ event_minute s
  pub in_latest : some_open rs b ≡ true → event_minute s ≤ latest rs b

module _ (rs : List Record) (b : Board) (s : List ℕ) where
  -- one number of the chain, passed
  went : (test : Bool) (n x : ℕ) → (n ≡ 0 → ⊥) → (if test then n else x) ≡ 0 → (test ≡ false) × (x ≡ 0)
  went test n x h e = past (λ (k : ℕ). k) test n x h e

  not_both : (x y : Bool) → not (x && y) ≡ true → x ≡ true → y ≡ false
  not_both true y e h = not-true y e
  not_both false y e h = clash (sym h)

  or_second : (x y : Bool) → (x || y) ≡ true → x ≡ false → y ≡ true
  or_second true y e h = clash h
  or_second false y e h = e

  and_second : (x y : Bool) → (x && y) ≡ false → x ≡ true → y ≡ false
  and_second true y e h = e
  and_second false y e h = clash (sym h)

  -- An event whose number is 0 passes all the tests.
  pub takes : event_number rs b s ≡ 0 → Takes rs b s
  unfolding event_number
  takes e =
      let t = event_minute s in
      let n21 = went (finished rs b) 21 _ (omega arith) e in
      let n22 = went (stuck rs b) 22 _ (omega arith) n21.1 in
      let n23 = went (not (well_formed rs s)) 23 _ (omega arith) n22.1 in
      let n24 = went (ltb t b.clock) 24 _ (omega arith) n23.1 in
      let n25 = went (not (every (ends_running rs b) (members_of (event_set s)))) 25 _ (omega arith) n24.1 in
      let n26 = went (not (every (in_time rs b t) (members_of (event_set s)))) 26 _ (omega arith) n25.1 in
      let n27 = went (not (each (not_late b t (event_set s)) rs)) 27 _ (omega arith) n26.1 in
      let n28 = went (not (eqb (event_point s) no_point || is_open rs b (event_point s))) 28 _ (omega arith) n27.1 in
      let n29 = went (not (eqb (event_point s) no_point || leb (low rs b (event_point s)) t)) 29 _ (omega arith) n28.1 in
      let n30 = went (some_open rs b && ltb (latest rs b) t) 30 _ (omega arith) n29.1 in
      let long = both (eqb (length s) record_bytes) _ (not-false _ n23.0) in
      let zero = both (eqb (get_or s 5 0) 0 && _) _ long.1 in
      let point = both (eqb (event_point s) no_point || ltb (event_point s) (points rs)) _ zero.1 in
      let set = both (subset_of (event_set s) (below_of (points rs))) _ point.1 in
      record {
        unfinished = n21.0;
        unstuck = n22.0;
        placed = λ h. ltb-true _ _ (or_second _ _ point.0 h);
        inside = subset_below (event_set s) (points rs) set.0;
        some = λ h. let n = eqb-false (event_set s) 0 (not_both _ _ set.1 h) in omega arith;
        later = ltb-false t b.clock n24.0;
        ends = λ c l m. both (watched rs c) _ (every_member (ends_running rs b) (event_set s) (not-false _ n25.0) c l m);
        timely = λ c l m.
            let r = both (leb (minute b (link_to rs c).a + shortest (link_to rs c)) t) _ (every_member (in_time rs b t) (event_set s) (not-false _ n26.0) c l m) in
            (leb-true _ _ r.0, leb-true _ _ r.1);
        others = each_at (not_late b t (event_set s)) rs (not-false _ n27.0);
        opens = or_second _ _ (not-false _ n28.0);
        from_low = λ h. leb-true _ _ (or_second _ _ (not-false _ n29.0) h);
        in_latest = λ h. ltb-false _ _ (and_second _ _ n30.0 h);
      }

-- ---- an open point

-- an open point is a foreman's point not yet done
pub opened : (rs : List Record) (b : Board) (q : ℕ) → is_open rs b q ≡ true → (q < points rs) × (watched rs q ≡ false) × (is_done b q ≡ false)
opened rs b q e =
    let f = both (ltb q (points rs)) _ (both (foremans rs b q) _ e).0 in
    let g = both (not (watched rs q)) _ f.1 in
    (ltb-true _ _ f.0, not-true _ g.0, not-true _ g.1)

-- where a point is open, something is
pub something_open : (rs : List Record) (b : Board) (q : ℕ) → q < most_points → is_open rs b q ≡ true → some_open rs b ≡ true
something_open rs b q l e = go (every (λ (p : ℕ). not (is_open rs b p)) (from 0 most_points)) refl
  where
    go : (a : Bool) → every (λ (p : ℕ). not (is_open rs b p)) (from 0 most_points) ≡ a → not a ≡ true
    go true f = clash (sym e ∙ not-true _ (every_point (λ (p : ℕ). not (is_open rs b p)) f q l))
    go false f = refl

-- ---- an event that is taken

module _ (rs : List Record) (ok : Accepted rs) (b : Board) (held : HeldBoard b) (w : Sound rs b) (s : List ℕ) (fits : event_set s < 2 ^ 32) (t : Takes rs b s) where
  abbrev next : Board
  next = board_after b s

  -- the link that a point of the set ends
  ended : (c : ℕ) → c < most_points → member (event_set s) c ≡ true → LinkOf rs (link_to rs c) × (is_done b (link_to rs c).a ≡ true) × (is_done b c ≡ false)
  ended c l m =
      let e = t.ends c l m in
      let r = both (is_done b (link_to rs c).a) _ (both (is link (link_to rs c)) _ e.1).1 in
      (link_to_lem rs ok c e.0, r.0, rw (ok.ends c e.0).1 at (not-true (is_done b (link_to rs c).b) r.1))

  -- The points of an event are not done before it.
  pub fresh_points : (q : ℕ) → q < most_points → names s q ≡ true → is_done b q ≡ false
  fresh_points q l n = elim (named s q n) [ inl m ↦ (ended q l m).2 | inr p ↦ rw p.1 (opened rs b (event_point s) (t.opens p.0)).2 ]

  marks : Marks b s next
  marks = after_marks b held s (λ h. omega (arith, t.placed h, ok.few))

  -- what is done before an event is none of its points
  unnamed : (q : ℕ) → q < most_points → is_done b q ≡ true → names s q ≡ false
  unnamed q l d = go (names s q) refl
    where
      go : (a : Bool) → names s q ≡ a → a ≡ false
      go true n = clash (sym d ∙ fresh_points q l n)
      go false n = refl

  -- one of the event's points, and why its minute is near the clock
  record Chosen (q : ℕ) : Type 0 where
    small : q < most_points
    here : names s q ≡ true
    near : event_minute s ≤ b.clock + farthest

  chosen : (q : ℕ) × Chosen q
  chosen = go (eqb (event_point s) no_point) refl
    where
      go : (a : Bool) → eqb (event_point s) no_point ≡ a → (q : ℕ) × Chosen q
      go true e =
          let f = first_member (event_set s) (t.some e) fits in
          let c = first_of (event_set s) in
          let l = (ended c f.small f.there).0 in (
            c,
            record {
              small = f.small;
              here = named_set s c f.there;
              near = omega (arith, (t.timely c f.small f.there).1, w.past (link_to rs c).a l.from, l.long);
            },
          )
      go false e =
          let small : event_point s < most_points = omega (arith, t.placed e, ok.few) in (
            event_point s,
            record {
              small = small;
              here = named_point s e;
              near = omega (arith, t.in_latest (something_open rs b (event_point s) small (t.opens e)));
            },
          )

  -- An event finishes at least one point.
  more : count_of b.done < count_of next.done
  more = let c = chosen.1 in marks.more chosen.0 c.small c.here (fresh_points chosen.0 c.small c.here)

  -- An event has at most one foreman's point.
  one_foreman_lem : (p q : ℕ) → p < most_points → q < most_points → names s p ≡ true → names s q ≡ true → watched rs p ≡ false → watched rs q ≡ false → p ≡ q
  one_foreman_lem p q l m n k u v =
      elim (named s p n) [
        | inl x ↦ clash (sym (t.ends p l x).0 ∙ u)
        | inr x ↦ elim (named s q k) [ inl y ↦ clash (sym (t.ends q m y).0 ∙ v) | inr y ↦ x.1 ∙ sym y.1 ]
      ]

  -- The numbers after the event: its points have the next one.
  numbers_after : NumbersOf rs next (next_call b)
  numbers_after =
      numbers_step (watched rs) (names s) b.done b.minutes b.calls (event_minute s) (last_call b) next.done next.minutes next.calls w.numbers
      record {
        some = (chosen.0, chosen.1.small, chosen.1.here);
        waiting = fresh_points;
        late = λ p l d. omega (arith, w.past p l, t.later);
        lone = one_foreman_lem;
        marked = marks.done;
        minute = marks.here;
        call = marks.call_here;
        other_minute = marks.there;
        other_call = marks.call_there;
      }

  -- a link after the event
  module _ (i : ℕ) (h : i < length rs) (k : is link (get_or rs i blank) ≡ true) where
    abbrev l : Record
    l = get_or rs i blank

    this : LinkOf rs l
    this = link_at rs ok i h k

    -- a watched point that the event names is in its set
    in_set : names s l.b ≡ true → member (event_set s) l.b ≡ true
    in_set n =
        elim (named s l.b n) [
          | inl m ↦ m
          | inr p ↦ clash (sym this.watched ∙ rw p.1 (opened rs b (event_point s) (t.opens p.0)).1)
        ]

    -- where A was done before, it keeps its minute
    keeps : is_done b l.a ≡ true → (is_done next l.a ≡ true) × (minute next l.a ≡ minute b l.a)
    keeps d = (rw (marks.done l.a this.from, d), marks.there l.a this.from (unnamed l.a this.from d))

    ended_after : (is_done b l.b ≡ true) ⊎ (names s l.b ≡ true)
        → (is_done next l.a ≡ true) × (minute next l.a + shortest l ≤ minute next l.b) × (minute next l.b ≤ minute next l.a + longest l)
    ended_after (inl d) =
        let o = (w.links i h k).ended d in
        let a = keeps o.0 in
        let c = marks.there l.b this.to (unnamed l.b this.to d) in
        (a.0, omega (arith, a.1, o.1), omega (arith, a.1, o.2))
    ended_after (inr n) =
        let m = in_set n in
        let d : is_done b l.a ≡ true = rw this.alone at (ended l.b this.to m).1 in
        let o = rw this.alone at (t.timely l.b this.to m) in
        let a = keeps d in
        let c = marks.here l.b this.to n in
        (a.0, omega (arith, a.1, o.0), omega (arith, a.1, o.1))

    runs_after : (is_done b l.a ≡ true) ⊎ (names s l.a ≡ true) → is_done b l.b ≡ false → names s l.b ≡ false
        → event_minute s ≤ minute next l.a + longest l
    runs_after (inl d) n u =
        let a = keeps d in
        elim (either (member (event_set s) l.b) _ (unless (running b l) _ (t.others i h) (rw (k, d, n)))) [
          | inl m ↦ clash (sym (named_set s l.b m) ∙ u)
          | inr o ↦ omega (arith, leb-true (event_minute s) (minute b l.a + longest l) o, a.1)
        ]
    runs_after (inr m) n u = omega (arith, marks.here l.a this.from m)

    -- the link's start is in an earlier event than its end
    before_after : (is_done b l.b ≡ true) ⊎ (names s l.b ≡ true) → call next l.a < call next l.b
    before_after (inl d) =
        let o = ((w.links i h k).ended d).0 in
        let a = marks.call_there l.a this.from (unnamed l.a this.from o) in
        let c = marks.call_there l.b this.to (unnamed l.b this.to d) in
        omega (arith, a, c, w.before i h k o d)
    before_after (inr n) =
        let d : is_done b l.a ≡ true = rw this.alone at (ended l.b this.to (in_set n)).1 in
        let a = marks.call_there l.a this.from (unnamed l.a this.from d) in
        let c = marks.call_here l.b this.to n in
        omega (arith, a, c, w.numbers.most l.a this.from d)

    earlier_after : is_done next l.b ≡ true → call next l.a < call next l.b
    earlier_after d = before_after (either _ _ (sym (marks.done l.b this.to) ∙ d))

    neither : (x y : Bool) → (x || y) ≡ false → (x ≡ false) × (y ≡ false)
    neither true y e = clash e
    neither false y e = (refl, e)

    link_after : SoundLink next l
    link_after =
        record {
          ended = λ d. ended_after (either _ _ (sym (marks.done l.b this.to) ∙ d));
          runs = λ d n.
              let o = neither (is_done b l.b) _ (sym (marks.done l.b this.to) ∙ n) in
              rw marks.clock (runs_after (either _ _ (sym (marks.done l.a this.from) ∙ d)) o.0 o.1);
        }

  sound_after : Sound rs next
  sound_after =
      record {
        inside = λ p l d. inside_after p l (either _ _ (sym (marks.done p l) ∙ d));
        nought = λ p l n. nought_after p l (is_done b p) (names s p) refl refl (sym (marks.done p l) ∙ n);
        past = λ p l. past_after p l (names s p) refl;
        attained = let c = chosen.1 in inr (chosen.0, c.small, rw (marks.done chosen.0 c.small, c.here) (or-true (is_done b chosen.0)), marks.here chosen.0 c.small c.here ∙ sym marks.clock);
        links = link_after;
        few = omega (arith, marks.clock, more, chosen.1.near, w.few);
        before = λ i h k d f. earlier_after i h k f;
        numbers = to_largest rs next numbers_after;
      }
    where
      inside_after : (p : ℕ) → p < most_points → (is_done b p ≡ true) ⊎ (names s p ≡ true) → p < points rs
      inside_after p l (inl d) = w.inside p l d
      inside_after p l (inr n) = elim (named s p n) [ inl m ↦ t.inside p l m | inr e ↦ omega (arith, e.1, t.placed e.0) ]

      nought_after : (p : ℕ) → p < most_points → (d n : Bool) → is_done b p ≡ d → names s p ≡ n → (d || n) ≡ false → minute next p ≡ 0
      nought_after p l true n e f g = clash g
      nought_after p l false true e f g = clash g
      nought_after p l false false e f g = marks.there p l f ∙ w.nought p l e

      past_after : (p : ℕ) → p < most_points → (n : Bool) → names s p ≡ n → minute next p ≤ next.clock
      past_after p l true e = omega (arith, marks.here p l e, marks.clock)
      past_after p l false e = omega (arith, marks.there p l e, marks.clock, w.past p l, t.later)

-- ---- for a plan that passes the check

module _ (p : Plan) (ok : (check_of p).number ≡ 0) (b : Board) (held : HeldBoard b) (good : sound (records_of p) b ≡ true) (s : List ℕ) (fits : event_set s < 2 ^ 32) (e : event_number (records_of p) b s ≡ 0) where
  -- The board after an event that is taken is sound.
  pub event_sound : sound (records_of p) (board_after b s) ≡ true
  event_sound =
      sound_from (records_of p) (board_after b s)
      (sound_after (records_of p) (accepted_plan p ok) b held (sound_means (records_of p) b good) s fits (takes (records_of p) b s e))

  -- An event that is taken marks all its points done at its minute, which becomes the clock, gives them the next number, and
  -- changes nothing else.
  pub event_marks : Marks b s (board_after b s)
  event_marks = marks (records_of p) (accepted_plan p ok) b held (sound_means (records_of p) b good) s fits (takes (records_of p) b s e)

  -- The largest number after an event that is taken is the one that it gives.
  pub event_call : last_call (board_after b s) ≡ next_call b
  event_call =
      largest_call (records_of p) (board_after b s)
      (numbers_after (records_of p) (accepted_plan p ok) b held (sound_means (records_of p) b good) s fits (takes (records_of p) b s e))

  -- An event that is taken finishes at least one point.
  pub event_more : count_of b.done < count_of (board_after b s).done
  event_more = more (records_of p) (accepted_plan p ok) b held (sound_means (records_of p) b good) s fits (takes (records_of p) b s e)
