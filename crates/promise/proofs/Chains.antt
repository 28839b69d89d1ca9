-- An event that ends a link starts the ones that hang on it, and none of those can end in that event; their durations count from
-- its minute. For any event that is taken, at any board. Assumes that the board has its room.
use mathlib.Core.Path.{◌≡◌, refl, sym, ◌∙◌}
use mathlib.Core.Logic.{inl, inr}
use mathlib.Core.Bool.{Bool, true, false, not, ◌||◌}
use mathlib.Core.List.{List}
use Prim.Native.Nat.{ℕ, ◌+◌, ◌≤◌, ◌<◌}
use native.Mathlib.Omega.{arith}
use lib.Dec.{eqb}
use borrow.Author.Tests.{eqb-true, eq-eqb, ne_eqb}
use Rattle.points.specs.Sets.{member}
use Rattle.std.specs.Prelude.{if◌then◌else◌}
use Rattle.plan.specs.Limits.{most_points}
use Rattle.plan.specs.APlan.{watched, records_of}
use Rattle.plan.specs.Held.{All, IsByte}
use Rattle.plan.specs.ReplyNumbers.{check_of}
use Rattle.records.specs.declared.Record.{Record}
use Rattle.plan.specs.declared.Plan.{Plan}
use Rattle.plan.proofs.Accepted.{Accepted, accepted_plan}
use Rattle.board.specs.Boards.{sound, is_done, minute}
use Rattle.board.specs.Events.{event_minute, event_point, event_set, no_point, ends_running, event_number, event_record, board_after, taken, take_of}
use Rattle.board.specs.declared.Board.{Board}
use Rattle.board.proofs.Theorems.Each.{clash, and_both}
use Rattle.board.proofs.Theorems.Soundness.{HeldBoard, Sound, sound_means}
use Rattle.board.proofs.Theorems.Marks.{names, named, named_set, Marks}
use Rattle.board.proofs.Theorems.Taking.{Takes, takes, opened, fresh_points, event_sound, event_marks}
use Rattle.network.proofs.Plans.{Running}
use Rattle.vee.specs.PlanTest.{LinkIn, net_of}
use Rattle.promise.specs.Plays.{soonest_end, latest_end}
use Rattle.promise.specs.Chains.{Does, Onward, here, next, Starts, Chained}
use Rattle.promise.proofs.Nets.{Joins, joins, rules_of}
use Rattle.promise.proofs.Boards.{says_of, in_time_of, running_of, is_running}
use Rattle.promise.proofs.Executor.{took, set_fits}

-- where an event is taken, the plan is accepted and the board is sound
pub taken_by_lem : (p : Plan) (b : Board) (s : List ℕ) → (take_of p b s).number ≡ 0 → ((check_of p).number ≡ 0) × (sound (records_of p) b ≡ true)
unfolding take_of
taken_by_lem p b s e = go (eqb (check_of p).number 0) (sound (records_of p) b) refl refl e
  where
    go : (x y : Bool) → eqb (check_of p).number 0 ≡ x → sound (records_of p) b ≡ y
        → (if not x then taken (check_of p).number (check_of p).place b
        else (if not y then taken 20 0 b
        else (if not (eqb (event_number (records_of p) b s) 0) then taken (event_number (records_of p) b s) (event_record (records_of p) b s) b
        else taken 0 0 (board_after b s)))).number ≡ 0
        → ((check_of p).number ≡ 0) × (y ≡ true)
    go false y f g e = clash (sym (eq-eqb _ _ e) ∙ f)
    go true false f g e = absurd (omega arith)
    go true true f g e = (eqb-true _ _ f, refl)

-- ---- one event

module _ (p : Plan) (b : Board) (held : HeldBoard b) (s : List ℕ) (bytes : All IsByte s) (e : (take_of p b s).number ≡ 0) where
  abbrev rs : List Record
  rs = records_of p

  abbrev after : Board
  after = (take_of p b s).board

  ok : (check_of p).number ≡ 0
  ok = (taken_by_lem p b s e).0

  known : Accepted rs
  known = accepted_plan p ok

  good : sound rs b ≡ true
  good = (taken_by_lem p b s e).1

  w : Sound rs b
  w = sound_means rs b good

  t : Takes rs b s
  t = takes rs b s (took p ok b s good e).0

  marks : Marks b s after
  marks = rw (took p ok b s good e).1 (event_marks p ok b held good s (set_fits s bytes) (took p ok b s good e).0)

  good_after : sound rs after ≡ true
  good_after = rw (took p ok b s good e).1 (event_sound p ok b held good s (set_fits s bytes) (took p ok b s good e).0)

  not_before : (q : ℕ) → q < most_points → names s q ≡ true → is_done b q ≡ false
  not_before = fresh_points rs known b held w s (set_fits s bytes) t

  -- what is done stays done, at its minute
  stays : (q : ℕ) → q < most_points → is_done b q ≡ true → (is_done after q ≡ true) × (minute after q ≡ minute b q)
  stays q l d = (rw (marks.done q l, d), marks.there q l (go (names s q) refl))
    where
      go : (n : Bool) → names s q ≡ n → n ≡ false
      go true n = clash (sym d ∙ not_before q l n)
      go false n = refl

  -- the event does the points that it names, and no others
  names_done : {q : ℕ} → q < most_points → Does p b s q → names s q ≡ true
  names_done {q} l d = rw d.before at (sym (marks.done q l) ∙ d.after)

  in_set_done : {q : ℕ} → q < most_points → member (event_set s) q ≡ true → Does p b s q
  in_set_done {q} l m =
      let n = named_set s q m in
      record { before = not_before q l n; after = rw (marks.done q l, not_before q l n, n) }

  -- ---- a link that starts at a point of the event

  module _ {A x y C : ℕ} (l : LinkIn rs A x y C) where
    j : Joins rs A x y C
    j = joins rs known l

    small_from : A < most_points
    small_from = omega (arith, ((rules_of rs known).link_points l).0, known.few)

    small_to : C < most_points
    small_to = omega (arith, ((rules_of rs known).link_points l).1, known.few)

    module _ (d : Does p b s A) where
      not_in_set : (m : Bool) → member (event_set s) C ≡ m → m ≡ false
      not_in_set true m =
          let k = t.ends C small_to m in
          let a = rw j.from at (running_of rs known b C k.0 k.1).started in
          clash (sym a ∙ d.before)
      not_in_set false m = refl

      not_the_point : event_point s ≡ C → ⊥
      not_the_point q =
          let n = ne_eqb (event_point s) no_point (λ h. omega (arith, small_to)) in
          clash (sym j.watched ∙ rw (← q) (opened rs b (event_point s) (t.opens n)).1)

      not_named : (n : Bool) → names s C ≡ n → n ≡ false
      not_named true n =
          elim (named s C n) [ inl m ↦ clash (sym m ∙ not_in_set _ refl) | inr q ↦ absurd (not_the_point (sym q.1)) ]
      not_named false n = refl

      not_ended : (m : Bool) → is_done b C ≡ m → m ≡ false
      not_ended true m = clash (sym ((in_time_of rs known b w).started l m) ∙ d.before)
      not_ended false m = refl

      undone : is_done after C ≡ false
      undone = rw (marks.done C small_to, not_ended _ refl, not_named _ refl)

      runs : Running (net_of rs) (says_of after) A x y C
      runs = record { link = l; started = d.after; undone = undone }

      from : minute after A ≡ event_minute s
      from = marks.here A small_from (names_done small_from d)

-- ---- later events

-- what stays of the board b on the board a
record Stays (p : Plan) (b a : Board) : Type 0 where
  held : HeldBoard a
  good : sound (records_of p) a ≡ true
  done : (q : ℕ) → q < most_points → is_done b q ≡ true → (is_done a q ≡ true) × (minute a q ≡ minute b q)

stays_on : {p : Plan} {b a : Board} → HeldBoard b → sound (records_of p) b ≡ true → Onward p b a → Stays p b a
stays_on h g here = record { held = h; good = g; done = λ q l d. (d, refl) }
stays_on {p} h g (next {a} s o bytes e) =
    let k = stays_on h g o in
    record {
      held = (marks p a k.held s bytes e).held;
      good = good_after p a k.held s bytes e;
      done = λ q l d.
          let m = k.done q l d in
          let n = stays p a k.held s bytes e q l m.0 in
          (n.0, n.1 ∙ m.1);
    }

-- ---- what is promised

module _ (p : Plan) (b : Board) (held : HeldBoard b) (s : List ℕ) (bytes : All IsByte s) (e : (take_of p b s).number ≡ 0) where
  -- An event that does A starts each link from A, whether A is watched or the foreman's.
  pub event_starts : {A x y C : ℕ} → LinkIn (records_of p) A x y C → Does p b s A → Starts p b s A x y C
  event_starts {A} {x} {y} {C} l d =
      let i = j p b held s bytes e l in
      let f = from p b held s bytes e l d in
      let k = known p b held s bytes e in
      let a = (take_of p b s).board in
      let r = runs p b held s bytes e l d in
      record {
        not_in_set = not_in_set p b held s bytes e l d _ refl;
        not_the_point = not_the_point p b held s bytes e l d;
        running = and_both (watched (records_of p) C) _ i.watched (is_running (records_of p) k a r);
        from = f;
        soonest = rw (i.from, i.short) (omega (arith, f));
        latest = rw (i.from, i.long) (omega (arith, f));
        ended = λ c o h.
            let m = marks p b held s bytes e in
            let z = stays_on m.held (good_after p b held s bytes e) o in
            let n = z.done A (small_from p b held s bytes e l) d.after in
            let g = (in_time_of (records_of p) k c (sound_means (records_of p) c z.good)).ended l h in
            omega (arith, n.1, f, g);
      }

  -- An event that ends a link starts the ones that hang on it, and none of those can end in that event.
  pub event_chained : Chained p b s
  event_chained =
      record { hanging = λ {C} m l. event_starts l (in_set_done p b held s bytes e (small_from p b held s bytes e l) m) }
