-- The event that the kept numbers give is the one of the rules. Assumes that the plan is accepted, the board sound for it, and the
-- rooms that plan's.
use mathlib.Core.Path.{◌≡◌, refl, sym, ap, ◌∙◌}
use mathlib.Core.Bool.{Bool, true, false, not, ◌&&◌}
use mathlib.Core.List.{List}
use Prim.Native.Nat.{ℕ, ◌+◌, ◌*◌, ◌%◌, ◌^◌, ◌≤◌, ◌<◌, min, max}
use native.Mathlib.Omega.{arith}
use borrow.Author.Tests.{eqb-true, lt-ltb, le-ltb, le-leb, lt-leb}
use lib.Dec.{eqb, ltb, leb}
use lib.ListN.{length, get_or}
use Rattle.points.specs.Sets.{member, from}
use Rattle.points.proofs.Laws.{count_le, member_past}
use Rattle.std.specs.Prelude.{if◌then◌else◌}
use Rattle.plan.specs.Limits.{most_points, farthest}
use Rattle.plan.specs.APlan.{points, watched, link_to}
use Rattle.plan.proofs.Accepted.{Accepted}
use Rattle.records.specs.declared.Record.{Record}
use Rattle.history.specs.History.{runs}
use Rattle.links.proofs.Linking.{runs_to_lem}
use Rattle.lowhigh.specs.Rules.{shuts}
use Rattle.lowhigh.proofs.Firsts.{nothing_so}
use Rattle.board.specs.Boards.{minute}
use Rattle.board.specs.Windows.{is_open, low, never}
use Rattle.board.specs.Events.{no_point, ends_running}
use Rattle.board.specs.declared.Board.{Board}
use Rattle.board.proofs.Theorems.Each.{both}
use Rattle.board.proofs.Theorems.Soundness.{Sound}
use Rattle.board.proofs.Theorems.Low.{low_near}
use Rattle.board.proofs.Theorems.Links.{link_to_lem}
use Rattle.events.specs.declared.Event.{Event}
use Rattle.rows.specs.Sheet.{by}
use Rattle.rows.specs.Layout.{LaidOut}
use Rattle.kept.specs.Rooms.{minutes_at, done_at}
use Rattle.keeping.specs.Keeps.{KeptOf}
use Rattle.keeping.proofs.Changes.{low_is}
use Rattle.kept_windows.proofs.Answering.{none_is}
use Rattle.promise.specs.Plays.{set_of, first_end, ending_at, comes_first}
use Rattle.steps.specs.Found.{StartsIn, low_by, runs_by, end_by, ends_then, nearest, earlier, first_by, event_at, event_by}
use Rattle.steps.specs.Events.{least_open, first_open, end_at, made, event_of}
use Rattle.steps.specs.declared.Least.{Least}
use Rattle.steps.proofs.Nearest.{nearest_is, set_below}
use Rattle.steps.proofs.Starting.{starts_are}

module _ (rs : List Record) (ok : Accepted rs) (b : Board) (g : Sound rs b) (fits : b.done < 2 ^ 32) (w : List ℕ) (lasts : (C : ℕ) → by w C ≤ farthest)
    (kept : List ℕ) (k : KeptOf rs b kept) (s : List ℕ) (laid : LaidOut rs s) (starts : List ℕ) (in-sheet : StartsIn s (length rs) starts) where
  soon : b.clock ≤ farthest * most_points
  soon = omega (arith, g.few, count_le b.done fits)

  low_soon : (q : ℕ) → low rs b q < never
  low_soon q = omega (arith, low_near rs ok b g q, soon)

  -- a running link ends at a minute
  falls_soon : (C : ℕ) → ends_running rs b C ≡ true → end_at rs b w C < never
  falls_soon C e =
      let i = link_to_lem rs ok C (both (watched rs C) _ e).0 in
      omega (arith, g.past (link_to rs C).a i.from, soon, lasts C)

  -- where the link to C starts, and that none does
  start_is : (C : ℕ) → C < most_points → get_or starts C 0 ≡ (if watched rs C then (link_to rs C).a else most_points)
  start_is C h = starts_are rs ok s laid in-sheet C h

  -- the Lows of the open points
  lows_are : (q : ℕ) → q < most_points → low_by kept starts (points rs) q ≡ (if is_open rs b q then low rs b q else never)
  lows_are q h =
      let w = unwatched (watched rs q) refl (start_is q h) in
      rw (w, k.dones, k.holds q h, none_is (shuts rs b.done q) rs, nothing_so 0 (shuts rs b.done q) rs, k.clocks, k.lows q h, k.runs q h, low_is rs b.done b.minutes q)
    where
      unwatched : (c : Bool) → watched rs q ≡ c → get_or starts q 0 ≡ (if c then (link_to rs q).a else most_points) → leb most_points (get_or starts q 0) ≡ not c
      unwatched true e f = lt-leb most_points (get_or starts q 0) (omega (arith, f, (link_to_lem rs ok q e).from))
      unwatched false e f = le-leb most_points (get_or starts q 0) (omega arith)

  -- the ends of the running links
  ends_are : (C : ℕ) → C < most_points → end_by kept starts w C ≡ (if ends_running rs b C then end_at rs b w C else never)
  ends_are C h = rw k.dones (go (watched rs C) refl (start_is C h))
    where
      still : (c : Bool) → c ≡ ends_running rs b C → (a : ℕ) → a ≡ (link_to rs C).a
          → (if c then min (get_or kept (minutes_at + a % most_points) 0 + by w C % 2 ^ 32) never else never)
          ≡ (if c then end_at rs b w C else never)
      still false e a f = refl
      still true e a f =
          let i = link_to_lem rs ok C (both (watched rs C) _ (sym e)).0 in
          let z : a % most_points ≡ (link_to rs C).a = omega (arith, i.from) in
          let m = k.minute (link_to rs C).a i.from in
          rw z (omega (arith, m, falls_soon C (sym e), lasts C))

      go : (c : Bool) → watched rs C ≡ c → get_or starts C 0 ≡ (if c then (link_to rs C).a else most_points)
          → (if member b.done (get_or starts C 0) && not (member b.done C) then min (get_or kept (minutes_at + get_or starts C 0 % most_points) 0 + by w C % 2 ^ 32) never else never)
          ≡ (if c && runs b.done (link_to rs C) then end_at rs b w C else never)
      go false e f = rw (f, member_past b.done most_points fits (omega arith)) refl
      go true e f =
          let r = runs_to_lem rs b.done C e in
          rw (f, r) (still (member b.done (link_to rs C).a && not (member b.done C)) (sym (rw (e, r) refl)) (link_to rs C).a refl)

  -- the set that ends at a minute
  ending_is : (u : ℕ) → set_of (ends_then kept starts w u) (from 0 most_points) ≡ ending_at rs b (end_at rs b w) u
  ending_is u = set_below (ends_then kept starts w u) (λ (C : ℕ). ends_running rs b C && eqb (end_at rs b w C) u) most_points 0 (λ C h. one C (ends_running rs b C) refl (ends_are C (omega arith)))
    where
      one : (C : ℕ) (c : Bool) → ends_running rs b C ≡ c → end_by kept starts w C ≡ (if c then end_at rs b w C else never) → ends_then kept starts w u C ≡ (c && eqb (end_at rs b w C) u)
      one C true e f = rw f (same (eqb (end_at rs b w C) u) refl)
        where
          same : (d : Bool) → eqb (end_at rs b w C) u ≡ d → (d && ltb u never) ≡ d
          same true i = lt-ltb u never (omega (arith, eqb-true (end_at rs b w C) u i, falls_soon C e))
          same false i = refl
      one C false e f = rw f (none (eqb never u) refl)
        where
          none : (d : Bool) → eqb never u ≡ d → (d && ltb u never) ≡ false
          none true i = le-ltb u never (omega (arith, eqb-true never u i))
          none false i = refl

  -- the aim and the first end
  aim_is : nearest (low_by kept starts (points rs)) ≡ record { minute = least_open rs b; point = first_open rs b }
  aim_is = nearest_is (is_open rs b) (low rs b) (λ q e. low_soon q) (low_by kept starts (points rs)) lows_are

  end_is : (nearest (end_by kept starts w)).minute ≡ first_end rs b (end_at rs b w)
  end_is = ap (λ (l : Least). l.minute) (nearest_is (ends_running rs b) (end_at rs b w) falls_soon (end_by kept starts w) ends_are)

  -- what comes first
  abbrev ruled : Least
  ruled = earlier (record { minute = least_open rs b; point = first_open rs b }) (first_end rs b (end_at rs b w))

  first_is : first_by kept starts (points rs) w ≡ ruled
  first_is = λ i. earlier (aim_is i) (end_is i)

  pub event_is : event_by kept starts (points rs) w ≡ event_of rs b w
  event_is =
      ap (event_at kept starts w) first_is
      ∙ (λ i. record { minute = ruled.minute; point = ruled.point; set = ending_is ruled.minute i })
      ∙ go (leb (least_open rs b) (first_end rs b (end_at rs b w)))
    where
      by_test : Bool → Least
      by_test c = if c then record { minute = least_open rs b; point = first_open rs b } else record { minute = first_end rs b (end_at rs b w); point = no_point }

      go : (c : Bool)
          → ◌≡◌ {A = Event}
          (record { minute = (by_test c).minute; point = (by_test c).point; set = ending_at rs b (end_at rs b w) (by_test c).minute })
          (made (if c then record { minute = least_open rs b; point = first_open rs b; set = ending_at rs b (end_at rs b w) (least_open rs b) }
          else record { minute = first_end rs b (end_at rs b w); point = no_point; set = ending_at rs b (end_at rs b w) (first_end rs b (end_at rs b w)) }))
      go true = refl
      go false = refl
