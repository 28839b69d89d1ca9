-- The aim: something is offered just where something is open, and the least Low of what is offered is that of what is open,
-- so a foreman can take it. Assumes that the plan passes the check, and that the board is sound and not stuck.
use mathlib.Core.Path.{◌≡◌, refl, sym, ap, ◌∙◌}
use mathlib.Core.Logic.{◌⊎◌, inl, inr}
use mathlib.Core.Bool.{Bool, true, false, not, ◌&&◌, ◌||◌}
use mathlib.Core.List.{List}
use Prim.Native.Nat.{ℕ, ◌+◌, ◌≤◌, ◌<◌}
use native.Mathlib.Omega.{arith}
use native.Mathlib.Decide.{dec_lt}
use lib.Dec.{eqb, ltb}
use borrow.Author.Tests.{eqb-true, eq-eqb, ltb-false, not-true, not-false}
use Rattle.points.specs.Sets.{from, passing, first_or, every}
use Rattle.points.proofs.Laws.{count_le}
use Rattle.plan.specs.Limits.{most_points, farthest}
use Rattle.plan.specs.APlan.{points, records_of}
use Rattle.plan.specs.ReplyNumbers.{check_of}
use Rattle.records.specs.declared.Record.{Record}
use Rattle.plan.specs.declared.Plan.{Plan}
use Rattle.plan.proofs.Accepted.{Accepted, accepted_plan}
use Rattle.board.specs.Boards.{sound}
use Rattle.board.specs.Windows.{is_open, low, never, H, some_open, all_above}
use Rattle.board.specs.Stuck.{stuck, latest}
use Rattle.board.specs.Events.{no_point}
use Rattle.board.specs.declared.Board.{Board}
use Rattle.board.proofs.Theorems.Each.{clash, both, and_both, every_point, point_every}
use Rattle.board.proofs.Theorems.Soundness.{HeldBoard, Sound, sound_means}
use Rattle.board.proofs.Theorems.Low.{low_near}
use Rattle.board.proofs.Theorems.Taking.{opened, something_open}
use Rattle.replies.specs.Replies.{state_of, reply_of}
use Rattle.replies.specs.declared.State.{State}
use Rattle.replies.specs.declared.State.TheVariants.{Done, Watched, Shut, Held, Offered}
use Rattle.replies.specs.declared.Outcome.TheVariants.{Offers}
use Rattle.replies.proofs.Offered as offers
use Rattle.network.proofs.Search.{all_or_one}
use Rattle.promise.specs.Plays.{least_of, Choice, Foreman}
use Rattle.promise.proofs.Gathering.{least_of_le, least_of_at}
use Rattle.promise.proofs.Standing.{told}
use Rattle.promise.proofs.Players.{is_offered_lem, earliest}
use Rattle.projection_runs.specs.ProjectionRuns.{is_offered, offered, aim, aimed}
use Rattle.steps.specs.Events.{least_open, first_open}
use Rattle.projection_runs.specs.RunPromises.{AimIs, TakesAim}
use Rattle.projection_runs.proofs.Alike.{least_never, least_none, passing_alike, first_passing, first_none}

-- two tests before a third agree where they do once it has passed
pub alike_before : (a b c : Bool) → (a ≡ true → b ≡ true) → (b ≡ true → c ≡ true → a ≡ true) → (a && c) ≡ (b && c)
alike_before true true c h k = refl
alike_before true false c h k = clash (sym (h refl))
alike_before false false c h k = refl
alike_before false true true h k = k refl refl
alike_before false true false h k = refl

module _ (p : Plan) (ok : (check_of p).number ≡ 0) (b : Board) where
  abbrev rs : List Record
  rs = records_of p

  known : Accepted rs
  known = accepted_plan p ok

  -- What is offered is offered from its Low, and open.
  pub from_low : (q : ℕ) → offered rs b q ≡ true → state_of rs b q ≡ Offered (low rs b q)
  from_low q e = go (state_of rs b q) refl e
    where
      go : (s : State) → state_of rs b q ≡ s → is_offered s ≡ true → state_of rs b q ≡ Offered (low rs b q)
      go (Done m) f e = clash (sym e)
      go Watched f e = clash (sym e)
      go (Shut i) f e = clash (sym e)
      go Held f e = clash (sym e)
      go (Offered m) f e = f ∙ ap Offered (sym (offers.offered rs b q m f).2)

  pub offered_open : (q : ℕ) → offered rs b q ≡ true → is_open rs b q ≡ true
  offered_open q e = (offers.offered rs b q (low rs b q) (from_low q e)).0

  small : (q : ℕ) → is_open rs b q ≡ true → q < most_points
  small q e = omega (arith, (opened rs b q e).0, known.few)

  -- the aim is no later than the Low of what is offered, nor the least Low than that of what is open
  aim_le : (q : ℕ) → offered rs b q ≡ true → aim rs b ≤ low rs b q
  aim_le q e = least_of_le (offered rs b) (low rs b) most_points 0 q (omega arith) (omega (arith, small q (offered_open q e))) e

  open_le : (q : ℕ) → is_open rs b q ≡ true → least_open rs b ≤ low rs b q
  open_le q e = least_of_le (is_open rs b) (low rs b) most_points 0 q (omega arith) (omega (arith, small q e)) e

  -- a point that is offered at the aim, and one that is open at the least Low
  abbrev hits : ℕ → Bool
  hits q = offered rs b q && eqb (low rs b q) (aim rs b)

  abbrev leasts : ℕ → Bool
  leasts q = is_open rs b q && eqb (low rs b q) (least_open rs b)

  -- Where the aim is a minute, its point is offered from it.
  pub aim_offered : aim rs b < never → (state_of rs b (aimed rs b) ≡ Offered (aim rs b)) × (aim rs b ≤ latest rs b)
  aim_offered l =
      elim (least_of_at (offered rs b) (low rs b) (from 0 most_points)) [
        | inl n ↦ absurd (omega arith)
        | inr q ↦
            let here : hits q.0 ≡ true = and_both (offered rs b q.0) _ q.1 (eq-eqb (low rs b q.0) (aim rs b) q.2) in
            let l = small q.0 (offered_open q.0 q.1) in
            let f = first_passing hits no_point most_points 0 q.0 (omega arith) (omega arith) here in
            let t = both (offered rs b (aimed rs b)) _ f.0 in
            let e = eqb-true (low rs b (aimed rs b)) (aim rs b) t.1 in
            let s = from_low (aimed rs b) t.0 in
            (s ∙ ap Offered e, omega (arith, (offers.offered rs b (aimed rs b) (low rs b (aimed rs b)) s).1, e))
      ]

  module _ (w : Sound rs b) (free : stuck rs b ≡ false) where
    -- where a point is open, one whose Low is least is offered
    least_offered : (q : ℕ) → is_open rs b q ≡ true → low rs b q ≡ least_open rs b → offered rs b q ≡ true
    least_offered q can e =
        let above : all_above rs b ≡ false = rw (something_open rs b q (small q can) can) at free in
        elim (all_or_one (λ q. late q ≡ true) (λ q. late q ≡ false) (told late) most_points) [
          | inl all ↦ clash (sym (point_every late all) ∙ above)
          | inr r ↦
              let (can', h) = neither (is_open rs b r.0) (ltb (H rs b) (low rs b r.0 + farthest)) r.2 in
              let l = ltb-false (H rs b) (low rs b r.0 + farthest) h in
              let m = open_le r.0 can' in
              let near = low_near rs known b w q in
              ap is_offered (is_offered_lem p ok b q can (omega arith))
        ]
      where
        late : ℕ → Bool
        late q = not (is_open rs b q) || ltb (H rs b) (low rs b q + farthest)

        neither : (x y : Bool) → (not x || y) ≡ false → (x ≡ true) × (y ≡ false)
        neither true y e = (refl, e)
        neither false y e = clash e

    aim_least : aim rs b ≡ least_open rs b
    aim_least = omega (arith, below, above)
      where
        below : least_open rs b ≤ aim rs b
        below =
            elim (least_of_at (offered rs b) (low rs b) (from 0 most_points)) [
              | inl n ↦ omega (arith, least_never (is_open rs b) (low rs b) (from 0 most_points))
              | inr q ↦ omega (arith, q.2, open_le q.0 (offered_open q.0 q.1))
            ]

        above : aim rs b ≤ least_open rs b
        above =
            elim (least_of_at (is_open rs b) (low rs b) (from 0 most_points)) [
              | inl n ↦ omega (arith, least_never (offered rs b) (low rs b) (from 0 most_points))
              | inr q ↦ omega (arith, q.2, aim_le q.0 (least_offered q.0 q.1 q.2))
            ]

    aimed_first : aimed rs b ≡ first_open rs b
    aimed_first = ap (first_or no_point) (passing_alike hits leasts (from 0 most_points) one)
      where
        one : (q : ℕ) → hits q ≡ leasts q
        one q =
            rw aim_least
            (alike_before (offered rs b q) (is_open rs b q) (eqb (low rs b q) (least_open rs b)) (offered_open q)
            (λ can e. least_offered q can (eqb-true (low rs b q) (least_open rs b) e)))

    -- where nothing is open nothing is offered
    nothing : some_open rs b ≡ false → (q : ℕ) → q < 0 + most_points → offered rs b q ≡ false
    nothing o q l = go (offered rs b q) refl
      where
        go : (c : Bool) → offered rs b q ≡ c → offered rs b q ≡ false
        go true e = clash (sym (something_open rs b q (omega arith) (offered_open q e)) ∙ o)
        go false e = e

    none_aimed : some_open rs b ≡ false → (aim rs b ≡ never) × (aimed rs b ≡ no_point)
    none_aimed o = (
      least_none (offered rs b) (low rs b) most_points 0 (nothing o),
      first_none hits no_point most_points 0 (λ q l. rw (nothing o q l)),
    )

    module _ (held : HeldBoard b) where
      -- where something is open the aim is a minute
      pub aim_soon : some_open rs b ≡ true → aim rs b < never
      aim_soon o =
          elim (all_or_one (λ q. shut q ≡ true) (λ q. shut q ≡ false) (told shut) most_points) [
            | inl all ↦ clash (sym (point_every shut all) ∙ not-true _ o)
            | inr q ↦
                let can = not-false (is_open rs b q.0) q.2 in
                let near = low_near rs known b w q.0 in
                omega (arith, aim_least, open_le q.0 can, near, w.few, count_le b.done held.done)
          ]
        where
          shut : ℕ → Bool
          shut q = not (is_open rs b q)

      offers_some : some_open rs b ≡ true → (q : ℕ) × (offered rs b q ≡ true)
      offers_some o = (aimed rs b, ap is_offered (aim_offered (aim_soon o)).0)

      -- What the aim is.
      pub aim_is : AimIs rs b
      aim_is =
          record {
            offers = offers_some;
            opens = λ q e. let can = offered_open q e in something_open rs b q (small q can) can;
            minute = aim_least;
            point = aimed_first;
            none = none_aimed;
          }

-- ---- the foreman

module _ (p : Plan) (ok : (check_of p).number ≡ 0) where
  -- the aim, or where there is none anything that is offered
  take_aim : (k : ℕ) (b : Board) → (reply_of p b).outcome ≡ Offers → Dec (aim (records_of p) b < never) → Choice (records_of p) b
  take_aim k b o (yes l) =
      let a = aim_offered p ok b l in
      record {
        point = aimed (records_of p) b;
        minute = aim (records_of p) b;
        low = aim (records_of p) b;
        offered = a.0;
        window = (omega arith, a.1);
      }
  take_aim k b o (no l) = earliest p ok k b o

  -- A foreman can take the aim.
  pub aiming : Foreman p
  aiming k b o = take_aim k b o (dec_lt (aim (records_of p) b) never)

  pub aims : TakesAim p aiming
  unfolding aiming take_aim
  aims = record { at = λ k b o l. go k b o l (dec_lt (aim (records_of p) b) never) }
    where
      go : (k : ℕ) (b : Board) (o : (reply_of p b).outcome ≡ Offers) → aim (records_of p) b < never → (d : Dec (aim (records_of p) b < never))
          → ((take_aim k b o d).minute ≡ aim (records_of p) b) × ((take_aim k b o d).point ≡ aimed (records_of p) b)
      go k b o l (yes m) = (refl, refl)
      go k b o l (no m) = absurd (m l)
