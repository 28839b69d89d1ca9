-- There are players for every accepted plan: haulage can have any durations in bounds fixed beforehand, and an offer always
-- offers something. Assumes that the plan passes the check.
use mathlib.Core.Path.{◌≡◌, refl, sym, ◌∙◌}
use mathlib.Core.Logic.{inl, inr}
use mathlib.Core.Bool.{Bool, true, false, not, ◌||◌}
use mathlib.Core.List.{List}
use Prim.Native.Nat.{ℕ, ◌+◌, ◌-◌, ◌≤◌, max}
use native.Mathlib.Omega.{arith}
use lib.Dec.{ltb}
use borrow.Author.Tests.{ltb-false, le-ltb}
use Rattle.std.specs.Prelude.{if◌then◌else◌}
use Rattle.plan.specs.Limits.{most_points, farthest}
use Rattle.plan.specs.APlan.{watched, link_to, records_of}
use Rattle.plan.specs.ReplyNumbers.{check_of}
use Rattle.records.specs.declared.Record.{Record}
use Rattle.plan.specs.declared.Plan.{Plan}
use Rattle.plan.proofs.Accepted.{Accepted, accepted_plan}
use Rattle.board.specs.Boards.{sound, is_done, minute, longest}
use Rattle.board.specs.Windows.{is_open, holder, low, H, all_above}
use Rattle.board.specs.Stuck.{latest}
use Rattle.replies.specs.Replies.{state_of, bare, sound_reply, reply_of}
use Rattle.board.specs.declared.Board.{Board}
use Rattle.replies.specs.declared.State.TheVariants.{Done, Watched, Shut, Held, Offered}
use Rattle.replies.specs.declared.Outcome.TheVariants.{Refused, Offers}
use Rattle.board.proofs.Theorems.Each.{clash, differ, both, point_every}
use Rattle.board.proofs.Theorems.Soundness.{sound_means}
use Rattle.board.proofs.Theorems.Low.{low_near}
use Rattle.board.proofs.Theorems.Taking.{opened}
use Rattle.replies.proofs.Offered as offers
use Rattle.network.specs.Projection.{InBounds}
use Rattle.network.proofs.Search.{all_or_one}
use Rattle.vee.specs.PlanTest.{net_of}
use Rattle.promise.specs.Plays.{Haulier, Foreman, Players, Fixed}
use Rattle.promise.proofs.Nets.{joins, rules_of}
use Rattle.promise.proofs.Boards.{running_of, in_time_of}
use Rattle.promise.proofs.Standing.{told}
use Rattle.promise.proofs.Executor.{outcome_is}

module _ (p : Plan) (ok : (check_of p).number ≡ 0) where
  abbrev rs : List Record
  rs = records_of p

  known : Accepted rs
  known = accepted_plan p ok

  -- ---- haulage

  module _ (ω : ℕ → ℕ) (within : InBounds (net_of rs) ω) where
    -- Haulage can have any durations in bounds fixed beforehand.
    pub fixed : Haulier p
    fixed k b g =
        record {
          at = λ C. max b.clock (minute b (link_to rs C).a + ω C);
          ends = λ C h.
              let n = both (watched rs C) _ h in
              let r = running_of rs known b C n.0 n.1 in
              let i = within.within r.link in
              let t = (in_time_of rs known b (sound_means rs b g)).running r in
              (omega arith, omega (arith, i.0), omega (arith, i.1, t));
        }

    -- and then ends each link as they say
    pub is_fixed : Fixed p ω fixed
    unfolding fixed
    is_fixed = record { at = λ k b g C l. omega arith }

  -- The longest durations are in bounds.
  pub longest_in_bounds : InBounds (net_of rs) (λ C. longest (link_to rs C))
  longest_in_bounds = record { within = λ l. let j = joins rs known l in omega (arith, j.long, (rules_of rs known).link_bounds l) }

  -- ---- the foreman

  -- a board that gets an offer is sound
  offered_sound : (b : Board) → (reply_of p b).outcome ≡ Offers → sound rs b ≡ true
  unfolding reply_of
  offered_sound b e = go (sound rs b) (rw ok at e)
    where
      go : (g : Bool) → (if not g then bare (Refused 20 0) else sound_reply rs b).outcome ≡ Offers → g ≡ true
      go true e = refl
      go false e = differ cc

  -- An open point whose Low is not past the latest is offered.
  pub is_offered_lem : (b : Board) (q : ℕ) → is_open rs b q ≡ true → low rs b q ≤ latest rs b → state_of rs b q ≡ Offered (low rs b q)
  unfolding state_of
  is_offered_lem b q can l =
      let c = opened rs b q can in
      go (is_done b q) (watched rs q) (is_open rs b q) (ltb (latest rs b) (low rs b q)) c.2 c.1 can (le-ltb (latest rs b) (low rs b q) l)
    where
      go : (d w o h : Bool) → d ≡ false → w ≡ false → o ≡ true → h ≡ false
          → (if d then Done (minute b q) else (if w then Watched else (if not o then Shut (holder rs b q) else (if h then Held else Offered (low rs b q))))) ≡ Offered (low rs b q)
      go d w o h e f g i = rw (e, f, g, i)

  -- An offer offers something.
  pub earliest : Foreman p
  earliest k b o =
      let g = offered_sound b o in
      let w = sound_means rs b g in
      let f = offers.offers rs b (sym (outcome_is p ok b g) ∙ o) in
      let above : all_above rs b ≡ false = rw f.2 at f.1 in
      elim (all_or_one (λ q. late q ≡ true) (λ q. late q ≡ false) (told late) most_points) [
        | inl all ↦ clash (sym (point_every late all) ∙ above)
        | inr q ↦
            let (can, h) = neither (is_open rs b q.0) (ltb (H rs b) (low rs b q.0 + farthest)) q.2 in
            let l = ltb-false (H rs b) (low rs b q.0 + farthest) h in
            let near = low_near rs known b w q.0 in
            record {
              point = q.0;
              minute = low rs b q.0;
              low = low rs b q.0;
              offered = is_offered_lem b q.0 can (omega arith);
              window = (omega arith, omega arith);
            }
      ]
    where
      late : ℕ → Bool
      late q = not (is_open rs b q) || ltb (H rs b) (low rs b q + farthest)

      neither : (x y : Bool) → (not x || y) ≡ false → (x ≡ true) × (y ≡ false)
      neither true y e = (refl, e)
      neither false y e = clash e

  -- A foreman may take the latest minute as well.
  pub unhurried : Foreman p
  unhurried k b o =
      let c = earliest k b o in
      record { point = c.point; minute = latest rs b; low = c.low; offered = c.offered; window = (omega (arith, c.window), omega arith) }

  -- Every accepted plan has players.
  pub some_players : Players p
  some_players = record { haulage = fixed (λ C. longest (link_to rs C)) longest_in_bounds; foreman = earliest }
