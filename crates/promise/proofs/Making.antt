-- What haulage and the foreman make can happen. Assumes that the plan passes the check, and that the board is sound and
-- neither finished nor stuck.
use mathlib.Core.Path.{◌≡◌, refl, sym, ◌∙◌}
use mathlib.Core.Logic.{◌⊎◌, inl, inr}
use mathlib.Core.Bool.{Bool, true, false, ◌&&◌}
use mathlib.Core.List.{List}
use Prim.Native.Nat.{ℕ, ◌+◌, ◌≤◌, ◌<◌}
use native.Mathlib.Omega.{arith}
use lib.Dec.{eqb, leb}
use lib.ListN.{get_or}
use lib.Pow.{pow_pos}
use borrow.Author.Tests.{leb-true, leb-false, eqb-true, eq-eqb, not-false}
use Rattle.points.specs.Sets.{member, from}
use Rattle.points.proofs.Laws.{member_le, count_le}
use Rattle.std.specs.Prelude.{if◌then◌else◌}
use Rattle.plan.specs.Limits.{most_points, farthest}
use Rattle.plan.specs.APlan.{link, is, some, watched, blank, records_of}
use Rattle.plan.specs.ReplyNumbers.{check_of}
use Rattle.records.specs.declared.Record.{Record}
use Rattle.plan.specs.declared.Plan.{Plan}
use Rattle.plan.proofs.Accepted.{Accepted, accepted_plan, first_found}
use Rattle.board.specs.Boards.{running, minute, sound}
use Rattle.board.specs.Windows.{low, never, some_open}
use Rattle.board.specs.Stuck.{stuck, latest}
use Rattle.replies.specs.Replies.{state_of, reply_of}
use Rattle.board.specs.Events.{no_point, ends_running}
use Rattle.board.specs.declared.Board.{Board}
use Rattle.replies.specs.declared.State.TheVariants.{Offered}
use Rattle.replies.specs.declared.Outcome.TheVariants.{Offers}
use Rattle.board.proofs.Theorems.Each.{clash, both, and_both}
use Rattle.board.proofs.Theorems.Soundness.{HeldBoard, Sound, sound_means}
use Rattle.board.proofs.Theorems.Links.{link_at, link_to_lem}
use Rattle.board.proofs.Theorems.Taking.{opened}
use Rattle.replies.proofs.Offered as offers
use Rattle.promise.specs.Plays.{Event, CanHappen, Haulage, Choice, first_end, ending_at, comes_first, latest_end}
use Rattle.promise.proofs.Boards.{ends_in_plan}
use Rattle.promise.proofs.Gathering.{least_of_le, least_of_at, set_of_in, set_of_out, set_of_fits}
use Rattle.promise.proofs.Executor.{outcome_is}

-- What comes first is at the first end or before, and has all that ends then.
module _ (rs : List Record) (b : Board) (at : ℕ → ℕ) where
  pub comes_first_lem : (t q : ℕ)
      → ((comes_first rs b at t q).minute ≤ first_end rs b at) × ((comes_first rs b at t q).set ≡ ending_at rs b at (comes_first rs b at t q).minute)
  comes_first_lem t q = go (leb t (first_end rs b at)) refl
    where
      first : ℕ
      first = first_end rs b at

      both_ways : Bool → Event
      both_ways l =
          if l then record { minute = t; point = q; set = ending_at rs b at t } else record { minute = first; point = no_point; set = ending_at rs b at first }

      go : (l : Bool) → leb t first ≡ l → ((both_ways l).minute ≤ first) × ((both_ways l).set ≡ ending_at rs b at (both_ways l).minute)
      go true e = (leb-true _ _ e, refl)
      go false e = (omega arith, refl)

module _ (p : Plan) (ok : (check_of p).number ≡ 0) (b : Board) (held : HeldBoard b) (good : sound (records_of p) b ≡ true) where
  abbrev rs : List Record
  rs = records_of p

  known : Accepted rs
  known = accepted_plan p ok

  w : Sound rs b
  w = sound_means rs b good

  -- no minute that a board or a link of it comes to is past all minutes
  near : (t : ℕ) → t ≤ b.clock + farthest → t < never
  near t h = omega (arith, w.few, count_le b.done held.done)

  end_near : (C : ℕ) → ends_running rs b C ≡ true → latest_end rs b C ≤ b.clock + farthest
  end_near C h =
      let l = link_to_lem rs known C (both (watched rs C) _ h).0 in
      omega (arith, l.long, w.past _ l.from)

  module _ (h : Haulage rs b) where
    -- No running link ends before the first.
    pub first_le : (C : ℕ) → ends_running rs b C ≡ true → first_end rs b h.at ≤ h.at C
    first_le C r =
        least_of_le (ends_running rs b) h.at most_points 0 C (omega arith) (omega (arith, (ends_in_plan rs known b C r).0, known.few)) r

    -- at a minute that is not past the first end, all that ends then
    at_minute : (t q : ℕ) → b.clock ≤ t → t ≤ first_end rs b h.at → (q ≡ no_point → 0 < ending_at rs b h.at t)
        → (q ≡ no_point) ⊎ ((low : ℕ) × (state_of rs b q ≡ Offered low) × (low ≤ t)) → ((reply_of p b).outcome ≡ Offers → t ≤ latest rs b)
        → CanHappen p b (record { minute = t; point = q; set = ending_at rs b h.at t })
    at_minute t q now first some offered in_latest =
        record {
          later = now;
          some = some;
          small = set_of_fits _ (from 0 most_points);
          ended = λ C l k.
              let n = both (ends_running rs b C) _ (set_of_out _ most_points 0 C (omega arith) k) in
              let e = h.ends C n.0 in
              let z = eqb-true (h.at C) t n.1 in
              (n.0, omega (arith, e.1), omega (arith, e.2));
          others = λ C r n. omega (arith, (h.ends C r).2, first_le C r);
          offered = offered;
          in_latest = in_latest;
        }

    -- some link ends first
    first_ends : first_end rs b h.at < never → (b.clock ≤ first_end rs b h.at) × (0 < ending_at rs b h.at (first_end rs b h.at))
    first_ends f =
        elim (least_of_at (ends_running rs b) h.at (from 0 most_points)) [
          | inl n ↦ absurd (omega arith)
          | inr c ↦
              let C = c.0 in
              let set = ending_at rs b h.at (first_end rs b h.at) in
              let i : member set C ≡ true = set_of_in (λ (C : ℕ). ends_running rs b C && eqb (h.at C) (first_end rs b h.at)) most_points 0 C (omega arith) (omega arith) (omega (arith, (ends_in_plan rs known b C c.1).0, known.few)) (and_both _ _ c.1 (eq-eqb _ _ c.2)) in
              (omega (arith, (h.ends C c.1).0, c.2), omega (arith, member_le set C i, pow_pos C))
        ]

    -- What ends before a choice, at an offer, or the choice with all that ends then, can happen.
    pub by_choice : (c : Choice rs b) → CanHappen p b (comes_first rs b h.at c.minute c.point)
    by_choice c = go (leb c.minute (first_end rs b h.at)) refl
      where
        first : ℕ
        first = first_end rs b h.at

        go : (l : Bool) → leb c.minute first ≡ l
            → CanHappen p b (if l then record { minute = c.minute; point = c.point; set = ending_at rs b h.at c.minute } else record { minute = first; point = no_point; set = ending_at rs b h.at first })
        go true e =
            let o = offers.offered rs b c.point c.low c.offered in
            at_minute c.minute c.point (omega (arith, c.window, o.2)) (leb-true _ _ e) (λ n. absurd (omega (arith, (opened rs b c.point o.0).0, known.few)))
            (inr (c.low, c.offered, c.window.0)) (λ _. c.window.1)
        go false e =
            let l = leb-false c.minute first e in
            let n = first_ends (near first (omega (arith, c.window))) in
            at_minute first no_point n.0 (omega arith) (λ _. n.1) (inl refl) (λ _. omega (arith, l, c.window))

    -- Where nothing is open and the board is neither finished nor stuck, what ends first can happen.
    pub by_wait : some_open rs b ≡ false → stuck rs b ≡ false → CanHappen p b (comes_first rs b h.at never no_point)
    by_wait o free = go (leb never (first_end rs b h.at)) refl
      where
        first : ℕ
        first = first_end rs b h.at

        soon : first < never
        soon =
            let f = first_found (running b) rs (not-false _ (rw o at free)) in
            let i = f.1 in
            let r : running b (get_or rs i.0 blank) ≡ true = rw i.2 f.0 in
            let t = link_at rs known i.0 i.1 (both (is link (get_or rs i.0 blank)) _ r).0 in
            let C = (get_or rs i.0 blank).b in
            let n : ends_running rs b C ≡ true = rw (t.watched, t.alone) r in
            near first (omega (arith, first_le C n, (h.ends C n).2, end_near C n))

        go : (l : Bool) → leb never first ≡ l
            → CanHappen p b (if l then record { minute = never; point = no_point; set = ending_at rs b h.at never } else record { minute = first; point = no_point; set = ending_at rs b h.at first })
        go true e = absurd (omega (arith, leb-true never first e, soon))
        go false e =
            let n = first_ends soon in
            at_minute first no_point n.0 (omega arith) (λ _. n.1) (inl refl)
            (λ k. clash (sym (offers.offers rs b (sym (outcome_is p ok b good) ∙ k)).2 ∙ o))
