-- What an offer offers can be taken: the event of an offered point at its Low, with an empty set, gets no number but 27,
-- for a running link that has run out by then. Assumes that the plan passes the check, and that the board is sound and
-- has its room.
use mathlib.Core.Path.{◌≡◌, refl}
use mathlib.Core.Logic.{◌⊎◌, inl, inr}
use mathlib.Core.Bool.{Bool, true, false, not}
use mathlib.Core.List.{List, [], ◌∷◌, ◌++◌}
use Prim.Native.Nat.{ℕ, ◌^◌, ◌≤◌, ◌<◌}
use native.Mathlib.Omega.{arith}
use lib.Dec.{eqb, ltb}
use borrow.Author.Tests.{ltb-false, lt-ltb, le-ltb, le-leb, ne_eqb}
use Rattle.points.specs.Sets.{members_of, below_of, every}
use Rattle.points.proofs.Laws.{count_le, members_empty, subset_empty}
use Rattle.std.specs.Prelude.{if◌then◌else◌}
use Rattle.plan.specs.APlan.{points, watched, records_of}
use Rattle.plan.specs.PlanFile.{word_bytes}
use Rattle.plan.specs.ReplyNumbers.{check_of}
use Rattle.records.specs.declared.Record.{Record}
use Rattle.plan.specs.declared.Plan.{Plan}
use Rattle.plan.proofs.Words.{word_back}
use Rattle.plan.proofs.Accepted.{Accepted, accepted_plan}
use Rattle.board.specs.Boards.{is_done, minute, each, sound}
use Rattle.board.specs.Windows.{is_open, holder, low, some_open}
use Rattle.board.specs.Stuck.{finished, stuck, latest}
use Rattle.replies.specs.Replies.{outcome_of, state_of}
use Rattle.board.specs.Events.{event_minute, no_point, well_formed, ends_running, in_time, not_late, event_number}
use Rattle.board.specs.declared.Board.{Board}
use Rattle.replies.specs.declared.State.TheVariants.{Done, Watched, Shut, Held, Offered}
use Rattle.replies.specs.declared.Outcome.TheVariants.{Finished, Stuck, Waiting, Offers}
use Rattle.board.proofs.Theorems.Each.{differ}
use Rattle.board.proofs.Theorems.Soundness.{HeldBoard, sound_means}
use Rattle.board.proofs.Theorems.Low.{low_near}
use Rattle.board.proofs.Theorems.Taking.{opened}

-- the sixteen bytes of an event: the point q at minute t, and an empty set
abbrev pub point_at : ℕ → ℕ → List ℕ
point_at t q = word_bytes t ++ ((q ∷ 0 ∷ 0 ∷ 0 ∷ []) ++ (word_bytes 0 ++ word_bytes 0))

-- ---- what an offer says

module _ (rs : List Record) (b : Board) where
  -- A board that offers is neither finished nor stuck, and something is open.
  pub offers : outcome_of rs b ≡ Offers → (finished rs b ≡ false) × (stuck rs b ≡ false) × (some_open rs b ≡ true)
  unfolding outcome_of
  offers e = go (finished rs b) (stuck rs b) (some_open rs b) e
    where
      go : (f s o : Bool) → (if f then Finished else (if s then Stuck else (if not o then Waiting else Offers))) ≡ Offers → (f ≡ false) × (s ≡ false) × (o ≡ true)
      go true s o e = differ cc
      go false true o e = differ cc
      go false false false e = differ cc
      go false false true e = (refl, refl, refl)

  -- A point that is offered from t is open, and t is its Low, not past the latest.
  pub offered : (q t : ℕ) → state_of rs b q ≡ Offered t → (is_open rs b q ≡ true) × (low rs b q ≤ latest rs b) × (low rs b q ≡ t)
  unfolding state_of
  offered q t e = go (is_done b q) (watched rs q) (is_open rs b q) (ltb (latest rs b) (low rs b q)) refl e
    where
      go : (d w o h : Bool) → ltb (latest rs b) (low rs b q) ≡ h
          → (if d then Done (minute b q) else (if w then Watched else (if not o then Shut (holder rs b q) else (if h then Held else Offered (low rs b q))))) ≡ Offered t
          → (o ≡ true) × (low rs b q ≤ latest rs b) × (low rs b q ≡ t)
      go true w o h f e = differ cc
      go false true o h f e = differ cc
      go false false false h f e = differ cc
      go false false true true f e = differ cc
      go false false true false f e = (refl, ltb-false _ _ f, cc)

-- ---- the event

no_members : (test : ℕ → Bool) → every test (members_of 0) ≡ true
unfolding every
no_members test = rw members_empty

module _ (p : Plan) (ok : (check_of p).number ≡ 0) (b : Board) (held : HeldBoard b) (good : sound (records_of p) b ≡ true) (is : outcome_of (records_of p) b ≡ Offers) (q t : ℕ) (from : state_of (records_of p) b q ≡ Offered t) where
  abbrev rs : List Record
  rs = records_of p

  known : Accepted rs
  known = accepted_plan p ok

  fits : t < 2 ^ 32
  fits =
      let w = sound_means rs b good in
      omega (arith, (offered rs b q t from).2, low_near rs known b w q, w.few, count_le b.done held.done)

  at : event_minute (point_at t q) ≡ t
  at = word_back t fits []

  has_point_lem : eqb q no_point ≡ false
  has_point_lem = ne_eqb q no_point (λ e. omega (arith, (opened rs b q (offered rs b q t from).0).0, known.few))

  formed : well_formed rs (point_at t q) ≡ true
  formed = rw (has_point_lem, lt-ltb q (points rs) (opened rs b q (offered rs b q t from).0).0, subset_empty (below_of (points rs)))

  -- whether no running link has run out
  abbrev in_time_lem : Bool
  in_time_lem = each (not_late b (event_minute (point_at t q)) 0) rs

  number : event_number rs b (point_at t q) ≡ (if not in_time_lem then 27 else 0)
  unfolding event_number
  number =
      let u = offers rs b is in
      let o = offered rs b q t from in
      rw (
        u.0,
        u.1,
        formed,
        le-ltb (event_minute (point_at t q)) b.clock (omega (arith, at, o.2)),
        no_members (ends_running rs b),
        no_members (in_time rs b (event_minute (point_at t q))),
        has_point_lem,
        o.0,
        le-leb (low rs b q) (event_minute (point_at t q)) (omega (arith, at, o.2)),
        u.2,
        le-ltb (latest rs b) (event_minute (point_at t q)) (omega (arith, at, o.1, o.2)),
      )

  -- The event of an offered point at its Low, with an empty set, is taken, or a link's y has run out before it.
  pub offered_taken : (event_number (records_of p) b (point_at t q) ≡ 0) ⊎ (event_number (records_of p) b (point_at t q) ≡ 27)
  offered_taken = go in_time_lem _ number
    where
      go : (a : Bool) (n : ℕ) → n ≡ (if not a then 27 else 0) → (n ≡ 0) ⊎ (n ≡ 27)
      go true n e = inl e
      go false n e = inr e
