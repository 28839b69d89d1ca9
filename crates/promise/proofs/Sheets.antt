-- One event of a good sheet can happen: at its minute either all watched points of that minute at once, or, when those are
-- done, one of the foreman's. Nothing here asks that a link's A be the foreman's. Assumes that the plan passes the check and
-- the test, and that the sheet is good.
use mathlib.Core.Path.{◌≡◌, refl, sym, ◌∙◌}
use mathlib.Core.Logic.{◌⊎◌, inl, inr}
use mathlib.Core.Bool.{true, false}
use mathlib.Core.List.{List}
use Prim.Native.Nat.{ℕ, ◌+◌, ◌^◌, ◌≤◌, ◌<◌}
use native.Mathlib.Omega.{arith}
use Rattle.points.specs.Sets.{member}
use Rattle.points.proofs.Laws.{member_empty, count_le}
use Rattle.plan.specs.Limits.{most_points, farthest}
use Rattle.plan.specs.APlan.{points, watched, link_to, records_of}
use Rattle.plan.specs.ReplyNumbers.{check_of}
use Rattle.records.specs.declared.Record.{Record}
use Rattle.plan.specs.declared.Plan.{Plan}
use Rattle.plan.proofs.Accepted.{Accepted, accepted_plan}
use Rattle.board.specs.Boards.{is_done, minute}
use Rattle.board.specs.Windows.{is_open, low, never, high, H}
use Rattle.board.specs.Stuck.{latest}
use Rattle.board.specs.Events.{no_point, ends_running}
use Rattle.board.specs.declared.Board.{Board}
use Rattle.board.proofs.Theorems.Each.{clash, both, and_both, has}
use Rattle.board.proofs.Theorems.Soundness.{Sound, sound_means}
use Rattle.board.proofs.Theorems.Taking.{opened}
use Rattle.network.proofs.Plans.{Running, Open, FromLow}
use Rattle.vee.specs.PlanTest.{net_of}
use Rattle.promise.specs.Nets.{PassesPlan}
use Rattle.promise.specs.Runs.{Run}
use Rattle.promise.specs.Plays.{CanHappen, soonest_end, latest_end}
use Rattle.promise.specs.GoodSheets.{GoodSheet}
use Rattle.promise.proofs.Nets.{link_of, joins, rules_of}
use Rattle.promise.proofs.Boards.{says_of, H_at, running_of, is_running, is_open_lem, low_from, high_from}
use Rattle.promise.proofs.Standing.{told}
use Rattle.promise.proofs.Executor.{Stands, stands}
use Rattle.promise.proofs.Players.{is_offered_lem}
use Rattle.promise.proofs.Orders.{Below, near_points}

-- the board b on the way through the sheet g, at minute t: the points `now` of minute t are still to be done, and those whose
-- minutes are among `later`; all others are done, at their minutes
pub record Stage (p : Plan) (g : ℕ → ℕ) (b : Board) (t : ℕ) (now later : List ℕ) : Type 0 where
  pub events : ℕ
  pub run : Run p b events
  pub done : (q : ℕ) → is_done b q ≡ true → (q < points (records_of p)) × (minute b q ≡ g q) × (g q ≤ t)
  pub left : (q : ℕ) → q < points (records_of p) → is_done b q ≡ false → (has q now ≡ true) ⊎ (has (g q) later ≡ true)
  pub here : (q : ℕ) → has q now ≡ true → (q < points (records_of p)) × (g q ≡ t) × (is_done b q ≡ false)
  pub below : Below t later

module _ (p : Plan) (ok : (check_of p).number ≡ 0) (passes : PassesPlan p) (ω g : ℕ → ℕ) (sheet : GoodSheet p ω g) {b : Board} {t : ℕ} {now later : List ℕ} (at : Stage p g b t now later) where
  abbrev rs : List Record
  rs = records_of p

  known : Accepted rs
  known = accepted_plan p ok

  w : Stands p b at.events
  w = stands p ok passes at.run

  sound : Sound rs b
  sound = sound_means rs b w.good

  -- ---- what is done, and when

  small : (q : ℕ) → q < points rs → q < most_points
  small q l = omega (arith, known.few)

  not_before : (q : ℕ) → q < points rs → is_done b q ≡ false → t ≤ g q
  not_before q l u = elim (at.left q l u) [ inl h ↦ omega (arith, (at.here q h).1) | inr h ↦ omega (arith, at.below (g q) h) ]

  is_done_lem : (q : ℕ) → q < points rs → g q < t → is_done b q ≡ true
  is_done_lem q l h = elim (told (is_done b) q) [ inl d ↦ d | inr u ↦ absurd (omega (arith, not_before q l u)) ]

  now_clock : b.clock ≤ t
  now_clock = elim sound.attained [ inl z ↦ omega arith | inr (q, l, d, e) ↦ let k = at.done q d in omega (arith, e, k.1, k.2) ]

  -- a point of this minute is at most 100,000 past the clock
  near : (q : ℕ) → has q now ≡ true → t ≤ b.clock + farthest
  near q h =
      let k = at.here q h in
      elim (near_points (points rs) g (omega (arith, sheet.first)) sheet.near q k.0) [
        | inl a ↦ omega (arith, k.1)
        | inr (Y, l, a, c) ↦ omega (arith, k.1, (at.done Y (is_done_lem Y l (omega (arith, k.1)))).1, sound.past Y (small Y l))
      ]

  -- ---- the latest

  -- no record from a done point has an open point come before t
  high_ge : t + farthest ≤ never → (q : ℕ) → is_open rs b q ≡ true → t + farthest ≤ high rs b q
  high_ge far q o =
      elim (high_from rs known b q) [
        | inl e ↦ omega (arith, far)
        | inr (X, u, d, r, x, e) ↦
            let undone = (opened rs b q o).2 in
            omega (arith, e, sheet.records r, (at.done X x).1, not_before q ((rules_of rs known).record_points r).1 undone)
      ]

  -- No window has passed.
  in_latest : (q : ℕ) → has q now ≡ true → t ≤ latest rs b
  in_latest q h =
      let n = near q h in
      let far : t + farthest ≤ never = omega (arith, n, sound.few, count_le b.done w.held.done) in
      let past : t + farthest ≤ H rs b = elim (H_at rs b) [ inl e ↦ omega arith | inr (v, o, e) ↦ omega (arith, e, high_ge far v o) ] in
      omega arith

  -- ---- running links

  -- where C is not done, no running link that ends there has run out
  others : (C : ℕ) → ends_running rs b C ≡ true → t ≤ latest_end rs b C
  others C e =
      let k = both (watched rs C) _ e in
      let r = running_of rs known b C k.0 k.1 in
      let l = r.link in
      let inside = (rules_of rs known).link_points l in
      omega (arith, not_before C inside.1 r.undone, sheet.links l, (at.done _ r.started).1, (sheet.within.within l).1)

  -- a watched point of this minute ends a running link, in its bounds
  ended : (C : ℕ) → has C now ≡ true → watched rs C ≡ true → (ends_running rs b C ≡ true) × (soonest_end rs b C ≤ t) × (t ≤ latest_end rs b C)
  ended C h c =
      let k = at.here C h in
      let l = link_of rs known C c in
      let A = (link_to rs C).a in
      let inside = (rules_of rs known).link_points l in
      let within = sheet.within.within l in
      let long = sheet.links l in
      let a = is_done_lem A inside.0 (omega (arith, k.1, (rules_of rs known).link_bounds l)) in
      let m = (at.done A a).1 in
      let runs = is_running rs known b (record { link = l; started = a; undone = k.2 }) in
      (and_both (watched rs C) _ c runs, omega (arith, k.1, within.0), omega (arith, k.1, within.1))

  -- ---- what can happen

  -- Some watched points of this minute, at least one, can happen at once.
  pub set_can_happen : (set : ℕ) → 0 < set → set < 2 ^ most_points → ((q : ℕ) → member set q ≡ true → (has q now ≡ true) × (watched rs q ≡ true))
      → (q : ℕ) → has q now ≡ true → CanHappen p b (record { minute = t; point = no_point; set = set })
  set_can_happen set some fits in-now q h =
      record {
        later = now_clock;
        some = λ e. some;
        small = fits;
        ended = λ C l m. ended C (in-now C m).0 (in-now C m).1;
        others = λ C r n. others C r;
        offered = inl refl;
        in_latest = λ e. in_latest q h;
      }

  -- what is still to be done of this minute is the foreman's
  module _ (rest : (q : ℕ) → has q now ≡ true → watched rs q ≡ false) (q : ℕ) (h : has q now ≡ true) where
    this : (q < points rs) × (g q ≡ t) × (is_done b q ≡ false)
    this = at.here q h

    can_open : Open (net_of rs) (says_of b) q
    can_open =
        record {
          foremans = λ A x y l. clash (sym (joins rs known l).watched ∙ rest q h);
          undone = this.2;
          records = λ {u} {d} {Y} r f. is_done_lem Y ((rules_of rs known).record_points r).1 (omega (arith, sheet.records r, this.1));
          waits = λ {A} {x} {y} {C} l v.
              is_done_lem A ((rules_of rs known).link_points l).0 (omega (arith, sheet.waits l v, (sheet.within.within l).0, ((rules_of rs known).link_bounds l).0, ((rules_of rs known).wait_bounds l v).0, this.1));
        }

    -- a link that is still running at t ends after t
    runs_past : {A x y C : ℕ} → Running (net_of rs) (says_of b) A x y C → t < g C
    runs_past {C = C} r =
        let l = r.link in
        elim (at.left C ((rules_of rs known).link_points l).1 r.undone) [
          | inl c ↦ clash (sym (joins rs known l).watched ∙ rest C c)
          | inr c ↦ at.below (g C) c
        ]

    from_low : FromLow (net_of rs) (says_of b) t q
    from_low =
        record {
          now = now_clock;
          records = λ {u} {d} {Y} r y. omega (arith, sheet.records r, (at.done Y y).1, this.1);
          waits = λ {A} r v. omega (arith, sheet.waits r.link v, sheet.links r.link, runs_past r, (at.done A r.started).1, this.1);
        }

    -- One of the foreman's points of this minute can happen.
    pub point_can_happen : CanHappen p b (record { minute = t; point = q; set = 0 })
    point_can_happen =
        let o = is_open_lem rs known b q this.0 can_open in
        let l = low_from rs known b q t from_low in
        record {
          later = now_clock;
          some = λ e. absurd (omega (arith, this.0, known.few));
          small = omega arith;
          ended = λ C k m. clash (sym m ∙ member_empty C);
          others = λ C r n. others C r;
          offered = inr (low rs b q, is_offered_lem p ok b q o (omega (arith, in_latest q h)), l);
          in_latest = λ e. in_latest q h;
        }
