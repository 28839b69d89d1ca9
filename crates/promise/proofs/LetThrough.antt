-- The converse of `GoodSheets`: for a plan that is accepted and passes, every board that accepted events finish shows a good
-- sheet, so the sheets that the engine lets through are exactly the good ones. Assumes nothing of boards or events.
use mathlib.Core.Path.{◌≡◌, refl, sym, ap, ◌∙◌}
use mathlib.Core.Logic.{◌⊎◌, inl, inr}
use mathlib.Core.Bool.{Bool, true, false}
use mathlib.Core.List.{List}
use Prim.Native.Nat.{ℕ, ◌+◌, ◌≤◌, ◌<◌}
use native.Mathlib.Omega.{arith}
use native.Mathlib.Decide.{dec_lt}
use Rattle.points.proofs.Laws.{member_empty, member_small}
use Rattle.plan.specs.Limits.{most_points, farthest}
use Rattle.plan.specs.APlan.{points, link_to, records_of}
use Rattle.plan.specs.Held.{All, IsByte}
use Rattle.plan.specs.ReplyNumbers.{check_of}
use Rattle.records.specs.declared.Record.{Record}
use Rattle.plan.specs.declared.Plan.{Plan}
use Rattle.plan.proofs.Accepted.{Accepted, accepted_plan}
use Rattle.board.specs.Boards.{is_done, minute}
use Rattle.board.specs.Stuck.{finished}
use Rattle.board.specs.Events.{event_minute, take_of}
use Rattle.board.specs.declared.Board.{Board}
use Rattle.board.proofs.Theorems.Each.{clash}
use Rattle.board.proofs.Theorems.Soundness.{sound_means}
use Rattle.board.proofs.Theorems.Marks.{names, Marks}
use Rattle.network.proofs.Plans.{InTime, Kept}
use Rattle.network.proofs.Safety.{all_kept}
use Rattle.vee.specs.PlanTest.{LinkIn, net_of}
use Rattle.promise.specs.Nets.{PassesPlan}
use Rattle.promise.specs.Runs.{Run, start, next, Reached}
use Rattle.promise.specs.GoodSheets.{GoodSheet, LetThrough, lasted, ExactlyTheGood, ForbidsGood}
use Rattle.promise.proofs.Nets.{joins, rules_of}
use Rattle.promise.proofs.Boards.{says_of, in_time_of}
use Rattle.promise.proofs.Standing.{told, all_done}
use Rattle.promise.proofs.Executor.{Stands, stands}
use Rattle.promise.proofs.After.{take, marks, stays, was_done, near_clock}
use Rattle.promise.proofs.Orders.{NearPoint, points_near}
use Rattle.promise.proofs.GoodSheets.{good_given, good_through}

-- ---- the minutes of a run have no wide gaps

-- the minute t is at most 100,000 past 0, or past the earlier minute of a done point
abbrev NearDone : Board → ℕ → Type 0
NearDone b t = (t ≤ farthest) ⊎ ((Y : ℕ) × (is_done b Y ≡ true) × (minute b Y < t) × (t ≤ minute b Y + farthest))

module _ (p : Plan) (ok : (check_of p).number ≡ 0) where
  abbrev rs : List Record
  rs = records_of p

  known : Accepted rs
  known = accepted_plan p ok

  module _ (passes : PassesPlan p) where
    module _ {b : Board} {k : ℕ} (s : List ℕ) (r : Run p b k) (bytes : All IsByte s) (e : (take_of p b s).number ≡ 0) (before : (q : ℕ) → is_done b q ≡ true → NearDone b (minute b q)) where
      abbrev a : Board
      a = (take_of p b s).board

      w : Stands p b k
      w = stands p ok passes r

      m : Marks b s a
      m = marks p ok w.held w.good s bytes e

      still : (t : ℕ) → NearDone b t → NearDone a t
      still t (inl h) = inl h
      still t (inr (Y, d, x, y)) = let k = stays p ok w.held w.good s bytes e Y d in inr (Y, k.0, omega (arith, k.1), omega (arith, k.1))

      -- the event's own minute
      now : NearDone b (event_minute s)
      now = go (sound_means rs b w.good).attained
        where
          near : event_minute s ≤ b.clock + farthest
          near = near_clock p ok w.held w.good s bytes e

          at_clock : (q : ℕ) → minute b q ≡ b.clock → event_minute s ≡ b.clock → NearDone b (minute b q) → NearDone b (event_minute s)
          at_clock q m f (inl h) = inl (omega arith)
          at_clock q m f (inr (Y, d, x, y)) = inr (Y, d, omega arith, omega arith)

          go : (b.clock ≡ 0) ⊎ ((q : ℕ) × (q < most_points) × (is_done b q ≡ true) × (minute b q ≡ b.clock)) → NearDone b (event_minute s)
          go (inl z) = inl (omega (arith, near))
          go (inr (q, l, d, m)) =
              elim (dec_lt b.clock (event_minute s)) [
                | yes h ↦ inr (q, d, omega arith, omega (arith, near))
                | no h ↦ at_clock q m (omega (arith, (take p ok w.held w.good s bytes e).later)) (before q d)
              ]

      near_after : (q : ℕ) → is_done a q ≡ true → NearDone a (minute a q)
      near_after q d = let l = member_small a.done q m.held.done d in go l (names s q) refl
        where
          go : q < most_points → (n : Bool) → names s q ≡ n → NearDone a (minute a q)
          go l true n = rw (m.here q l n) (still (event_minute s) now)
          go l false n = rw (m.there q l n) (still (minute b q) (before q (was_done p ok w.held w.good s bytes e q d n)))

    -- Each done point comes at most 100,000 past 0, or past an earlier done point.
    near_run : {b : Board} {k : ℕ} → Run p b k → (q : ℕ) → is_done b q ≡ true → NearDone b (minute b q)
    near_run start q d = clash (sym d ∙ member_empty q)
    near_run (next s r bytes e) q d = near_after s r bytes e (λ i h. near_run r i h) q d

    -- ---- a sheet that is let through

    module _ (g : ℕ → ℕ) (let_through : LetThrough p g) where
      abbrev board : Board
      board = let_through.board

      stand : Stands p board let_through.reached.events
      stand = stands p ok passes let_through.reached.run

      time : InTime (net_of rs) (says_of board)
      time = in_time_of rs known board (sound_means rs board stand.good)

      all : (q : ℕ) → q < points rs → is_done board q ≡ true
      all = all_done rs board known.few let_through.shows.finished

      kept : Kept (net_of rs) (says_of board)
      kept = all_kept (rules_of rs known) passes time stand.safe all

      same : (q : ℕ) → q < points rs → minute board q ≡ g q
      same = let_through.shows.minutes

      -- a link's own duration is in bounds
      long : {A x y C : ℕ} → LinkIn rs A x y C → (g C ≡ g A + lasted rs g C) × (x ≤ lasted rs g C) × (lasted rs g C ≤ y)
      long {A} {x} {y} {C} l =
          let inside = (rules_of rs known).link_points l in
          let from : g (link_to rs C).a ≡ g A = ap g (joins rs known l).from in
          let i = time.ended l (all C inside.1) in
          let a = same A inside.0 in
          let c = same C inside.1 in
          (omega (arith, i.0), omega (arith, i.0), omega (arith, i.1))

      near : (X : ℕ) → X < points rs → NearPoint (points rs) g X
      near X l = go (near_run let_through.reached.run X (all X l))
        where
          go : NearDone board (minute board X) → NearPoint (points rs) g X
          go (inl h) = inl (omega (arith, same X l))
          go (inr (Y, d, x, y)) =
              let inside = (sound_means rs board stand.good).inside Y (member_small board.done Y stand.held.done d) d in
              inr (Y, inside, omega (arith, same X l, same Y inside), omega (arith, same X l, same Y inside))

      -- It is a good sheet.
      pub through_good : GoodSheet p (lasted (records_of p) g) g
      through_good =
          record {
            within = record { within = λ l. let i = long l in (i.1, i.2) };
            records = λ {X} {up} {down} {Y} r.
                let inside = (rules_of rs known).record_points r in
                omega (arith, kept.records r, same X inside.0, same Y inside.1);
            links = λ l. (long l).0;
            waits = λ {A} {x} {y} {B} {C} l v.
                let inside = (rules_of rs known).link_points l in
                omega (arith, kept.waits l v, same A inside.0, same C inside.1, same B ((rules_of rs known).wait_point v), (long l).0);
            first = (points_near (points rs) g near).0;
            near = (points_near (points rs) g near).1;
          }

    -- What a finished board shows is let through.
    ended : (b : Board) → Reached p b → finished rs b ≡ true → LetThrough p (minute b)
    ended b r f =
        let w = stands p ok passes r.run in
        let sound = sound_means rs b w.good in
        record {
          board = b;
          reached = r;
          shows = record {
            finished = f;
            minutes = λ q l. refl;
            room = λ q l k. sound.nought q k (elim (told (is_done b) q) [ inl d ↦ absurd (omega (arith, sound.inside q k d)) | inr u ↦ u ]);
          };
        }

    -- For a plan that is accepted and passes, the sheets that the engine lets through are exactly the good ones.
    pub exactly_the_good : ExactlyTheGood p
    exactly_the_good =
        record { given = good_given p ok passes; through = good_through p ok passes; ended = ended; good = through_good }

-- A plan that forbids a good sheet does not pass.
pub forbidding_fails : (p : Plan) → ForbidsGood p → PassesPlan p → ⊥
forbidding_fails p f passes = f.none (good_through p f.accepted passes f.ω f.g f.good)
