-- The board after an event that is taken, in the words of `take_of`: what it marks, what stays, how far its minute can be. For a
-- plan that is accepted, passing or not. Assumes that the board before is sound.
use mathlib.Core.Path.{◌≡◌, refl, sym, ◌∙◌}
use mathlib.Core.Logic.{inl, inr}
use mathlib.Core.Bool.{Bool, true, false}
use mathlib.Core.List.{List}
use Prim.Native.Nat.{ℕ, ◌+◌, ◌≤◌}
use native.Mathlib.Omega.{arith}
use lib.Dec.{eqb}
use Rattle.points.specs.Sets.{first_of}
use Rattle.points.proofs.Laws.{member_small, first_member}
use Rattle.plan.specs.Limits.{farthest}
use Rattle.plan.specs.APlan.{link_to, records_of}
use Rattle.plan.specs.Held.{All, IsByte}
use Rattle.plan.specs.ReplyNumbers.{check_of}
use Rattle.records.specs.declared.Record.{Record}
use Rattle.plan.specs.declared.Plan.{Plan}
use Rattle.plan.proofs.Accepted.{Accepted, accepted_plan}
use Rattle.board.specs.Boards.{is_done, minute, sound}
use Rattle.board.specs.Events.{event_minute, event_point, event_set, no_point, take_of}
use Rattle.board.specs.declared.Board.{Board}
use Rattle.board.proofs.Theorems.Each.{clash}
use Rattle.board.proofs.Theorems.Soundness.{HeldBoard, Sound, sound_means, fresh_sound}
use Rattle.board.proofs.Theorems.Links.{link_to_lem}
use Rattle.board.proofs.Theorems.Marks.{names, Marks}
use Rattle.board.proofs.Theorems.Taking.{Takes, takes, something_open, fresh_points, event_marks, event_sound}
use Rattle.promise.specs.Runs.{Run, start, next}
use Rattle.promise.proofs.Standing.{told}
use Rattle.promise.proofs.Executor.{set_fits, took}

module _ (p : Plan) (ok : (check_of p).number ≡ 0) {b : Board} (held : HeldBoard b) (good : sound (records_of p) b ≡ true) (s : List ℕ) (bytes : All IsByte s) (e : (take_of p b s).number ≡ 0) where
  abbrev rs : List Record
  rs = records_of p

  known : Accepted rs
  known = accepted_plan p ok

  abbrev a : Board
  a = (take_of p b s).board

  before : Sound rs b
  before = sound_means rs b good

  -- It gets none of the numbers, and marks all its points.
  pub take : Takes (records_of p) b s
  take = takes rs b s (took p ok b s good e).0

  pub marks : Marks b s (take_of p b s).board
  marks = let t = took p ok b s good e in rw t.1 (event_marks p ok b held good s (set_fits s bytes) t.0)

  pub good_after : sound (records_of p) (take_of p b s).board ≡ true
  good_after = let t = took p ok b s good e in rw t.1 (event_sound p ok b held good s (set_fits s bytes) t.0)

  -- What was done before stays done, at its minute.
  pub stays : (q : ℕ) → is_done b q ≡ true → (is_done (take_of p b s).board q ≡ true) × (minute (take_of p b s).board q ≡ minute b q)
  stays q d =
      let l = member_small b.done q held.done d in
      elim (told (names s) q) [
        | inl n ↦ clash (sym d ∙ fresh_points rs known b held before s (set_fits s bytes) take q l n)
        | inr n ↦ (rw (marks.done q l, d), marks.there q l n)
      ]

  -- What is done after it and is none of its points was done before.
  pub was_done : (q : ℕ) → is_done (take_of p b s).board q ≡ true → names s q ≡ false → is_done b q ≡ true
  was_done q d n =
      elim (told (is_done b) q) [ inl o ↦ o | inr u ↦ clash (sym d ∙ rw (marks.done q (member_small a.done q marks.held.done d), u) n) ]

  -- It is at most 100,000 past the clock.
  pub near_clock : event_minute s ≤ b.clock + farthest
  near_clock = go (eqb (event_point s) no_point) refl
    where
      go : (c : Bool) → eqb (event_point s) no_point ≡ c → event_minute s ≤ b.clock + farthest
      go true e =
          let f = first_member (event_set s) (take.some e) (set_fits s bytes) in
          let C = first_of (event_set s) in
          let l = link_to_lem rs known C (take.ends C f.small f.there).0 in
          omega (arith, (take.timely C f.small f.there).1, before.past (link_to rs C).a l.from, l.long)
      go false e =
          omega (arith, take.in_latest (something_open rs b (event_point s) (omega (arith, take.placed e, known.few)) (take.opens e)))

-- what every board that accepted events reach keeps
pub record Sturdy (p : Plan) (b : Board) : Type 0 where
  pub held : HeldBoard b
  pub good : sound (records_of p) b ≡ true

-- Whether the plan passes or not, every board that accepted events reach is sound.
pub sturdy : (p : Plan) (ok : (check_of p).number ≡ 0) {b : Board} {k : ℕ} → Run p b k → Sturdy p b
sturdy p ok start = record { held = record { room = refl; done = omega arith; calls = refl }; good = fresh_sound (records_of p) }
sturdy p ok (next s r bytes e) =
    let w = sturdy p ok r in
    record { held = (marks p ok w.held w.good s bytes e).held; good = good_after p ok w.held w.good s bytes e }
