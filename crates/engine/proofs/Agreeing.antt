-- The engine that keeps counts agrees with the plain one: at the fresh board, after every event, taken or refused, and so after any
-- sequence of them. Assumes nothing.
use mathlib.Core.Path.{◌≡◌, refl, ◌∙◌, sym, ap}
use mathlib.Core.Bool.{Bool, true, false, not}
use mathlib.Core.List.{List, [], ◌∷◌}
use Prim.Native.Nat.{ℕ, ◌<◌, ◌≤◌}
use native.Mathlib.Omega.{arith}
use borrow.Author.Tests.{eq-eqb, eqb-true}
use lib.Dec.{lit<, eqb}
use lib.ListN.{length, length-replicate}
use lib.Seq.{ext_get_or}
use Rattle.std.specs.Prelude.{if◌then◌else◌}
use Rattle.plan.specs.Limits.{most_points, most_records}
use Rattle.plan.specs.APlan.{records_of}
use Rattle.plan.specs.ReplyNumbers.{check_of}
use Rattle.plan.specs.declared.Plan.{Plan}
use Rattle.plan.specs.declared.Refusal.{Refusal}
use Rattle.plan.proofs.Accepted.{Accepted, accepted_plan}
use Rattle.records.specs.declared.Record.{Record}
use Rattle.links.specs.declared.Links.{Links}
use Rattle.events.specs.Inside.{event_in}
use Rattle.windows.specs.Inside.{WindowsOf}
use Rattle.windows.specs.declared.Windows.{Windows}
use Rattle.board.specs.Boards.{fresh, sound}
use Rattle.board.specs.Events.{event_number, event_record, board_after, taken, take_of}
use Rattle.board.specs.Streams.{board_after_all}
use Rattle.board.specs.declared.Board.{Board}
use Rattle.board.specs.declared.Taken.{Taken}
use Rattle.board.proofs.Theorems.Soundness.{HeldBoard, fresh_sound}
use Rattle.board.proofs.Theorems.Taking.{event_sound, event_marks}
use Rattle.replies.specs.Replies.{sound_reply, reply_of}
use Rattle.replies.specs.declared.Reply.{Reply}
use Rattle.planless.specs.ByWindows.{with_record}
use Rattle.board.specs.ByWindows.{event_by}
use Rattle.board.proofs.ByPlan.{number_same, record_same}
use Rattle.replies.proofs.ByPlan.{reply_same}
use Rattle.kept.specs.Rooms.{event_done_by}
use Rattle.keeping.proofs.Taken.{kept_event}
use Rattle.kept_windows.specs.Answers.{Answered}
use Rattle.kept_windows.proofs.Answering.{windows_are}
use Rattle.rooms.specs.Filling.{BeginsWith}
use Rattle.rooms.specs.declared.Started.{Started}
use Rattle.rooms.proofs.Beginning.{few_records, all_records, fresh_kept}
use Rattle.engine.specs.Takes.{BoardIn, NumbersWith, TakesWith, RepliesWith}
use Rattle.engine.specs.Agreement.{Agrees, Runs, ended, went, answers_of}

-- ---- the beginning

pub begins_agrees : (p : Plan) (s : Started) (rows₀ into₀ out₀ ends₀ kept₀ rows into out ends kept : List ℕ)
    → BeginsWith p s rows₀ into₀ out₀ ends₀ kept₀ rows into out ends kept → s.number ≡ 0 → Agrees p s.links rows into out ends fresh kept
begins_agrees p s rows₀ into₀ out₀ ends₀ kept₀ rows into out ends kept b z =
    let ok : (check_of p).number ≡ 0 = sym b.number ∙ z in
    let f = b.taken ok in
    record {
      accepted = ok;
      room = b.room;
      links = b.links;
      listed = f.listed;
      minutes = length-replicate {A = ℕ} most_points 0;
      calls = length-replicate {A = ℕ} most_points 0;
      small = lit< tt;
      sound = fresh_sound (records_of p);
      counts = fresh_kept p ok b.room rows into out ends kept f;
    }

-- ---- rooms that agree

module _ (p : Plan) (l : Links) (rows into out ends : List ℕ) (b : Board) (kept : List ℕ) (a : Agrees p l rows into out ends b kept) where
  abbrev rs : List Record
  rs = records_of p

  acc : Accepted rs
  acc = accepted_plan p a.accepted

  few : length rs ≤ most_records
  few = let n = few_records p a.accepted in omega (arith, all_records p n a.room)

  held : HeldBoard b
  held = record { room = a.minutes; done = a.small; calls = a.calls }

  -- the board that the room holds is the plain engine's
  pub board_agrees : (c : Board) → BoardIn kept c → c ≡ b
  board_agrees c h =
      let m : c.minutes ≡ b.minutes = ext_get_or 0 c.minutes b.minutes (h.minutes.long ∙ sym a.minutes) (λ q i. let k : q < most_points = omega (arith, h.minutes.long) in h.minutes.each q k ∙ a.counts.minute q k) in
      let n : c.calls ≡ b.calls = ext_get_or 0 c.calls b.calls (h.calls.long ∙ sym a.calls) (λ q i. let k : q < most_points = omega (arith, h.calls.long) in h.calls.each q k ∙ a.counts.call q k) in
      let t : c.clock ≡ b.clock = h.clock ∙ a.counts.clocks in
      let d : c.done ≡ b.done = h.done ∙ a.counts.dones in
      λ i. record { clock = t i; done = d i; minutes = m i; calls = n i }

  windows_here : (w : Windows) → Answered rows out kept l.points l.watched w → WindowsOf rs b.clock b.done b.minutes w
  windows_here w h = windows_are rs b.clock b.done b.minutes b.calls _ kept a.counts l a.links acc few rows into out ends a.listed w h

  -- the plain engine's reply
  plain_reply : reply_of p b ≡ sound_reply rs b
  unfolding reply_of
  plain_reply = rw (eq-eqb (check_of p).number 0 a.accepted, a.sound)

  -- THE SAME REPLY
  pub reply_agrees : (r : Reply) → RepliesWith l rows out kept r → r ≡ reply_of p b
  reply_agrees r h =
      let e = board_agrees h.board h.holds in
      (rw e at h.found) ∙ (reply_same rs acc l a.links b h.windows (windows_here h.windows h.answers) ∙ sym plain_reply)

  -- ---- an event

  module _ (s : List ℕ) where
    -- the plain engine's answer
    plain_take : take_of p b s ≡ (if not (eqb (event_number rs b s) 0) then taken (event_number rs b s) (event_record rs b s) b else taken 0 0 (board_after b s))
    unfolding take_of
    plain_take = rw (eq-eqb (check_of p).number 0 a.accepted, a.sound)

    refused_is : eqb (event_number rs b s) 0 ≡ false → take_of p b s ≡ taken (event_number rs b s) (event_record rs b s) b
    refused_is e = plain_take ∙ rw e

    taken_is : eqb (event_number rs b s) 0 ≡ true → take_of p b s ≡ taken 0 0 (board_after b s)
    taken_is e = plain_take ∙ rw e

    module _ (r : Refusal) (h : NumbersWith l rows out kept s r) where
      found : r ≡ with_record l b.done h.windows s (event_by l b h.windows s)
      found = rw (board_agrees h.board h.holds) at h.found

      -- the number, and the record beside it
      number_is : r.number ≡ event_number rs b s
      number_is = ap (λ (x : Refusal). x.number) found ∙ number_same rs acc l a.links b h.windows (windows_here h.windows h.answers) s

      record_is : r.place ≡ event_record rs b s
      record_is = ap (λ (x : Refusal). x.place) found ∙ record_same rs acc l a.links b h.windows (windows_here h.windows h.answers) s

    -- what an engine answers and keeps is the plain engine's t
    pub record Same (t : Taken) (r : Refusal) (kept' : List ℕ) : Type 0 where
      pub number : r.number ≡ t.number
      pub place : r.place ≡ t.place
      pub agrees : Agrees p l rows into out ends t.board kept'

    refused_same : (r : Refusal) (kept' : List ℕ) → TakesWith l rows into out ends kept s r kept' → eqb (event_number rs b s) 0 ≡ false → Same (taken (event_number rs b s) (event_record rs b s) b) r kept'
    refused_same r kept' h e =
        let n = number_is r h.numbers in
        let k : kept' ≡ kept = rw (n, e) at h.after in
        record { number = n; place = record_is r h.numbers; agrees = rw k a }

    taken_same : (r : Refusal) (kept' : List ℕ) → TakesWith l rows into out ends kept s r kept' → eqb (event_number rs b s) 0 ≡ true → Same (taken 0 0 (board_after b s)) r kept'
    taken_same r kept' h e =
        let z = eqb-true (event_number rs b s) 0 e in
        let n = number_is r h.numbers ∙ z in
        let k : kept' ≡ event_done_by rows into out ends (event_in s) kept = rw n at h.after in
        let f = h.fits n in
        let m = event_marks p a.accepted b held a.sound s f z in
        record {
          number = n;
          place = record_is r h.numbers ∙ rw z;
          agrees =
              record {
                accepted = a.accepted;
                room = a.room;
                links = a.links;
                listed = a.listed;
                minutes = m.held.room;
                calls = m.held.calls;
                small = m.held.done;
                sound = event_sound p a.accepted b held a.sound s f z;
                counts = rw k (kept_event p a.accepted b held a.sound s f z few rows into out ends a.listed kept a.counts);
              };
        }

    -- THE SAME NUMBER, RECORD AND BOARD: taken and refused
    pub take_agrees : (r : Refusal) (kept' : List ℕ) → TakesWith l rows into out ends kept s r kept' → Same (take_of p b s) r kept'
    take_agrees r kept' h = go (eqb (event_number rs b s) 0) refl
      where
        go : (so : Bool) → eqb (event_number rs b s) 0 ≡ so → Same (take_of p b s) r kept'
        go true e = rw (taken_is e) (taken_same r kept' h e)
        go false e = rw (refused_is e) (refused_same r kept' h e)

-- ---- any sequence of events, taken and refused

-- THE WHOLE RUN: the same numbers and records, and the rooms agree with the plain engine's board after it
pub runs_agree : (p : Plan) (l : Links) (rows into out ends : List ℕ) (b : Board) (kept kept' : List ℕ) (ss : List (List ℕ)) (rs : List Refusal) → Agrees p l rows into out ends b kept
    → Runs l rows into out ends kept ss rs kept' → (rs ≡ answers_of p b ss) × Agrees p l rows into out ends (board_after_all p b ss) kept'
unfolding answers_of board_after_all
runs_agree p l rows into out ends b kept kept' ss rs a ended = (refl, a)
runs_agree p l rows into out ends b kept kept' ss rs a (went {kept' = k} {s = s} {ss = ts} {r = r} {rs = qs} h g) =
    let t = take_agrees p l rows into out ends b kept a s r k h in
    let e : r ≡ record { number = (take_of p b s).number; place = (take_of p b s).place } = λ i. record { number = t.number i; place = t.place i } in
    let f = runs_agree p l rows into out ends (take_of p b s).board k kept' ts qs t.agrees g in
    (λ i. e i ∷ f.0 i, f.1)
