-- The loop of a run: its boards are those of the rules, and the log has the events so far. Assumes nothing.
use mathlib.Core.Path.{◌≡◌, refl, sym, ap, subst, ◌∙◌}
use mathlib.Core.Bool.{Bool, true, false}
use mathlib.Core.List.{List, [], ◌∷◌, ◌++◌, append-nil, append_assoc}
use Prim.Native.Nat.{ℕ, zero, suc, ◌+◌, ◌-◌, ◌*◌, ◌^◌, ◌≤◌, ◌<◌}
use native.Mathlib.Omega.{arith}
use lib.Dec.{eqb, ltb, leb}
use lib.ListN.{length, get_or, take, drop, set, length-append}
use lib.Seq.{paste, take_at, drop-append-add, drop-drop}
use borrow.Author.Tests.{eq-eqb, ne_eqb, lt-ltb, le-ltb}
use Rattle.points.specs.Sets.{below_of, with_of, from}
use Rattle.std.specs.Prelude.{if◌then◌else◌}
use Rattle.plan.specs.Limits.{most_points, most_records, record_bytes}
use Rattle.plan.specs.APlan.{points, records_of}
use Rattle.plan.specs.ReplyNumbers.{check_of}
use Rattle.plan.specs.declared.Plan.{Plan}
use Rattle.plan.proofs.Accepted.{Accepted, accepted_plan}
use Rattle.records.specs.declared.Record.{Record}
use Rattle.board.specs.Boards.{fresh}
use Rattle.board.specs.Windows.{low}
use Rattle.board.specs.Stuck.{finished}
use Rattle.board.specs.Events.{event_minute, ends_running, mark_all, event_number, board_after}
use Rattle.board.specs.declared.Board.{Board}
use Rattle.board.proofs.Theorems.Soundness.{Sound, sound_means}
use Rattle.events.specs.Inside.{event_in}
use Rattle.events.specs.declared.Event.{Event}
use Rattle.promise.specs.Plays.{event_bytes, first_end, ending_at, comes_first}
use Rattle.promise.specs.Plays as plays
use Rattle.promise.proofs.Executor.{Stands, took}
use Rattle.promise.proofs.Gathering.{set_of_fits}
use Rattle.promise.proofs.Happening.{Reads, reads}
use Rattle.kept.specs.Rooms.{done_at, event_done_by}
use Rattle.keeping.specs.Keeps.{Listed, KeptOf}
use Rattle.keeping.proofs.Fresh.{kept_fresh}
use Rattle.keeping.proofs.Taken.{kept_event}
use Rattle.steps.specs.Events.{made}
use Rattle.steps.specs.Found.{RoomsOf, event_by}
use Rattle.steps.proofs.TheEvent.{event_is}
use Rattle.projection_runs.specs.ProjectionRuns.{offered, aim, aimed, falls, next_event, after, run_from, events_from, run_of, events_of_run, finishing, bytes_of_all}
use Rattle.projection_runs.specs.RunPromises.{Along, start, next, OnTheWay}
use Rattle.projection_runs.specs.Coded.{as_played, Lent, RunReady, RoomsReady, RunAsks, RanOf}
use Rattle.projection_runs.specs.declared.Ran.{Ran}
use Rattle.projection_runs.proofs.Alike.{least_never}
use Rattle.projection_runs.proofs.OnRuns.{along_stands, on_the_way, rest_of, runs_well}

-- ---- bytes

bytes_snoc : (es : List plays.Event) (e : plays.Event) → bytes_of_all (es ++ (e ∷ [])) ≡ bytes_of_all es ++ event_bytes e
unfolding bytes_of_all
bytes_snoc [] e = append-nil (event_bytes e)
bytes_snoc (x ∷ es) e = rw (bytes_snoc es e) (sym (append_assoc (event_bytes x) (bytes_of_all es) (event_bytes e)))

pub length_bytes : (es : List plays.Event) → length (bytes_of_all es) ≡ record_bytes * length es
unfolding bytes_of_all
length_bytes [] = refl
length_bytes (e ∷ es) = rw length-append (omega (arith, length_bytes es))

-- an event more in the log
logged_more : (es : List plays.Event) (e : plays.Event) (k : ℕ) (log : List ℕ) → length es ≡ k
    → paste (bytes_of_all es ++ drop (record_bytes * k) log) (record_bytes * k) (event_bytes e) record_bytes
    ≡ bytes_of_all (es ++ (e ∷ [])) ++ drop (record_bytes * (k + 1)) log
logged_more es e k log long =
    let j : record_bytes * k + record_bytes ≡ record_bytes * (k + 1) = omega arith in
    let n : length (bytes_of_all es) ≡ record_bytes * k = length_bytes es ∙ ap (λ (i : ℕ). record_bytes * i) long in
    let d : drop (record_bytes * k + record_bytes) (bytes_of_all es ++ drop (record_bytes * k) log) ≡ drop (record_bytes * (k + 1)) log =
    rw n at (drop-append-add (bytes_of_all es) (drop (record_bytes * k) log) record_bytes)
    ∙ drop-drop record_bytes (record_bytes * k) log
    ∙ ap (λ (j : ℕ). drop j log) j in
    rw (take_at (bytes_of_all es) (drop (record_bytes * k) log) (record_bytes * k) n, d, bytes_snoc es e)

-- ---- one plan

-- what holds of two events holds of the one that a test takes
of_both : (P : plays.Event → Type 0) (c : Bool) (x y : plays.Event) → P x → P y → P (if c then x else y)
of_both P true x y h k = h
of_both P false x y h k = k

-- the clock stays at the minute at which points are marked
marked_clock : (t n : ℕ) (qs : List ℕ) (b : Board) → (mark_all t n qs b).clock ≡ b.clock
unfolding mark_all
marked_clock t n [] b = refl
marked_clock t n (q ∷ qs) b =
    marked_clock t n qs (record { clock = b.clock; done = with_of b.done q; minutes = set b.minutes q t; calls = set b.calls q n })

clock_after : (b : Board) (s : List ℕ) → (board_after b s).clock ≡ event_minute s
unfolding board_after
clock_after b s = marked_clock (event_minute s) _ _ (record { clock = event_minute s; done = b.done; minutes = b.minutes; calls = b.calls })

-- the run so far: its board, what is kept of it, its minute, and the events that are written
pub record Part (p : Plan) (w log₀ log kept : List ℕ) (last k : ℕ) : Type 0 where
  pub board : Board
  pub along : Along p w board k
  pub held : KeptOf (records_of p) board kept
  pub clock : last ≡ board.clock
  pub written : List plays.Event
  pub long : length written ≡ k
  pub rest : written ++ events_from p w (points (records_of p) - k) board ≡ events_of_run p w
  pub logged : log ≡ bytes_of_all written ++ drop (record_bytes * k) log₀

module _ (p : Plan) {l : Lent} {n : ℕ} {w : List ℕ} (r : RoomsReady p l n w) where
  abbrev rs : List Record
  rs = records_of p

  ok : (check_of p).number ≡ 0
  ok = r.ready.sheet.accepted

  known : Accepted rs
  known = accepted_plan p ok

  few : length rs ≤ most_records
  few = omega (arith, r.ready.sheet.rows, r.ready.sheet.few)

  listed : Listed rs l.sheet l.into l.out l.ends
  listed =
      let e = r.ready.sheet.rows in
      record {
        laid = r.ready.sheet.laid;
        into_is = rw e at r.rooms.into_is;
        out_is = rw e at r.rooms.out_is;
        ends_is = rw e at r.rooms.ends_is;
      }

  module _ {b : Board} {k : ℕ} (a : Along p w b k) where
    way : OnTheWay p w b k
    way = on_the_way p ok r.ready.passes w r.ready.within a

    standing : Stands p b k
    standing = along_stands p ok r.ready.passes w r.ready.within a

    -- there are few events
    pub few_events : k ≤ most_points
    few_events = omega (arith, way.events, known.few)

    module _ (f : finished rs b ≡ false) where
      -- a board that is not finished has an event
      pub one_more : k < points (records_of p)
      one_more = omega (arith, (on_the_way p ok r.ready.passes w r.ready.within (next a f)).events)

      events_next : events_from p w (points rs - k) b ≡ next_event rs w b ∷ events_from p w (points rs - (k + 1)) (after p w b)
      unfolding events_from
      events_next = let e : points rs - k ≡ suc (points rs - (k + 1)) = omega (arith, one_more) in rw (e, f) refl

      -- its numbers fit
      event_fits : ((next_event rs w b).minute < 2 ^ 32) × ((next_event rs w b).set < 2 ^ 32)
      event_fits = of_both (λ (e : plays.Event). (e.minute < 2 ^ 32) × (e.set < 2 ^ 32)) (leb (aim rs b) (first_end rs b (falls rs w b))) _ _
          (omega (arith, least_never (offered rs b) (low rs b) (from 0 most_points)), set_of_fits _ (from 0 most_points))
          (omega (arith, least_never (ends_running rs b) (falls rs w b) (from 0 most_points)), set_of_fits _ (from 0 most_points))

      abbrev bytes : List ℕ
      bytes = event_bytes (next_event rs w b)

      read : Reads (event_bytes (next_event rs w b)) (next_event rs w b)
      read = reads (next_event rs w b) event_fits.0 event_fits.1

      taken : (event_number rs b (event_bytes (next_event rs w b)) ≡ 0) × (after p w b ≡ board_after b (event_bytes (next_event rs w b)))
      taken = took p ok b (event_bytes (next_event rs w b)) way.sound (way.accepted f)

      -- the minute of the board after it
      clock_is : (after p w b).clock ≡ (next_event rs w b).minute
      clock_is = ap (λ (b : Board). b.clock) taken.1 ∙ clock_after b (event_bytes (next_event rs w b)) ∙ read.minute

      module _ {kept : List ℕ} (held : KeptOf rs b kept) where
        -- the code's event is the rules'
        event_known : {e : Event} → e ≡ event_by kept l.starts n w → e ≡ made (next_event rs w b)
        event_known {e} o =
            let i = way.aim f in
            let m = r.ready.sheet.rows in
            o
            ∙ ap (λ (n : ℕ). event_by kept l.starts n w) r.ready.points
            ∙ event_is rs known b (sound_means rs b way.sound) standing.held.done w r.ready.lasts kept held l.sheet r.ready.sheet.laid l.starts (rw m at r.rooms.starts_in)
            ∙ (λ j. made (comes_first rs b (falls rs w b) (sym i.minute j) (sym i.point j)))

        -- and what is kept then is kept of the board after it
        kept_next : {e : Event} {kept' : List ℕ} → e ≡ made (next_event rs w b) → kept' ≡ event_done_by l.sheet l.into l.out l.ends e kept → KeptOf rs (after p w b) kept'
        kept_next {e} {kept'} o u =
            let s = event_bytes (next_event rs w b) in
            let g : event_in (event_bytes (next_event rs w b)) ≡ made (next_event rs w b) = λ i. record { minute = read.minute i; point = read.point i; set = read.set i } in
            let v : kept' ≡ event_done_by l.sheet l.into l.out l.ends (event_in (event_bytes (next_event rs w b))) kept =
            u ∙ ap (λ (e : Event). event_done_by l.sheet l.into l.out l.ends e kept) (o ∙ sym g) in
            rw (v, taken.1)
            (kept_event p ok b standing.held way.sound (event_bytes (next_event rs w b)) (omega (arith, read.set, event_fits.1)) taken.0 few l.sheet l.into l.out l.ends listed kept held)

  -- ---- the loop

  part_start : (log : List ℕ) → Part p w log log l.begun 0 0
  unfolding bytes_of_all
  part_start log =
      let z : points rs - 0 ≡ points rs = omega arith in
      let m = r.ready.sheet.rows in
      record {
        board = fresh;
        along = start;
        held = kept_fresh rs known few l.sheet r.ready.sheet.laid l.begun (rw m at r.rooms.begun_is);
        clock = refl;
        written = [];
        long = refl;
        rest = rw z refl;
        logged = refl;
      }

  module _ {log₀ log kept : List ℕ} {last k : ℕ} (t : Part p w log₀ log kept last k) where
    part_turn : finished rs t.board ≡ false → {e : Event} {log' bytes kept' : List ℕ} {last' : ℕ} → e ≡ event_by kept l.starts n w → bytes ≡ event_bytes (as_played e)
        → log' ≡ paste log (record_bytes * k) bytes record_bytes → kept' ≡ event_done_by l.sheet l.into l.out l.ends e kept → last' ≡ e.minute → Part p w log₀ log' kept' last' (k + 1)
    part_turn f {e} {log'} {bytes} {kept'} {last'} o eb el ek em =
        let b = t.board in
        let known = event_known t.along f t.held o in
        let z : suc k ≡ k + 1 = omega arith in
        let same : bytes ≡ event_bytes (next_event rs w t.board) = eb ∙ ap (λ (e : Event). event_bytes (as_played e)) known in
        record {
          board = after p w t.board;
          along = rw z at (next t.along f);
          held = kept_next t.along f t.held known ek;
          clock = em ∙ ap (λ (e : Event). e.minute) known ∙ sym (clock_is t.along f);
          written = t.written ++ (next_event rs w t.board ∷ []);
          long = rw length-append (omega (arith, t.long));
          rest = append_assoc t.written (next_event rs w t.board ∷ []) (events_from p w (points rs - (k + 1)) (after p w t.board))
              ∙ ap (λ (es : List plays.Event). t.written ++ es) (sym (events_next t.along f))
              ∙ t.rest;
          logged = el ∙ rw (same, t.logged) (logged_more t.written (next_event rs w t.board) k log₀ t.long);
        }

    -- the events that are written fit the log, and one more
    part_room : finished rs t.board ≡ false → k + 1 ≤ length (events_of_run p w)
    part_room f =
        let e = ap length (sym t.rest ∙ sym (ap (λ (es : List plays.Event). t.written ++ es) (sym (events_next t.along f)))) in
        omega (arith, e, length-append t.written (next_event rs w t.board ∷ events_from p w (points rs - (k + 1)) (after p w t.board)), t.long)

    module _ (f : finished rs t.board ≡ true) where
      none_left : (j : ℕ) → events_from p w j t.board ≡ []
      unfolding events_from
      none_left zero = refl
      none_left (suc j) = rw f refl

      stays : (j : ℕ) → run_from p w j t.board ≡ t.board
      unfolding run_from
      stays zero = refl
      stays (suc j) = rw f refl

      part_events : t.written ≡ events_of_run p w
      part_events = sym (append-nil t.written) ∙ ap (λ (es : List plays.Event). t.written ++ es) (sym (none_left (points rs - k))) ∙ t.rest

      part_minute : last ≡ finishing p w
      part_minute =
          t.clock
          ∙ ap (λ (b : Board). b.clock)
          (sym (rest_of p ok r.ready.passes w (points rs - k) (points rs) t.along (omega (arith, (way t.along).events)) ∙ stays (points rs - k)))

      part_count : k ≡ length (events_of_run p w)
      part_count = sym t.long ∙ ap length part_events

      part_logged : log ≡ bytes_of_all (events_of_run p w) ++ drop (record_bytes * length (events_of_run p w)) log₀
      part_logged = t.logged ∙ (λ i. bytes_of_all (part_events i) ++ drop (record_bytes * part_count i) log₀)

-- a run has few events
pub few_of_run : (p : Plan) {s : List ℕ} {m n : ℕ} {w : List ℕ} → RunReady p s m n w → length (events_of_run p w) ≤ most_points
few_of_run p {w = w} r =
    let e = runs_well p r.sheet.accepted r.passes w r.within in
    omega (arith, (e.each _ _ e.ends).events, (accepted_plan p r.sheet.accepted).few)

-- ---- whatever plan the rooms have

pub record Going (l : Lent) (n : ℕ) (w log₀ log kept : List ℕ) (last k : ℕ) : Type 0 where
  pub same : length log ≡ length log₀
  pub of : (p : Plan) → RoomsReady p l n w → Part p w log₀ log kept last k

pub going_start : (l : Lent) (n : ℕ) (w log : List ℕ) → Going l n w log log l.begun 0 0
going_start l n w log = record { same = refl; of = λ p r. part_start p r log }

module _ {l : Lent} {n : ℕ} {w log₀ log kept : List ℕ} {last k all : ℕ} (g : Going l n w log₀ log kept last k) (e : all ≡ below_of n) where
  -- what the code's test says
  not_finished : (get_or kept done_at 0 ≡ all → ⊥) → (p : Plan) (r : RoomsReady p l n w) → finished (records_of p) (g.of p r).board ≡ false
  not_finished h p r = ne_eqb (g.of p r).board.done (below_of (points (records_of p))) (λ f. h ((g.of p r).held.dones ∙ f ∙ sym (e ∙ ap below_of r.ready.points)))

  is_finished : get_or kept done_at 0 ≡ all → (p : Plan) (r : RoomsReady p l n w) → finished (records_of p) (g.of p r).board ≡ true
  is_finished h p r = eq-eqb (g.of p r).board.done (below_of (points (records_of p))) (sym (g.of p r).held.dones ∙ h ∙ e ∙ ap below_of r.ready.points)

  module _ (asks : RunAsks l n w log₀) where
    abbrev own : Part asks.plan w log₀ log kept last k
    own = g.of asks.plan asks.ready

    pub going_few : k ≤ most_points
    going_few = few_events asks.plan asks.ready own.along

    module _ (h : get_or kept done_at 0 ≡ all → ⊥) where
      pub going_room : record_bytes * k + record_bytes ≤ length log
      going_room =
          omega (arith, part_room asks.plan asks.ready own (not_finished h asks.plan asks.ready), asks.room, g.same)

      pub going_less : k < n
      going_less = omega (arith, one_more asks.plan asks.ready own.along (not_finished h asks.plan asks.ready), asks.ready.ready.points)

  pub going_turn : (get_or kept done_at 0 ≡ all → ⊥) → {e : Event} {log' bytes kept' : List ℕ} → e ≡ event_by kept l.starts n w → bytes ≡ event_bytes (as_played e)
      → log' ≡ paste log (record_bytes * k) bytes record_bytes → kept' ≡ event_done_by l.sheet l.into l.out l.ends e kept → length log' ≡ length log → {last' : ℕ} → last' ≡ e.minute
      → Going l n w log₀ log' kept' last' (k + 1)
  going_turn h {e} o eb el ek same em =
      record { same = same ∙ g.same; of = λ p r. part_turn p r (g.of p r) (not_finished h p r) o eb el ek em }

  pub going_end : get_or kept done_at 0 ≡ all → RanOf l n w log₀ log (record { minute = last; events = k })
  going_end h =
      record {
        minute = λ p r. part_minute p r (g.of p r) (is_finished h p r);
        events = λ p r. part_count p r (g.of p r) (is_finished h p r);
        written = λ p r. part_logged p r (g.of p r) (is_finished h p r);
      }

-- the rooms that are begun on the sheet are those of each plan that it has
pub rooms_ready : {l : Lent} {m n : ℕ} {w : List ℕ} → RoomsOf l.sheet m l.into l.out l.ends l.begun l.starts → (p : Plan) → RunReady p l.sheet m n w → RoomsReady p l n w
rooms_ready o p r = record { m = _; ready = r; rooms = o }
