-- A taken event: what is kept after it is what the whole plan gives at the plain engine's board after it. Assumes that the plan passes
-- the check, that the board is sound and has its room, and that the event's set is one of 32 bits.
use mathlib.Core.Path.{◌≡◌, refl, ◌∙◌, sym}
use mathlib.Core.Logic.{◌⊎◌, ⊎_elim}
use mathlib.Core.Bool.{Bool, true, false, ◌||◌, cond}
use mathlib.Core.List.{List, [], ◌∷◌, ◌++◌, append-nil}
use Prim.Native.Nat.{ℕ, zero, suc, ◌+◌, ◌-◌, ◌^◌, ◌<◌, ◌≤◌}
use native.Mathlib.Omega.{arith}
use borrow.Author.Tests.{eq-eqb, ne_eqb, eqb-true, lt-ltb}
use lib.Dec.{eqb}
use lib.ListN.{length, set}
use Rattle.points.specs.Sets.{member, members_of, passing, from, with_of}
use Rattle.points.proofs.Laws.{count_le}
use Rattle.std.specs.Prelude.{if◌then◌else◌}
use Rattle.plan.specs.Limits.{most_points, most_records, farthest}
use Rattle.plan.specs.APlan.{link, is, link_to, watched, records_of}
use Rattle.plan.specs.ReplyNumbers.{check_of}
use Rattle.records.specs.declared.Record.{Record}
use Rattle.plan.specs.declared.Plan.{Plan}
use Rattle.plan.proofs.Accepted.{Accepted, accepted_plan}
use Rattle.lowhigh.specs.Rules.{never}
use Rattle.events.specs.Inside.{event_in}
use Rattle.board.specs.Boards.{is_done, sound}
use Rattle.board.specs.Calls.{last_call, next_call}
use Rattle.board.specs.Events.{event_minute, event_point, event_set, event_points, no_point, event_number, board_after, mark_all}
use Rattle.board.specs.declared.Board.{Board}
use Rattle.board.proofs.Theorems.Each.{clash, both, either, has, has_append, has_members, members_has}
use Rattle.board.proofs.Theorems.Soundness.{HeldBoard, Sound, sound_means, few_calls}
use Rattle.board.proofs.Theorems.Links.{sound_to_lem}
use Rattle.board.proofs.Theorems.Marks.{named_set}
use Rattle.board.proofs.Theorems.Taking.{Takes, takes, opened, fresh_points, event_sound, event_marks, event_call}
use Rattle.kept.specs.Rooms.{clock_at, last_at, next_in, points_of, all_done_by, event_done_by}
use Rattle.keeping.specs.Keeps.{Listed, Kept, KeptOf}
use Rattle.keeping.proofs.Changes.{done_more}
use Rattle.keeping.proofs.Doing.{Fair, Doable, done_all, set_all, kept_all, kept_timed}

-- ---- no point comes twice

abbrev Distinct : List ℕ → Type 0
Distinct [] = Unit {0}
Distinct (z ∷ zs) = (has z zs ≡ false) × Distinct zs

-- those from p on are not below p
past : (f : ℕ → Bool) (q p n : ℕ) → q < p → has q (passing f (from p n)) ≡ false
unfolding passing from
past f q p zero h = refl
past f q p (suc n) h = go (f p) (past f q (suc p) n (omega arith))
  where
    go : (so : Bool) → has q (passing f (from (suc p) n)) ≡ false → has q (cond so (p ∷ passing f (from (suc p) n)) (passing f (from (suc p) n))) ≡ false
    go true e = rw (ne_eqb q p (λ u. omega arith)) e
    go false e = e

passing_distinct : (f : ℕ → Bool) (p n : ℕ) → Distinct (passing f (from p n))
unfolding passing from
passing_distinct f p zero = tt
passing_distinct f p (suc n) = go (f p) (passing_distinct f (suc p) n)
  where
    go : (so : Bool) → Distinct (passing f (from (suc p) n)) → Distinct (cond so (p ∷ passing f (from (suc p) n)) (passing f (from (suc p) n)))
    go true d = (past f p (suc p) n (omega arith), d)
    go false d = d

members_distinct : (s : ℕ) → Distinct (members_of s)
unfolding members_of
members_distinct s = passing_distinct (member s) 0 32

one_more : (zs : List ℕ) (p : ℕ) → Distinct zs → has p zs ≡ false → Distinct (zs ++ (p ∷ []))
one_more [] p d n = (refl, tt)
one_more (z ∷ zs) p d n =
    let m = neither (eqb p z) (has p zs) n in
    (rw (has_append z zs (p ∷ []), d.0, apart z p m.0), one_more zs p d.1 m.1)
  where
    neither : (x y : Bool) → (x || y) ≡ false → (x ≡ false) × (y ≡ false)
    neither true y e = clash e
    neither false y e = (refl, e)

    apart : (a c : ℕ) → eqb c a ≡ false → (eqb a c || false) ≡ false
    apart a c e = rw (ne_eqb a c (λ u. clash (sym (eq-eqb c a (sym u)) ∙ e)))

-- ---- points that are not done, none twice, each watched one's link running, can be done one after the other

module _ (rs : List Record) (ok : Accepted rs) (few : length rs ≤ most_records) (rows into out ends : List ℕ) (laid : Listed rs rows into out ends)
    (clock t n last : ℕ) (soon : t + farthest + farthest ≤ never) (minutes : List ℕ) where
  doable : (zs : List ℕ) (done : ℕ) → Distinct zs
      → ((q : ℕ) → has q zs ≡ true → (q < most_points) × (member done q ≡ false) × (watched rs q ≡ true → member done (link_to rs q).a ≡ true))
      → Doable rs ok few rows into out ends laid clock t n last soon done zs
  doable [] done d h = tt
  doable (z ∷ zs) done d h =
      let x = h z (rw (eq-eqb z z refl)) in (
        x.0,
        x.1,
        x.2,
        doable zs (with_of done z) d.1
            (λ q m.
            let y = h q (or_true (eqb q z) m) in
            let n : eqb q z ≡ false = ne_eqb q z (λ u. clash (sym (rw u at m) ∙ d.0)) in (
              y.0,
              done_more rs done minutes t z x.0 x.1 q ∙ rw n y.1,
              λ w. done_more rs done minutes t z x.0 x.1 (link_to rs q).a ∙ or_true (eqb (link_to rs q).a z) (y.2 w),
            )),
      )
    where
      or_true : (x : Bool) {y : Bool} → y ≡ true → (x || y) ≡ true
      or_true true e = refl
      or_true false e = e

-- ---- the same board, and the same points

marked_is : (t n : ℕ) (zs : List ℕ) (b : Board) → mark_all t n zs b ≡ record { clock = b.clock; done = done_all zs b.done; minutes = set_all t zs b.minutes; calls = set_all n zs b.calls }
unfolding mark_all done_all set_all
marked_is t n [] b = refl
marked_is t n (z ∷ zs) b = marked_is t n zs (record { clock = b.clock; done = with_of b.done z; minutes = set b.minutes z t; calls = set b.calls z n })

one_after : (rows into out ends : List ℕ) (t n : ℕ) (xs ys kept : List ℕ)
    → all_done_by rows into out ends t n (xs ++ ys) kept ≡ all_done_by rows into out ends t n ys (all_done_by rows into out ends t n xs kept)
unfolding all_done_by
one_after rows into out ends t n [] ys kept = refl
one_after rows into out ends t n (x ∷ xs) ys kept = one_after rows into out ends t n xs ys _

same_point : (p : ℕ) → (eqb p no_point ≡ false → p < most_points) → points_of p ≡ (if eqb p no_point then [] else (p ∷ []))
same_point p small = go (eqb p no_point) refl
  where
    go : (no : Bool) → eqb p no_point ≡ no → points_of p ≡ (if no then [] else (p ∷ []))
    go true e = rw (eqb-true p no_point e)
    go false e = rw (lt-ltb p most_points (small e))

-- ---- a taken event

module _ (p : Plan) (ok : (check_of p).number ≡ 0) (b : Board) (held : HeldBoard b) (good : sound (records_of p) b ≡ true) (s : List ℕ) (fits : event_set s < 2 ^ 32) (e : event_number (records_of p) b s ≡ 0)
    (few : length (records_of p) ≤ most_records) (rows into out ends : List ℕ) (laid : Listed (records_of p) rows into out ends) (kept : List ℕ) (k : KeptOf (records_of p) b kept) where
  abbrev rs : List Record
  rs = records_of p

  abbrev t : ℕ
  t = event_minute s

  abbrev n : ℕ
  n = next_call b

  acc : Accepted rs
  acc = accepted_plan p ok

  safe : Sound rs b
  safe = sound_means rs b good

  tk : Takes rs b s
  tk = takes rs b s e

  soon : t + farthest + farthest ≤ never
  soon =
      let m = event_marks p ok b held good s fits e in
      let w = sound_means rs (board_after b s) (event_sound p ok b held good s fits e) in
      let c = count_le (board_after b s).done m.held.done in
      omega (arith, m.clock, w.few)

  fair : Fair rs b.done b.minutes b.calls
  fair =
      record {
        room = held.room;
        numbers = held.calls;
        near = λ q h. let c = count_le b.done held.done in omega (arith, safe.past q h, safe.few);
        started = λ c w d. ((sound_to_lem rs acc c w b safe).ended (rw (acc.ends c w).1 d)).0;
      }

  new_set : (q : ℕ) → has q (members_of (event_set s)) ≡ true → (q < most_points) × (is_done b q ≡ false) × (watched rs q ≡ true → is_done b (link_to rs q).a ≡ true)
  new_set q m =
      let r = members_has (event_set s) q m in
      let x = tk.ends q r.0 r.1 in (
        r.0,
        fresh_points rs acc b held safe s fits tk q r.0 (named_set s q r.1),
        λ w. (both (is_done b (link_to rs q).a) _ (both (is link (link_to rs q)) _ x.1).1).0,
      )

  -- the event's points
  abbrev Ready : List ℕ → Type 0
  Ready zs = Distinct zs × ((q : ℕ) → has q zs ≡ true → (q < most_points) × (is_done b q ≡ false) × (watched rs q ≡ true → is_done b (link_to rs q).a ≡ true))

  ready : (no : Bool) → eqb (event_point s) no_point ≡ no → Ready (members_of (event_set s) ++ (if no then [] else (event_point s ∷ [])))
  ready true m = rw (append-nil (members_of (event_set s))) (members_distinct (event_set s), new_set)
  ready false m =
      let o = opened rs b (event_point s) (tk.opens m) in
      let l : event_point s < most_points = omega (arith, tk.placed m, acc.few) in
      let here : has (event_point s) (members_of (event_set s)) ≡ false = not_in (member (event_set s) (event_point s)) (has_members (event_set s) (event_point s) l) (λ u. clash (sym (tk.ends (event_point s) l u).0 ∙ o.1)) in (
        one_more (members_of (event_set s)) (event_point s) (members_distinct (event_set s)) here,
        λ q u. ⊎_elim
            (λ v. new_set q v)
            (λ v.
            let x = eqb-true q (event_point s) (only (eqb q (event_point s)) v) in
            rw x (l, o.2, λ w. clash (sym w ∙ o.1)))
            (either (has q (members_of (event_set s))) (has q (event_point s ∷ [])) (sym (has_append q (members_of (event_set s)) (event_point s ∷ [])) ∙ u)),
      )
    where
      not_in : (x : Bool) {y : Bool} → y ≡ x → (x ≡ true → y ≡ false) → y ≡ false
      not_in true e f = f refl
      not_in false e f = e

      only : (x : Bool) → (x || false) ≡ true → x ≡ true
      only true e = refl
      only false e = e

  -- the number of the event is the next one
  next_is : next_in kept ≡ n
  next_is = let c = few_calls rs b good held.done in omega (arith, k.lasts)

  -- the room is the one after all the event's points
  room_is : all_done_by rows into out ends t n (event_points s) (set (set kept clock_at t) last_at n) ≡ event_done_by rows into out ends (event_in s) kept
  room_is =
      one_after rows into out ends t n (members_of (event_set s)) (if eqb (event_point s) no_point then [] else (event_point s ∷ [])) (set (set kept clock_at t) last_at n)
      ∙ rw (next_is, same_point (event_point s) (λ u. omega (arith, tk.placed u, acc.few)))

  after_is : Kept rs t (done_all (event_points s) b.done) (set_all t (event_points s) b.minutes) (set_all n (event_points s) b.calls) n
      (all_done_by rows into out ends t n (event_points s) (set (set kept clock_at t) last_at n))
  after_is =
      let r = ready (eqb (event_point s) no_point) refl in
      kept_all rs acc few rows into out ends laid t t n n soon (event_points s) b.done b.minutes b.calls fair
      (doable rs acc few rows into out ends laid t t n n soon b.minutes (event_points s) b.done r.0 r.1) (set (set kept clock_at t) last_at n)
      (kept_timed rs b.clock b.done b.minutes b.calls (last_call b) kept t n k)

  abbrev end : List ℕ
  end = all_done_by rows into out ends t n (event_points s) (set (set kept clock_at t) last_at n)

  abbrev next : Board
  next = record { clock = t; done = done_all (event_points s) b.done; minutes = set_all t (event_points s) b.minutes; calls = set_all n (event_points s) b.calls }

  board_is : board_after b s ≡ next
  unfolding board_after
  board_is = marked_is t n (event_points s) (record { clock = t; done = b.done; minutes = b.minutes; calls = b.calls })

  on_board : (a : Board) → a ≡ next → (m : ℕ) → m ≡ n → (xs : List ℕ) → end ≡ xs → Kept rs a.clock a.done a.minutes a.calls m xs
  on_board a u m v xs w = rw (u, v, ← w) after_is

  -- THE THEOREM: after a taken event what is kept is what the whole plan gives at the plain engine's next board
  pub kept_event : KeptOf rs (board_after b s) (event_done_by rows into out ends (event_in s) kept)
  kept_event = on_board (board_after b s) board_is (last_call (board_after b s)) (event_call p ok b held good s fits e) (event_done_by rows into out ends (event_in s) kept) room_is
