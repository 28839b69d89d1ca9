-- A sound board between events of a plan that passes: it is not stuck, no more points are done than there are, and where
-- all are done each record is kept. Assumes that the records keep the rules of a plan.
use mathlib.Core.Path.{◌≡◌, refl, sym, ◌∙◌}
use mathlib.Core.Logic.{◌⊎◌, inl, inr}
use mathlib.Core.Bool.{Bool, true, false, not, cond, ◌||◌}
use mathlib.Core.List.{List, [], ◌∷◌}
use Prim.Native.Nat.{ℕ, zero, suc, ◌+◌, ◌-◌, ◌≤◌, ◌<◌, min}
use native.Mathlib.Omega.{arith}
use lib.Dec.{ltb}
use lib.ListN.{length, get_or}
use borrow.Author.Tests.{ltb-true, lt-ltb, le-leb, eqb-true, eq-eqb, not-true}
use Rattle.points.specs.Sets.{member, members_of, count_of, below_of, passing, from}
use Rattle.points.proofs.Laws.{member_small, member_below, same_members, below_fits, count_le, count_members}
use Rattle.std.specs.Prelude.{if◌then◌else◌}
use Rattle.plan.specs.Limits.{most_points, farthest}
use Rattle.plan.specs.APlan.{ordinary, wait, is, some, points, link_to, blank, gap_of}
use Rattle.records.specs.declared.Record.{Record}
use Rattle.plan.proofs.Accepted.{Accepted}
use Rattle.board.specs.Boards.{is_done, minute, running}
use Rattle.board.specs.Windows.{is_open, low, never, high, H, some_open, all_above}
use Rattle.board.specs.Stuck.{finished, stuck}
use Rattle.verdict.specs.Verdicts.{ordinary_kept, wait_kept, kept, first_broken}
use Rattle.board.specs.declared.Board.{Board}
use Rattle.verdict.specs.declared.Verdict.TheVariants.{Kept}
use Rattle.board.proofs.Theorems.Each.{clash, unless, every_point, point_every}
use Rattle.board.proofs.Theorems.Soundness.{HeldBoard, Sound}
use Rattle.board.proofs.Theorems.Low.{low_near}
use Rattle.board.proofs.Theorems.Taking.{opened, something_open}
use Rattle.network.specs.Projection.{Edge}
use Rattle.network.specs.Projection as projection
use Rattle.network.specs.Passing.{Passes}
use Rattle.network.proofs.States.{Invariant}
use Rattle.network.proofs.Search.{all_or_one}
use Rattle.network.proofs.Stuck.{bound_now}
use Rattle.network.proofs.Plans.{Ready, opens, runs, Safe, InTime}
use Rattle.network.proofs.Durations as durations
use Rattle.network.proofs.Safety.{open_or_running, low_to_high, all_kept}
use Rattle.vee.specs.PlanTest.{Has, OrdinaryIn, net_of}
use Rattle.promise.proofs.Nets.{keeps, has_some, ordinary_in, wait_in, link_of, rules_of}
use Rattle.promise.proofs.Boards.{says_of, H_at, in_time_of, open_of, is_open_lem, low_from, high_from}

-- Each number passes a test or does not.
pub told : (f : ℕ → Bool) (q : ℕ) → (f q ≡ true) ⊎ (f q ≡ false)
told f q = go (f q) refl
  where
    go : (b : Bool) → f q ≡ b → (f q ≡ true) ⊎ (f q ≡ false)
    go true e = inl e
    go false e = inr e

-- ---- how many points are done

few_passing : (f : ℕ → Bool) (n : ℕ) → ((q : ℕ) → f q ≡ true → q < n) → (m p : ℕ) → length (passing f (from p m)) + min p n ≤ n
unfolding passing from
few_passing f n h zero p = omega arith
few_passing f n h (suc m) p = go (f p) refl (few_passing f n h m (suc p))
  where
    go : (b : Bool) → f p ≡ b → length (passing f (from (suc p) m)) + min (suc p) n ≤ n
        → length (cond b (p ∷ passing f (from (suc p) m)) (passing f (from (suc p) m))) + min p n ≤ n
    go true e k = omega (arith, h p e)
    go false e k = omega arith

module _ (rs : List Record) (b : Board) (held : HeldBoard b) (w : Sound rs b) where
  -- No more points are done than there are.
  pub done_few : count_of b.done ≤ points rs
  unfolding members_of
  done_few =
      omega (arith, count_members b.done held.done, few_passing (is_done b) (points rs) (λ q e. w.inside q (member_small b.done q held.done e) e) most_points 0)

  -- A board that is not finished has a point that is not done.
  pub one_left : points rs ≤ most_points → finished rs b ≡ false → (X : ℕ) × (X < points rs) × (is_done b X ≡ false)
  one_left few e =
      elim (all_or_one (λ q. is_done b q ≡ true) (λ q. is_done b q ≡ false) (told (is_done b)) (points rs)) [
        | inl all ↦ clash (sym (eq-eqb _ _ (same_members b.done (below_of (points rs)) held.done (below_fits (points rs)) (λ q l. same all q l (is_done b q) refl))) ∙ e)
        | inr x ↦ x
      ]
    where
      same : ((q : ℕ) → q < points rs → is_done b q ≡ true) → (q : ℕ) → q < most_points → (d : Bool) → is_done b q ≡ d → d ≡ member (below_of (points rs)) q
      same all q l true h = sym (member_below (points rs) q ∙ lt-ltb q _ (omega (arith, w.inside q l h)))
      same all q l false h = go (member (below_of (points rs)) q) refl
        where
          go : (m : Bool) → member (below_of (points rs)) q ≡ m → false ≡ m
          go true k = let i = ltb-true q _ (sym (member_below (points rs) q) ∙ k) in clash (sym (all q (omega arith)) ∙ h)
          go false k = refl

-- On a finished board each point is done.
pub all_done : (rs : List Record) (b : Board) → points rs ≤ most_points → finished rs b ≡ true → (X : ℕ) → X < points rs → is_done b X ≡ true
all_done rs b few e X l = rw (eqb-true b.done (below_of (points rs)) e) (member_below (points rs) X ∙ lt-ltb X _ (omega arith))

-- where something is open, a point is
one_open : (rs : List Record) (b : Board) → some_open rs b ≡ true → (q : ℕ) × (is_open rs b q ≡ true)
one_open rs b e =
    elim (all_or_one (λ q. is_open rs b q ≡ false) (λ q. is_open rs b q ≡ true) test most_points) [
      | inl none ↦ clash (sym (point_every (λ (q : ℕ). not (is_open rs b q)) (λ q l. rw (none q l))) ∙ not-true _ e)
      | inr q ↦ (q.0, q.2)
    ]
  where
    test : (q : ℕ) → (is_open rs b q ≡ false) ⊎ (is_open rs b q ≡ true)
    test q = elim (told (is_open rs b) q) [ inl t ↦ inr t | inr f ↦ inl f ]

module _ (rs : List Record) (ok : Accepted rs) (passes : Passes (net_of rs)) (b : Board) (held : HeldBoard b) (w : Sound rs b) (safe : Safe (net_of rs) (says_of b)) where
  time : InTime (net_of rs) (says_of b)
  time = in_time_of rs ok b w

  invariant : Invariant (Edge (net_of rs) (durations.longest (rules_of rs ok) (says_of b))) (says_of b)
  invariant =
      safe.each _ (durations.longest_within (rules_of rs ok) (says_of b) time) (durations.longest_agrees (rules_of rs ok) (says_of b) time)

  -- ---- never stuck

  -- nothing is open and no link is running
  none_ready : (X : ℕ) → X < points rs → is_done b X ≡ false → some_open rs b ≡ false → some (running b) rs ≡ false → ⊥
  none_ready X l x e f = let r = open_or_running (rules_of rs ok) passes time X l x in go r.0 r.1 r.2
    where
      go : (Z : ℕ) → Z < points rs → Ready (net_of rs) (says_of b) Z → ⊥
      go Z l (opens o) = clash (sym (something_open rs b Z (omega (arith, ok.few)) (is_open_lem rs ok b Z l o)) ∙ e)
      go Z l (runs r) =
          let k = r.link in
          clash (sym (has_some rs ok (running b) k.has (rw (k.has.kind, k.from, r.started, k.to, r.undone))) ∙ f)

  module _ (above : all_above rs b ≡ true) (q : ℕ) (o : is_open rs b q ≡ true) where
    over : H rs b < low rs b q + farthest
    over =
        ltb-true _ _ (unless (is_open rs b q) _ (every_point (λ (q : ℕ). not (is_open rs b q) || ltb (H rs b) (low rs b q + farthest)) above q (omega (arith, (opened rs b q o).0, ok.few))) o)

    -- there is no H
    no_H : H rs b ≡ never → ⊥
    no_H e = omega (arith, over, low_near rs ok b w q, w.few, count_le b.done held.done)

    -- a record gives H
    by_record : {X u d : ℕ} → OrdinaryIn rs X u d q → is_done b X ≡ true → minute b X + farthest + u - d ≡ H rs b → ⊥
    by_record {X} {u} {d} r x e =
        let can = open_of rs ok b q o in
        let h = bound_now (Edge (net_of rs) _) (says_of b) invariant x can.undone (projection.ordinary r) in
        let t = minute b X + u - d in
        omega (arith, over, low_from rs ok b q t (low_to_high (rules_of rs ok) passes time safe x r can t (omega arith)))

    -- H is this point's High
    by_high : high rs b q ≡ H rs b → ⊥
    by_high e =
        elim (high_from rs ok b q) [ inl n ↦ no_H (sym e ∙ n) | inr (X, u, d, r, x, f) ↦ by_record r x (f ∙ e) ]

  -- A board that is not finished is not stuck.
  pub not_stuck : finished rs b ≡ false → stuck rs b ≡ false
  not_stuck e = go (some_open rs b) (some (running b) rs) (all_above rs b) refl refl refl
    where
      go : (o r a : Bool) → some_open rs b ≡ o → some (running b) rs ≡ r → all_above rs b ≡ a → (if o then a else not r) ≡ false
      go true r true f g h =
          elim (H_at rs b) [
            | inl n ↦ let q = one_open rs b f in absurd (no_H h q.0 q.1 n)
            | inr q ↦ absurd (by_high h q.0 q.1 q.2)
          ]
      go true r false f g h = refl
      go false true a f g h = refl
      go false false a f g h = let x = one_left rs b held w ok.few e in absurd (none_ready x.0 x.1 x.2 f g)

  -- ---- the verdict

  kept_at : finished rs b ≡ true → (i : ℕ) → i < length rs → kept rs b (get_or rs i blank) ≡ true
  kept_at e i h = go (is ordinary r) (is wait r) refl refl
    where
      r : Record
      r = get_or rs i blank

      go : (o v : Bool) → is ordinary r ≡ o → is wait r ≡ v → (if o then ordinary_kept b r else (if v then wait_kept b (link_to rs r.b) r else true)) ≡ true
      go true v f g =
          le-leb _ _ ((all_kept (rules_of rs ok) passes time safe (all_done rs b ok.few e)).records (ordinary_in rs ok (record { place = i; listed = h; here = refl; kind = f })))
      go false true f g =
          let has : Has rs wait r = record { place = i; listed = h; here = refl; kind = g } in
          let c = (keeps rs ok has).wait_watched g in
          let l = link_of rs ok r.b c in
          let k = (all_kept (rules_of rs ok) passes time safe (all_done rs b ok.few e)).waits l (wait_in rs ok has) in
          let d = time.ended l (all_done rs b ok.few e r.b ((rules_of rs ok).link_points l).1) in
          let a = minute b (link_to rs r.b).a in
          rw (ok.ends r.b c).1 (le-leb (a + min (gap_of r.first).up (minute b r.b - a)) (minute b r.a) (omega (arith, k, d)))
      go false false f g = refl

  none_broken : (i : ℕ) (xs : List Record) → ((j : ℕ) → j < length xs → kept rs b (get_or xs j blank) ≡ true) → first_broken rs b i xs ≡ Kept
  unfolding first_broken
  none_broken i [] h = refl
  none_broken i (x ∷ xs) h = rw (h 0 (omega arith)) (none_broken (suc i) xs (λ j l. h (suc j) (omega arith)))

  -- On a finished board no record is broken.
  pub verdict_kept : finished rs b ≡ true → first_broken rs b 0 rs ≡ Kept
  verdict_kept e = none_broken 0 rs (kept_at e)
