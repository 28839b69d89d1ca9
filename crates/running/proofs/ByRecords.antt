-- Of an accepted plan's table of links each answer is the one from the plan's records: no point ends two links, so to ask
-- every watched point's link is to ask every link. Assumes nothing.
use mathlib.Core.Path.{◌≡◌, refl, sym, ap, ◌∙◌}
use mathlib.Core.Bool.{Bool, true, false, not, ◌&&◌, ◌||◌, and-false}
use mathlib.Core.List.{List, [], ◌∷◌}
use Prim.Native.Nat.{ℕ, ◌+◌, ◌<◌}
use native.Mathlib.Omega.{arith}
use lib.Dec.{leb}
use lib.ListN.{length, get_or}
use borrow.Author.Tests.{eq-eqb}
use Rattle.points.specs.Sets.{member, members_of, every}
use Rattle.plan.specs.Limits.{most_points}
use Rattle.plan.specs.APlan.{point, link, is, some, watched, ends_at, link_to, blank}
use Rattle.records.specs.declared.Record.{Record}
use Rattle.plan.proofs.Accepted.{Accepted, get_d_some, not_a}
use Rattle.history.specs.History.{minute_in, runs, each, in_bounds, earlier, not_late}
use Rattle.history.proofs.Lists.{every_member, member_every, each_at, at_each}
use Rattle.history.proofs.Walks.{none_so}
use Rattle.links.specs.Inside.{LinksOf, set_number}
use Rattle.links.specs.declared.Links.{Links}
use Rattle.links.proofs.Linking.{runs_to_lem}
use Rattle.links.proofs.Setting.{all_run, all_timely}
use Rattle.running.specs.ByTable.{end_at, runs_to, any_runs, sound_at, not_late_at, set_number_of}

-- two tests that hold together are the same
alike : (a b : Bool) → (a ≡ true → b ≡ true) → (b ≡ true → a ≡ true) → a ≡ b
alike true b f g = sym (f refl)
alike false true f g = g refl
alike false false f g = refl

twice_not : (a : Bool) → not (not a) ≡ a
twice_not true = refl
twice_not false = refl

-- two tests of every record
each_both : (f g : Record → Bool) (rs : List Record) → each (λ (r : Record). f r && g r) rs ≡ (each f rs && each g rs)
unfolding each
each_both f g [] = refl
each_both f g (r ∷ rs) = rw (each_both f g rs) (go (f r) (g r) (each f rs) (each g rs))
  where
    go : (a b c d : Bool) → ((a && b) && (c && d)) ≡ ((a && c) && (b && d))
    go false b c d = refl
    go true true c d = refl
    go true false c d = sym (and-false c)

module _ (rs : List Record) (ok : Accepted rs) (l : Links) (has : LinksOf rs l) where
  -- a test of records that only a link can fail, and what the table says of it
  module _ (so : Record → Bool) (test : ℕ → Bool) (other : (r : Record) → is link r ≡ false → so r ≡ true)
      (same : (c : ℕ) → c < most_points → watched rs c ≡ true → test c ≡ so (link_to rs c)) where
    at_record : every test (members_of l.watched) ≡ true → (i : ℕ) → i < length rs → (k : Bool) → is link (get_or rs i blank) ≡ k → so (get_or rs i blank) ≡ true
    at_record e i h false k = other (get_or rs i blank) k
    at_record e i h true k =
        let r = get_or rs i blank in
        let u = ok.each i h in
        let small : r.b < most_points = omega (arith, (u.names (not_a r link point (λ q. omega arith) k)).1, ok.few) in
        let ends = get_d_some (ends_at r.b) rs i h (rw k (eq-eqb r.b r.b refl)) in
        let t = every_member test l.watched e r.b small (has.watches r.b small ∙ ends) in
        rw (u.link_alone k) at (sym (same r.b small ends) ∙ t)

    at_point : each so rs ≡ true → (c : ℕ) → c < most_points → member l.watched c ≡ true → test c ≡ true
    at_point e c h m =
        let ends = sym (has.watches c h) ∙ m in
        let i = (ok.ends c ends).2 in
        same c h ends ∙ rw i.2 at (each_at so rs e i.0 i.1)

    pub each_link : every test (members_of l.watched) ≡ each so rs
    each_link =
        alike (every test (members_of l.watched)) (each so rs)
        (λ e. at_each so rs (λ i h. at_record e i h (is link (get_or rs i blank)) refl))
        (λ e. member_every test l.watched (at_point e))

  runs_here : (done c : ℕ) → c < most_points → watched rs c ≡ true → runs_to done (end_at l c) c ≡ runs done (link_to rs c)
  runs_here done c h e = (λ i. member done (has.ends c h i).from && not (member done c)) ∙ sym (runs_to_lem rs done c e)

  -- some link is running
  pub any_runs_lem : (done : ℕ) → any_runs l done ≡ some (runs done) rs
  any_runs_lem done =
      let e =
      each_link (λ (r : Record). not (runs done r)) (λ (c : ℕ). not (runs_to done (end_at l c) c)) (λ r k. rw k)
      (λ c h k. ap not (runs_here done c h k))
      in
      ap not (e ∙ none_so (runs done) rs) ∙ twice_not (some (runs done) rs)

  -- soundness
  pub all_sound : (clock done : ℕ) (minutes calls : List ℕ)
      → every (sound_at l clock done minutes calls) (members_of l.watched) ≡ (each (in_bounds clock done minutes) rs && each (earlier done calls) rs)
  all_sound clock done minutes calls =
      each_link (λ (r : Record). in_bounds clock done minutes r && earlier done calls r) (sound_at l clock done minutes calls) (λ r k. rw k)
      (λ c h k. rw (has.ends c h, (ok.ends c k).0, (ok.ends c k).1))
      ∙ each_both (in_bounds clock done minutes) (earlier done calls) rs

  -- 27
  none_late : (done : ℕ) (minutes : List ℕ) (t set : ℕ) → every (not_late_at l done minutes t set) (members_of l.watched) ≡ each (not_late done minutes t set) rs
  none_late done minutes t set =
      each_link (not_late done minutes t set) (not_late_at l done minutes t set) (λ r k. rw k)
      (λ c h k i. not (runs_here done c h k i) || (member set (sym (ok.ends c k).1 i) || leb t (minute_in minutes (has.ends c h i).from + (has.ends c h i).longest)))

  -- 24 to 27
  pub set_number_lem : (clock done : ℕ) (minutes : List ℕ) (t set next : ℕ) → set_number_of l clock done minutes t set next ≡ set_number rs clock done minutes t set next
  unfolding set_number_of set_number
  set_number_lem clock done minutes t set next =
      rw (all_run rs l has done minutes set, all_timely rs l has done minutes t set, none_late done minutes t set)
