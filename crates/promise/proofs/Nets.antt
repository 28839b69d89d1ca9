-- The network of an accepted plan keeps what the theorems on networks ask of a plan. Assumes that the records keep the
-- rules of a plan.
use mathlib.Core.Path.{◌≡◌, refl, sym, ◌∙◌, ap}
use mathlib.Core.Logic.{◌⊎◌, inl, inr}
use mathlib.Core.Bool.{Bool, true, false, not, ◌&&◌, ◌||◌}
use mathlib.Core.List.{List}
use Prim.Native.Nat.{ℕ, ◌≤◌, ◌<◌}
use native.Mathlib.Omega.{arith}
use lib.Dec.{eqb, ltb}
use lib.IntN.{ℤ, pos, negsuc}
use lib.ListN.{length, get_or}
use borrow.Author.Tests.{ltb-true, lt-ltb, eqb-true, eq-eqb, not-true}
use Rattle.plan.specs.APlan.{Kind, point, link, ordinary, wait, is, some, points, watched, ends_at, link_to, blank, gap_of}
use Rattle.records.specs.declared.Record.{Record}
use Rattle.plan.proofs.Accepted as plan
use Rattle.plan.proofs.Accepted.{Accepted, get_d_some, first_found, not_a}
use Rattle.board.specs.Boards.{shortest, longest}
use Rattle.board.proofs.Theorems.Each.{clash, both, either}
use Rattle.network.proofs.States.{State, Undone, ask}
use Rattle.network.proofs.Plans.{Watched, Foremans, Open, Shut, by_record, by_wait, Rules}
use Rattle.vee.specs.PlanTest.{Has, OrdinaryIn, LinkIn, WaitIn, net_of}

-- ---- signed numbers

-- a number whose up is not 0 is that up, and one whose down is not 0 has no up
pos_up : (z : ℤ) → 1 ≤ (gap_of z).up → z ≡ pos (gap_of z).up
pos_up (pos n) h = refl
pos_up (negsuc n) h = absurd (omega arith)

up_of : {z : ℤ} {n : ℕ} → z ≡ pos n → (gap_of z).up ≡ n
up_of e = ap (λ z. (gap_of z).up) e

down_below : (z : ℤ) → 0 < (gap_of z).down → (gap_of z).up < (gap_of z).down
down_below (pos n) h = absurd (omega arith)
down_below (negsuc n) h = omega arith

-- r keeps q shut where the points done are those of `done`
abbrev pub keeps_shut : List Record → (ℕ → Bool) → ℕ → Record → Bool
keeps_shut rs done q r =
    eqb r.a q
    && ((is ordinary r && (ltb 0 (gap_of r.first).down && not (done r.b)))
    || (is wait r && not (done (link_to rs r.b).a)))

-- the link that ends at C, as the records have it
pub record Joins (rs : List Record) (A x y C : ℕ) : Type 0 where
  pub watched : watched rs C ≡ true
  pub from : (link_to rs C).a ≡ A
  pub short : shortest (link_to rs C) ≡ x
  pub long : longest (link_to rs C) ≡ y

module _ (rs : List Record) (ok : Accepted rs) where
  -- Each record keeps its rules.
  pub keeps : {k : Kind} {r : Record} → Has rs k r → plan.Rules rs r
  keeps h = rw h.here at (ok.each h.place h.listed)

  -- A record that is so makes some record so.
  pub has_some : (so : Record → Bool) {k : Kind} {r : Record} → Has rs k r → so r ≡ true → some so rs ≡ true
  has_some so h e = get_d_some so rs h.place h.listed (rw h.here e)

  -- ---- what a record says

  -- Each ordinary record, wait and link is one of the network.
  pub ordinary_in : {r : Record} → Has rs ordinary r → OrdinaryIn rs r.a (gap_of r.first).up (gap_of r.first).down r.b
  ordinary_in {r} h = record { what = r; has = h; from = refl; to = refl; up = refl; down = refl }

  pub wait_in : {r : Record} → Has rs wait r → WaitIn rs r.a r.b (gap_of r.first).up
  wait_in {r} h =
      record { what = r; has = h; holds = refl; until = refl; long = pos_up r.first ((keeps h).wait_bounds h.kind).0 }

  pub link_in : {r : Record} → Has rs link r → LinkIn rs r.a (shortest r) (longest r) r.b
  link_in {r} h =
      let w = (keeps h).link_bounds h.kind in
      record { what = r; has = h; from = refl; to = refl; least = pos_up r.first w.0; most = pos_up r.second (omega (arith, w.0, w.1)) }

  -- A watched point has its link among the plan's links.
  pub link_of : (C : ℕ) → watched rs C ≡ true → LinkIn rs (link_to rs C).a (shortest (link_to rs C)) (longest (link_to rs C)) C
  link_of C h =
      let e = ok.ends C h in
      rw e.1 at (link_in {r = link_to rs C} (record { place = e.2.0; listed = e.2.1; here = e.2.2; kind = e.0 }))

  -- A link is the one link that ends at its C.
  pub joins : {A x y C : ℕ} → LinkIn rs A x y C → Joins rs A x y C
  joins {C = C} l =
      let r = l.what in
      let k = l.has.kind in
      let e : link_to rs C ≡ r = sym (ap (λ c. link_to rs c) l.to) ∙ (keeps l.has).link_alone k in
      record {
        watched = rw l.to at (has_some (ends_at r.b) l.has (rw k (eq-eqb r.b r.b refl)));
        from = rw e l.from;
        short = rw e (up_of l.least);
        long = rw e (up_of l.most);
      }

  unwatched : (C : ℕ) → watched rs C ≡ false → Foremans (net_of rs) C
  unwatched C h A x y l = clash (sym (joins l).watched ∙ h)

  -- ---- open and shut

  module _ (s : State) (q : ℕ) where
    shut_by_lem : (r : Record) (i : ℕ) → i < length rs → get_or rs i blank ≡ r → keeps_shut rs s.done q r ≡ true → Shut (net_of rs) s q
    shut_by_lem r i h e t =
        let a = both (eqb r.a q) _ t in
        let from = eqb-true r.a q a.0 in
        elim (either (is ordinary r && _) _ a.1) [
          | inl o ↦
              let o1 = both (is ordinary r) _ o in
              let o2 = both (ltb 0 (gap_of r.first).down) _ o1.1 in
              let has : Has rs ordinary r = record { place = i; listed = h; here = e; kind = o1.0 } in
              by_record (rw from at (ordinary_in has)) (down_below r.first (ltb-true _ _ o2.0)) (not-true _ o2.1)
          | inr o ↦
              let o1 = both (is wait r) _ o in
              let has : Has rs wait r = record { place = i; listed = h; here = e; kind = o1.0 } in
              by_wait (link_of r.b ((keeps has).wait_watched o1.0)) (rw from at (wait_in has)) (not-true _ o1.1)
        ]

    -- A point that a record keeps shut is shut.
    pub shut_from : some (keeps_shut rs s.done q) rs ≡ true → Shut (net_of rs) s q
    shut_from e = let f = first_found (keeps_shut rs s.done q) rs e in shut_by_lem _ f.1.0 f.1.1 f.1.2 f.0

    -- A foreman's point that no record keeps shut is open.
    pub open_from : some (keeps_shut rs s.done q) rs ≡ false → Foremans (net_of rs) q → Undone s q → Open (net_of rs) s q
    open_from e f z =
        record {
          foremans = f;
          undone = z;
          records = λ {u} {d} {Y} r p. elim (ask s Y) [
            | inl y ↦ y
            | inr y ↦
                let w = r.what in
                let b : s.done w.b ≡ false = rw r.to y in
                clash (sym (has_some (keeps_shut rs s.done q) r.has (rw (r.has.kind, eq-eqb _ _ r.from, lt-ltb 0 (gap_of w.first).down (omega (arith, r.down)), b))) ∙ e)
          ];
          waits = λ {A} {x} {y} {C} l w. elim (ask s A) [
            | inl a ↦ a
            | inr a ↦
                let r = w.what in
                let b : s.done (link_to rs r.b).a ≡ false = rw (w.until, (joins l).from) a in
                let n = not_a r wait ordinary (λ e. omega arith) w.has.kind in
                clash (sym (has_some (keeps_shut rs s.done q) w.has (rw (n, w.has.kind, eq-eqb _ _ w.holds, b))) ∙ e)
          ];
        }

    open_or_shut : Foremans (net_of rs) q → Undone s q → Open (net_of rs) s q ⊎ Shut (net_of rs) s q
    open_or_shut f z = go (some (keeps_shut rs s.done q) rs) refl
      where
        go : (b : Bool) → some (keeps_shut rs s.done q) rs ≡ b → Open (net_of rs) s q ⊎ Shut (net_of rs) s q
        go true e = inr (shut_from e)
        go false e = inl (open_from e f z)

  -- ---- the rules

  watched_or_not : (C : ℕ) → Watched (net_of rs) C ⊎ Foremans (net_of rs) C
  watched_or_not C = go (watched rs C) refl
    where
      go : (b : Bool) → watched rs C ≡ b → Watched (net_of rs) C ⊎ Foremans (net_of rs) C
      go true e = inl (record { A = _; x = _; y = _; link = link_of C e })
      go false e = inr (unwatched C e)

  -- The network of an accepted plan keeps the rules of a plan.
  pub rules_of : Rules (net_of rs) (points rs)
  rules_of =
      record {
        record_points = λ r. rw (r.from, r.to) at ((keeps r.has).names (not_a r.what ordinary point (λ e. omega arith) r.has.kind));
        link_points = λ l. rw (l.from, l.to) at ((keeps l.has).names (not_a l.what link point (λ e. omega arith) l.has.kind));
        wait_point = λ w. rw w.holds at ((keeps w.has).names (not_a w.what wait point (λ e. omega arith) w.has.kind)).0;
        link_bounds = λ l. omega (arith, up_of l.least, up_of l.most, (keeps l.has).link_bounds l.has.kind);
        wait_bounds = λ l w.
            let b = rw w.until at ((keeps w.has).wait_bounds w.has.kind) in
            omega (arith, up_of w.long, (joins l).long, b);
        one = λ l m.
            let i = joins l in
            let j = joins m in
            (sym i.from ∙ j.from, sym i.short ∙ j.short, sym i.long ∙ j.long);
        kind = watched_or_not;
        look = open_or_shut;
      }
