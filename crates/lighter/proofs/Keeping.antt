-- What the walk leaves, whatever the reason: some ordinary records less, in their order, with their numbers. Assumes nothing.
use mathlib.Core.Path.{◌≡◌, refl, sym, ap, subst, ◌∙◌}
use mathlib.Core.Bool.{true}
use mathlib.Core.List.{List, [], ◌∷◌, ◌++◌, append-nil}
use Prim.Native.Nat.{ℕ, suc, ◌<◌}
use native.Mathlib.Omega.{arith}
use lib.ListN.{length, get_or, length-append}
use lib.Seq.{append_snoc, take_at, drop_at, get_or_at}
use borrow.Author.Tests.{eqb-true}
use Rattle.plan.specs.APlan.{ordinary, is, blank}
use Rattle.records.specs.declared.Record.{Record}
use Rattle.network.specs.Projection.{InBounds, Edge}
use Rattle.vee.specs.PlanTest.{net_of}
use Rattle.lighter.specs.Lighter.{Goes, ends, drops, keeps}
use Rattle.lighter.specs.Promises.{unless, others, put_in, put_back, InOrder}
use Rattle.lighter.proofs.Skips.{edge_more}
use Rattle.lighter.proofs.Covering.{Among}
use Rattle.lighter.proofs.Sparing.{bounds_less, bounds_more}

-- of the records that are still to come, the first with number i: those that stay and the numbers of the others, which are ordinary
pub data Stays : ℕ → List Record → List Record → List ℕ → Type 0 where
  no_more : {i : ℕ} → Stays i [] [] []
  one_less : {i : ℕ} {r : Record} {rs ts : List Record} {ds : List ℕ} → is ordinary r ≡ true → Stays (suc i) rs ts ds → Stays i (r ∷ rs) ts (i ∷ ds)
  one_stays : {i : ℕ} {r : Record} {rs ts : List Record} {ds : List ℕ} → Stays (suc i) rs ts ds → Stays i (r ∷ rs) (r ∷ ts) ds

-- what is kept so far stands in front
pub goes_stays : {ks rs qs : List Record} {i : ℕ} {ds : List ℕ} → Goes ks i rs qs ds → (ts : List Record) × (qs ≡ ks ++ ts) × Stays i rs ts ds
goes_stays {ks} ends = ([], sym (append-nil ks), no_more)
goes_stays (drops m g) = let s = goes_stays g in (s.0, s.1, one_less m.ordinary s.2)
goes_stays {ks} (keeps {r = r} n g) = let s = goes_stays g in (r ∷ s.0, s.1 ∙ append_snoc ks r s.0, one_stays s.2)

-- ---- links, waits and points are untouched

pub stays_others : {i : ℕ} {rs ts : List Record} {ds : List ℕ} → Stays i rs ts ds → others ts ≡ others rs
unfolding others
stays_others no_more = refl
stays_others {rs = r ∷ rs} (one_less e s) = rw e (stays_others s)
stays_others {rs = r ∷ rs} (one_stays s) = ap (λ (l : List Record). unless (is ordinary r) r l) (stays_others s)

-- ---- put back

-- all below i have been put back
put_back_lem : {i : ℕ} {rs ts : List Record} {ds : List ℕ} → Stays i rs ts ds → (all pre : List Record) → all ≡ pre ++ rs → length pre ≡ i → put_back all ds (pre ++ ts) ≡ all
unfolding put_back
put_back_lem no_more all pre e n = sym e
put_back_lem {i} (one_less {r = r} {rs = rs} {ts = ts} {ds = ds} o s) all pre e n =
    let g : get_or all i blank ≡ r = rw e (get_or_at pre r rs blank i n) in
    let q : put_in i r (pre ++ ts) ≡ (pre ++ (r ∷ [])) ++ ts = rw (take_at pre ts i n, drop_at pre ts i n) (sym (append_snoc pre r ts)) in
    rw (g, q) (put_back_lem s all (pre ++ (r ∷ [])) (e ∙ sym (append_snoc pre r rs)) (omega (arith, length-append pre (r ∷ []))))
put_back_lem {i} (one_stays {r = r} {rs = rs} {ts = ts} s) all pre e n =
    rw (← (append_snoc pre r ts)) (put_back_lem s all (pre ++ (r ∷ [])) (e ∙ sym (append_snoc pre r rs)) (omega (arith, length-append pre (r ∷ []))))

pub all_back : {rs ts : List Record} {ds : List ℕ} → Stays 0 rs ts ds → put_back rs ds ts ≡ rs
all_back {rs} s = put_back_lem s rs [] refl refl

-- the numbers rise, and are those of ordinary records
sooner : (rs : List Record) (i : ℕ) (ds : List ℕ) → InOrder rs (suc i) ds → InOrder rs i ds
unfolding InOrder
sooner rs i [] h = h
sooner rs i (d ∷ ds) h = (omega (arith, h.0), h.1, h.2, h.3)

rising : {i : ℕ} {rs ts : List Record} {ds : List ℕ} → Stays i rs ts ds → (all pre : List Record) → all ≡ pre ++ rs → length pre ≡ i → InOrder all i ds
unfolding InOrder
rising no_more all pre e n = tt
rising {i} (one_less {r = r} {rs = rs} o s) all pre e n =
    let g : get_or all i blank ≡ r = rw e (get_or_at pre r rs blank i n) in
    let l : i < length all = rw e (omega (arith, length-append pre (r ∷ rs))) in
    (omega arith, l, rw g o, rising s all (pre ++ (r ∷ [])) (e ∙ sym (append_snoc pre r rs)) (omega (arith, length-append pre (r ∷ []))))
rising {i} (one_stays {r = r} {rs = rs} {ds = ds} s) all pre e n =
    sooner all i ds (rising s all (pre ++ (r ∷ [])) (e ∙ sym (append_snoc pre r rs)) (omega (arith, length-append pre (r ∷ []))))

pub all_rising : {rs ts : List Record} {ds : List ℕ} → Stays 0 rs ts ds → InOrder rs 0 ds
all_rising {rs} s = rising s rs [] refl refl

-- ---- edges and durations

module _ {ω : ℕ → ℕ} where
  pub stays_edges : {i : ℕ} {rs ts : List Record} {ds : List ℕ} → Stays i rs ts ds → (ks : List Record) → Among (Edge (net_of (ks ++ ts)) ω) (Edge (net_of (ks ++ rs)) ω)
  stays_edges no_more ks X Y u d e = e
  stays_edges (one_less {r = r} {rs = rs} o s) ks X Y u d e = edge_more ks r rs X Y u d (stays_edges s ks X Y u d e)
  stays_edges (one_stays {r = r} {rs = rs} {ts = ts} s) ks X Y u d e =
      subst (λ (l : List Record). Edge (net_of l) ω X Y u d) (append_snoc ks r rs)
      (stays_edges s (ks ++ (r ∷ [])) X Y u d (subst (λ (l : List Record). Edge (net_of l) ω X Y u d) (sym (append_snoc ks r ts)) e))

  pub stays_bounds : {i : ℕ} {rs ts : List Record} {ds : List ℕ} → Stays i rs ts ds → (ks : List Record) → InBounds (net_of (ks ++ ts)) ω → InBounds (net_of (ks ++ rs)) ω
  stays_bounds no_more ks b = b
  stays_bounds (one_less {r = r} {rs = rs} o s) ks b = bounds_more ks r rs (eqb-true r.kind 3 o) (stays_bounds s ks b)
  stays_bounds (one_stays {r = r} {rs = rs} {ts = ts} s) ks b =
      subst (λ (l : List Record). InBounds (net_of l) ω) (append_snoc ks r rs)
      (stays_bounds s (ks ++ (r ∷ [])) (subst (λ (l : List Record). InBounds (net_of l) ω) (sym (append_snoc ks r ts)) b))

  pub bounds_stay : {i : ℕ} {rs ts : List Record} {ds : List ℕ} → Stays i rs ts ds → (ks : List Record) → InBounds (net_of (ks ++ rs)) ω → InBounds (net_of (ks ++ ts)) ω
  bounds_stay no_more ks b = b
  bounds_stay (one_less {r = r} {rs = rs} o s) ks b = bounds_stay s ks (bounds_less ks r rs (eqb-true r.kind 3 o) b)
  bounds_stay (one_stays {r = r} {rs = rs} {ts = ts} s) ks b =
      subst (λ (l : List Record). InBounds (net_of l) ω) (append_snoc ks r ts)
      (bounds_stay s (ks ++ (r ∷ [])) (subst (λ (l : List Record). InBounds (net_of l) ω) (sym (append_snoc ks r rs)) b))
