-- The contract of `begin` permits one answer: the number, the record and the links, and every number of every room, whatever the rooms held.
-- Assumes nothing.
use mathlib.Core.Path.{◌≡◌, sym, ◌∙◌}
use mathlib.Core.List.{List}
use Prim.Native.Nat.{ℕ, zero, suc, ◌+◌, ◌-◌, ◌*◌, ◌/◌, ◌%◌, ◌<◌, ◌≤◌}
use native.Mathlib.Omega.{arith}
use native.Mathlib.Decide.{ℕ_discrete, dec_lt}
use lib.ListN.{length, get_or}
use lib.Seq.{ext_get_or}
use Rattle.points.proofs.Laws.{same_members}
use Rattle.plan.specs.Limits.{most_points, most_records}
use Rattle.plan.specs.APlan.{records_of, blank}
use Rattle.plan.specs.ReplyNumbers.{check_of}
use Rattle.plan.specs.declared.Plan.{Plan}
use Rattle.records.specs.declared.Record.{Record}
use Rattle.links.specs.Inside.{no_end, LinksOf}
use Rattle.links.specs.declared.Links.{Links}
use Rattle.rows.specs.Sheet.{width}
use Rattle.rows.specs.Layout.{row_of, RowIs}
use Rattle.rows.specs.declared.sheet.Row.{Row}
use Rattle.neighbours.specs.Lists.{buckets, Indexed}
use Rattle.kept.specs.Rooms.{highs_at, minutes_at}
use Rattle.kept.specs.Begins.{Begun}
use Rattle.rooms.specs.Filling.{Filled, BeginsWith}
use Rattle.rooms.specs.declared.Started.{Started}

-- ---- the links

pub one_links : (rs : List Record) (l l' : Links) → LinksOf rs l → LinksOf rs l' → l ≡ l'
one_links rs l l' x y =
    let n = x.points ∙ sym y.points in
    let w = same_members l.watched l'.watched x.fits y.fits (λ p h. x.watches p h ∙ sym (y.watches p h)) in
    let e = ext_get_or no_end l.ends l'.ends (x.long ∙ sym y.long) (λ p h. let k : p < most_points = omega (arith, x.long) in x.ends p k ∙ sym (y.ends p k)) in
    λ i. record { points = n i; watched = w i; ends = e i }

-- ---- the rooms

-- a row has six numbers
six : (s t : List ℕ) (q : ℕ) (r : Row) → RowIs s q r → RowIs t q r → (j : ℕ) → j < width → get_or s (q * width + j) 0 ≡ get_or t (q * width + j) 0
six s t q r x y zero h = let z : q * width + 0 ≡ q * width = omega arith in rw z (x.kind ∙ sym y.kind)
six s t q r x y (suc zero) h = x.from ∙ sym y.from
six s t q r x y (suc (suc zero)) h = x.to ∙ sym y.to
six s t q r x y (suc (suc (suc zero))) h = x.first ∙ sym y.first
six s t q r x y (suc (suc (suc (suc zero)))) h = x.second ∙ sym y.second
six s t q r x y (suc (suc (suc (suc (suc zero))))) h = x.over ∙ sym y.over
six s t q r x y (suc (suc (suc (suc (suc (suc j)))))) h = absurd (omega arith)

one_list : (key : ℕ → ℕ) (count : ℕ) (t t' : List ℕ) → Indexed key count t → Indexed key count t' → t ≡ t'
one_list key count t t' x y = ext_get_or 0 t t' (x.long ∙ sym y.long) (λ p h. go p (omega (arith, x.long)) (dec_lt p buckets) (dec_lt (p - buckets) count))
  where
    go : (p : ℕ) → p < buckets + most_records → Dec (p < buckets) → Dec (p - buckets < count) → get_or t p 0 ≡ get_or t' p 0
    go p h (yes a) d = x.firsts p a ∙ sym (y.firsts p a)
    go p h (no a) (yes c) =
        let e : buckets + (p - buckets) ≡ p = omega arith in
        rw e at (x.nexts (p - buckets) c ∙ sym (y.nexts (p - buckets) c))
    go p h (no a) (no c) =
        let e : buckets + (p - buckets) ≡ p = omega arith in
        rw e at (x.rest (p - buckets) (omega arith) (omega arith) ∙ sym (y.rest (p - buckets) (omega arith) (omega arith)))

one_kept : (rows : List ℕ) (count : ℕ) (t t' : List ℕ) → Begun rows count t → Begun rows count t' → t ≡ t'
one_kept rows count t t' x y = ext_get_or 0 t t' (x.long ∙ sym y.long) (λ p h. go p (dec_lt p most_points) (dec_lt p highs_at) (dec_lt p minutes_at))
  where
    go : (p : ℕ) → Dec (p < most_points) → Dec (p < highs_at) → Dec (p < minutes_at) → get_or t p 0 ≡ get_or t' p 0
    go p (yes a) b c = x.holds p a ∙ sym (y.holds p a)
    go p (no a) (yes b) c = x.lows p (omega arith) b ∙ sym (y.lows p (omega arith) b)
    go p (no a) (no b) (yes c) = x.highs p (omega arith) c ∙ sym (y.highs p (omega arith) c)
    go p (no a) (no b) (no c) = x.rest p (omega arith) ∙ sym (y.rest p (omega arith))

-- the same number in every place of every room
pub record SameRooms (rows into out ends kept rows' into' out' ends' kept' : List ℕ) : Type 0 where
  pub rows_same : rows ≡ rows'
  pub into_same : into ≡ into'
  pub out_same : out ≡ out'
  pub ends_same : ends ≡ ends'
  pub kept_same : kept ≡ kept'

module _ (rs : List Record) (rows into out ends kept rows' into' out' ends' kept' : List ℕ) (x : Filled rs rows into out ends kept) (y : Filled rs rows' into' out' ends' kept') where
  one_sheet : rows ≡ rows'
  one_sheet = ext_get_or 0 rows rows' (x.listed.laid.long ∙ sym y.listed.laid.long) (λ p h. go p (dec_lt p (length rs * width)))
    where
      go : (p : ℕ) → Dec (p < length rs * width) → get_or rows p 0 ≡ get_or rows' p 0
      go p (yes a) =
          let e : p / width * width + p % width ≡ p = omega arith in
          let b : p / width < length rs = omega arith in
          rw e at (six rows rows' (p / width) (row_of rs (get_or rs (p / width) blank)) (x.listed.laid.rows (p / width) b) (y.listed.laid.rows (p / width) b) (p % width) (omega arith))
      go p (no a) = x.listed.laid.rest p (omega arith) ∙ sym (y.listed.laid.rest p (omega arith))

  pub filled_same : SameRooms rows into out ends kept rows' into' out' ends' kept'
  filled_same =
      let e = one_sheet in
      record {
        rows_same = e;
        into_same = one_list _ (length rs) into into' x.listed.into_is (rw e y.listed.into_is);
        out_same = one_list _ (length rs) out out' x.listed.out_is (rw e y.listed.out_is);
        ends_same = one_list _ (length rs) ends ends' x.listed.ends_is (rw e y.listed.ends_is);
        kept_same = one_kept rows (length rs) kept kept' x.begun (rw e y.begun);
      }

-- ---- the answer

module _ (p : Plan) (s s' : Started) (rows₀ into₀ out₀ ends₀ kept₀ rows into out ends kept rows' into' out' ends' kept' : List ℕ)
    (x : BeginsWith p s rows₀ into₀ out₀ ends₀ kept₀ rows into out ends kept) (y : BeginsWith p s' rows₀ into₀ out₀ ends₀ kept₀ rows' into' out' ends' kept') where
  pub one_started : s ≡ s'
  one_started =
      let n = x.number ∙ sym y.number in
      let k = x.place ∙ sym y.place in
      let l = one_links (records_of p) s.links s'.links x.links y.links in
      λ i. record { number = n i; place = k i; links = l i }

  pub same_rooms : SameRooms rows into out ends kept rows' into' out' ends' kept'
  same_rooms = go (ℕ_discrete (check_of p).number 0)
    where
      go : Dec ((check_of p).number ≡ 0) → SameRooms rows into out ends kept rows' into' out' ends' kept'
      go (yes e) = filled_same (records_of p) rows into out ends kept rows' into' out' ends' kept' (x.taken e) (y.taken e)
      go (no n) =
          let a = x.refused n in
          let b = y.refused n in
          record {
            rows_same = a.0 ∙ sym b.0;
            into_same = a.1 ∙ sym b.1;
            out_same = a.2 ∙ sym b.2;
            ends_same = a.3 ∙ sym b.3;
            kept_same = a.4 ∙ sym b.4;
          }
