-- Document 01, "Reply numbers", 4 to 11, and document 02, §3, 15, and §8, 10 for a link: what a record is refused for, after the
-- records before it. Number 0 is no number of the document: it says that nothing is refused. Assumes nothing.
use Rattle.std.specs.Prelude.{Bool, true, false, not, ◌&&◌, List, [], ◌∷◌, ℕ, eqb, ltb, leb, ℤ, pos, neg_ℤ, if◌then◌else◌}
use Rattle.std.specs.Int.Signed.{le_z, lt_z}
use Rattle.numbers.specs.Numbers.{is_nought}
use Rattle.records.specs.Limits.{most_ordinary, farthest}
use Rattle.records.specs.Records.{Kind, point, link, ordinary, wait, unknown, kind_of, is, most_with, how_many, watched, leads, link_to}
use Rattle.records.specs.declared.Record.{Record}

-- what the records before a record have said, as far as the rules ask for it
pub record Before : Type 0 where
  -- the kind of the one just before, 0 where there is none
  pub last : ℕ
  -- how many there are of each kind
  pub many : Kind → ℕ
  -- whether a point ends a link
  pub end : ℕ → Bool
  -- whether an ordinary record leads from one point to another
  pub leads : ℕ → ℕ → Bool
  -- of the link that ends at a point, its A and its y
  pub from : ℕ → ℕ
  pub longest : ℕ → ℤ

-- the kind of the last of some records
unfoldable pub last_kind : ℕ → List Record → ℕ
last_kind k [] = k
last_kind k (r ∷ rs) = last_kind r.kind rs

-- what the records rs have said
abbrev pub after : List Record → Before
after rs =
    record {
      last = last_kind 0 rs;
      many = λ k. how_many (is k) rs;
      end = watched rs;
      leads = leads rs;
      from = λ p. (link_to rs p).a;
      longest = λ p. (link_to rs p).second;
    }

abbrev pub is_known : Kind → Bool
is_known point = true
is_known link = true
is_known ordinary = true
is_known wait = true
is_known unknown = false

-- 5: the kind is not lower than the one before
abbrev pub in_order : Before → Record → Bool
in_order b r = leb b.last r.kind

-- 6: there is room for one more of its kind, where m ordinary ones are allowed
abbrev pub room_for_with : ℕ → Before → Kind → Bool
room_for_with m b k = ltb (b.many k) (most_with m k)

abbrev pub room_for : Before → Kind → Bool
room_for b k = room_for_with most_ordinary b k

-- 7: the fields that the table shows as 0 are 0, byte 3 too
abbrev pub zeros : Kind → Record → ℕ → Bool
zeros point r z = eqb r.b 0 && (is_nought r.first && (is_nought r.second && eqb z 0))
zeros link r z = eqb r.code 0 && eqb z 0
zeros ordinary r z = is_nought r.second && (eqb r.code 0 && eqb z 0)
zeros wait r z = is_nought r.second && (eqb r.code 0 && eqb z 0)
zeros unknown r z = true

-- 8: a point's number is the next; a named point is there
abbrev pub named : Before → Kind → Record → Bool
named b point r = eqb r.a (b.many point)
named b link r = ltb r.a (b.many point) && ltb r.b (b.many point)
named b ordinary r = ltb r.a (b.many point) && ltb r.b (b.many point)
named b wait r = ltb r.a (b.many point) && ltb r.b (b.many point)
named b unknown r = true

-- 9: bytes 1 and 2 differ
abbrev pub apart : Kind → Record → Bool
apart point r = true
apart link r = not (eqb r.a r.b)
apart ordinary r = not (eqb r.a r.b)
apart wait r = not (eqb r.a r.b)
apart unknown r = true

-- 15: no earlier ordinary record has an ordinary record's two points, in that order
abbrev pub single : Before → Kind → Record → Bool
single b point r = true
single b link r = true
single b ordinary r = not (b.leads r.a r.b)
single b wait r = true
single b unknown r = true

-- 10: a link's C ends no earlier link; a wait's C is watched, V is not, and V is not C's A
abbrev pub joined : Before → Kind → Record → Bool
joined b point r = true
joined b link r = not (b.end r.b)
joined b ordinary r = true
joined b wait r = b.end r.b && (not (b.end r.a) && not (eqb r.a (b.from r.b)))
joined b unknown r = true

-- 11: 1 ≤ x < y ≤ 100,000; −100,000 ≤ d ≤ 100,000; 1 ≤ w ≤ y
abbrev pub bounded : Before → Kind → Record → Bool
bounded b point r = true
bounded b link r = le_z (pos 1) r.first && (lt_z r.first r.second && le_z r.second (pos farthest))
bounded b ordinary r = le_z (neg_ℤ (pos farthest)) r.first && le_z r.first (pos farthest)
bounded b wait r = le_z (pos 1) r.first && le_z r.first (b.longest r.b)
bounded b unknown r = true

-- 4 to 11 in order, with 15 after 9, for a record r of kind k with byte 3 z, after records that said b, where m ordinary ones are
-- allowed
unfoldable pub number_for_with : ℕ → Kind → Before → Record → ℕ → ℕ
number_for_with m k b r z =
    if not (is_known k) then 4
    else (if not (in_order b r) then 5
    else (if not (room_for_with m b k) then 6
    else (if not (zeros k r z) then 7
    else (if not (named b k r) then 8
    else (if not (apart k r) then 9
    else (if not (single b k r) then 15
    else (if not (joined b k r) then 10
    else (if not (bounded b k r) then 11
    else 0))))))))

abbrev pub number_with : ℕ → Before → Record → ℕ → ℕ
number_with m b r z = number_for_with m (kind_of r.kind) b r z

-- the same with the limit that holds
abbrev pub number_for : Kind → Before → Record → ℕ → ℕ
number_for k b r z = number_for_with most_ordinary k b r z

abbrev pub number_of : Before → Record → ℕ → ℕ
number_of b r z = number_with most_ordinary b r z
