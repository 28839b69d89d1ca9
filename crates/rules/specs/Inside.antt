-- What the functions behind the one-record reader compute. A reader of the rules can leave this page out: the open functions'
-- contracts do not cite it. Assumes nothing.
use Rattle.std.specs.Prelude.{not, ℕ, ◌+◌, ◌≤◌, eqb, pos, if◌then◌else◌, Result, Ok, Err}
use Rattle.points.specs.Sets.{member, with_of}
use Rattle.records.specs.Limits.{most_records}
use Rattle.records.specs.Records.{Kind, point, link, ordinary, wait, unknown, is, one}
use Rattle.records.specs.declared.Record.{Record}
use Rattle.rules.specs.OneRecord.{Before, in_order, room_for, zeros, named, apart, single, joined, bounded, number_of}
use Rattle.rules.specs.declared.Seen.{Seen}
use Rattle.rules.specs.declared.Ending.{Ending}
use Rattle.rules.specs.declared.Kept.{Kept}

-- the counts that are kept, by kind
abbrev pub many_in : Seen → Kind → ℕ
many_in s point = s.points
many_in s link = s.links
many_in s ordinary = s.ordinary
many_in s wait = s.waits
many_in s unknown = 0

-- what is kept of the records so far, of the link that ends at the record's second point, and of the points that ordinary
-- records lead to from its first, as the rules ask for it
abbrev pub told : Seen → Ending → ℕ → Before
told s e seconds =
    record {
      last = s.kind;
      many = many_in s;
      end = member s.watched;
      leads = λ p. member seconds;
      from = λ p. e.from;
      longest = λ p. e.longest;
    }

abbrev pub no_ending : Ending
no_ending = record { from = 0; longest = pos 0 }

-- the rules 5 to 11 and 15, each kept or not
abbrev pub kept_of : Kind → Before → Record → ℕ → Kept
kept_of k b r z =
    record {
      order = in_order b r;
      room = room_for b k;
      zeros = zeros k r z;
      named = named b k r;
      apart = apart k r;
      single = single b k r;
      joined = joined b k r;
      bounded = bounded b k r;
    }

-- the number of the first that is not kept
unfoldable pub broken_of : Kept → ℕ
broken_of k =
    if not k.order then 5
    else (if not k.room then 6
    else (if not k.zeros then 7
    else (if not k.named then 8
    else (if not k.apart then 9
    else (if not k.single then 15
    else (if not k.joined then 10
    else (if not k.bounded then 11
    else 0)))))))

-- no count is past the records that a plan has room for
pub record Few (s : Seen) : Type 0 where
  pub points : s.points ≤ most_records
  pub links : s.links ≤ most_records
  pub ordinary : s.ordinary ≤ most_records
  pub waits : s.waits ≤ most_records

abbrev pub fresh : Seen
fresh = record { kind = 0; points = 0; links = 0; ordinary = 0; waits = 0; watched = 0 }

-- what is kept once r is among the records so far
abbrev pub with_record : Seen → Record → Seen
with_record s r =
    record {
      kind = r.kind;
      points = s.points + one (is point r);
      links = s.links + one (is link r);
      ordinary = s.ordinary + one (is ordinary r);
      waits = s.waits + one (is wait r);
      watched = if is link r then with_of s.watched r.b else s.watched;
    }

-- the one-record reader's answer: what is kept then, or the number of document 01
unfoldable pub one_of : Seen → Ending → ℕ → Record → ℕ → Result Seen ℕ
one_of s e seconds r z =
    if eqb (number_of (told s e seconds) r z) 0 then Ok (with_record s r)
    else Err (number_of (told s e seconds) r z)

-- document 01's number for each answer of the one-record reader
abbrev pub number_in : Result Seen ℕ → ℕ
number_in (Ok s) = 0
number_in (Err k) = k

-- a link is kept by the point that it ends at
abbrev pub ending_after : Record → Ending → Ending
ending_after r e = if is link r then record { from = r.a; longest = r.second } else e

-- an ordinary record is kept by its first point, as one more point that it leads to
abbrev pub seconds_after : Record → ℕ → ℕ
seconds_after r seconds = if is ordinary r then with_of seconds r.b else seconds
