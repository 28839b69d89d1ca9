-- What the functions keep of a word while its bytes go by, how they go over a line's words, and what they answer by it. A reader of
-- the rules can leave this page out: the open functions' contracts above this room do not cite it. Assumes nothing.
use Rattle.std.specs.Prelude.{Bool, true, ◌&&◌, ◌||◌, not, List, [], ◌∷◌, Option, Some, None, ℕ, suc, ◌+◌, ◌%◌, eqb, if◌then◌else◌}
use Rattle.points.specs.Sets.{member, with_of}
use Rattle.values.specs.Inside.{fresh, with, word_in, below_in, kind_in}
use Rattle.values.specs.declared.Seen.{Seen}
use Rattle.phrases.specs.Phrases.{is_lf, is_cr, is_blank, is_hash, is_comma, begins_lf, unless}
use Rattle.phrases.specs.declared.Word.{Word}
use Rattle.phrases.specs.declared.Found.{Found}
use Rattle.phrases.specs.declared.Kind.{Kind}
use Rattle.phrases.specs.declared.Kind.TheVariants.{Point, Link, Ordinary, Wait, Mark, Event}

-- nothing of a word yet
abbrev pub fresh_word : Word
fresh_word = record { seen = fresh; set = 0; good = true; point = fresh }

-- the point that goes by ends
unfoldable pub ended : Word → Word
ended w =
    record {
      seen = w.seen;
      set = with_of w.set (w.point.size % 256);
      good = w.good && (below_in 32 w.point && not (member w.set (w.point.size % 256)));
      point = fresh;
    }

-- as points, with a byte more
abbrev pub pointed : Word → ℕ → Word
pointed w c = if is_comma c then ended w else record { seen = w.seen; set = w.set; good = w.good; point = with w.point c }

-- with a byte more
unfoldable pub with_byte : Word → ℕ → Word
with_byte w c =
    record {
      seen = with w.seen c;
      set = (pointed w c).set;
      good = (pointed w c).good;
      point = (pointed w c).point;
    }

unfoldable pub with_bytes : Word → List ℕ → Word
with_bytes w [] = w
with_bytes w (c ∷ f) = with_bytes (with_byte w c) f

-- a byte that is blank, where `b` says whether an LF is behind it
abbrev pub blank_by : ℕ → Bool → Bool
blank_by c b = is_blank c || (is_cr c && b)

-- a byte that ends a word
abbrev pub ends_by : ℕ → Bool → Bool
ends_by c b = blank_by c b || (is_hash c || is_lf c)

-- the place of the first byte that is not blank, from place i on
unfoldable pub blanks_from : ℕ → List ℕ → ℕ
blanks_from i [] = i
blanks_from i (c ∷ s) = if blank_by c (begins_lf s) then blanks_from (suc i) s else i

-- the word that goes on with the bytes, and the place where it ends
unfoldable pub word_from : Word → ℕ → List ℕ → Found
word_from w i [] = record { word = w; next = i }
word_from w i (c ∷ s) = if ends_by c (begins_lf s) then record { word = w; next = i } else word_from (with_byte w c) (suc i) s

-- the place behind the line's end
unfoldable pub line_end : ℕ → List ℕ → ℕ
line_end i [] = i
line_end i (c ∷ s) = if is_lf c then i + 1 else line_end (suc i) s

-- the first line of a text
unfoldable pub first_line : List ℕ → List ℕ
first_line [] = []
first_line (c ∷ s) = if is_lf c then [] else unless (is_cr c && begins_lf s) c (first_line s)

-- the kinds by number, as `kind_of` has them: those of a plan's records, then the mark and an event
abbrev pub kind_number : Kind → ℕ
kind_number Point = 1
kind_number Link = 2
kind_number Ordinary = 3
kind_number Wait = 4
kind_number Mark = 5
kind_number Event = 6

-- 0 for none
abbrev pub number_named : Option Kind → ℕ
number_named None = 0
number_named (Some k) = kind_number k

-- the answers by what is known of a word
abbrev pub other_kind : Seen → ℕ
other_kind s = if word_in 4 0x6d61726b s then 5 else (if word_in 5 0x6576656e74 s then 6 else 0)

unfoldable pub kind_by : Seen → ℕ
kind_by s = if not (eqb (kind_in s) 0) then kind_in s else other_kind s

abbrev pub none_in : Seen → Bool
none_in s = word_in 4 0x6e6f6e65 s

abbrev pub set_in : Word → Bool
set_in w = none_in w.seen || (ended w).good

abbrev pub set_by : Word → ℕ
set_by w = if none_in w.seen then 0 else (ended w).set

abbrev pub point_or_none_in : Seen → Bool
point_or_none_in s = none_in s || below_in 255 s

abbrev pub point_or_none_by : Seen → ℕ
point_or_none_by s = if none_in s then 255 else s.size % 256
